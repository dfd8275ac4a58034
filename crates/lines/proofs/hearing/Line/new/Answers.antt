-- `lines::hearing::Line::new` meets its contract. Assumes nothing.
use Rattle.std.proofs.Common.{refl}
use Rattle.general.specs.Lists.{blank}
use Rattle.lines.proofs.hearing.Line.new.Goals as goal

pub returns : goal.returns
unfolding blank
returns c = refl
