-- `names::zeros` meets its contract. Assumes nothing.
use Rattle.std.proofs.Common.{refl}
use Rattle.general.specs.Lists.{blank}
use Rattle.names.proofs.zeros.Goals as goal

pub returns : goal.returns
unfolding blank
returns g c = refl
