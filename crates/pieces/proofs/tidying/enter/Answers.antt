-- `pieces::tidying::enter` meets its contract. Assumes nothing.
use Rattle.std.proofs.Common.{refl}
use Rattle.pieces.specs.Halving.{entered}
use Rattle.pieces.proofs.tidying.enter.Goals as goal

pub returns : goal.returns
unfolding entered
returns c = refl
