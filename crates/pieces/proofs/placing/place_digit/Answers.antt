-- `pieces::placing::place_digit` meets its contract. Assumes nothing.
use Rattle.pieces.proofs.LoopSteps.{roomy_fitting}
use Rattle.pieces.proofs.placing.place_digit.Goals as goal

pub place_power-requires : goal.place_power-requires
place_power-requires c = roomy_fitting _ _ _ _ _ c.requires c.if-weight-n-eq1.true
