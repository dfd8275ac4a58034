-- `pieces::placing::place` meets its contract. Assumes nothing.
use Rattle.std.proofs.Common.{refl, ◌∙◌, arith}
use Rattle.pieces.proofs.LoopSteps.{placeable_roomy, place_more, place_none, roomy_more}
use Rattle.pieces.proofs.placing.place.Goals as goal

pub loop-n-init : goal.loop-n-init
loop-n-init c = (refl, placeable_roomy _ _ _ _ c.requires)

pub loop-n-preserved : goal.loop-n-preserved
loop-n-preserved c = (rw c.place_digit.ensures (place_more _ _ _ _ _ (omega arith) ∙ c.loop-n.invariant.0), rw c.place_digit.ensures (roomy_more _ _ _ _ _ (omega arith) c.loop-n.invariant.1))

pub returns : goal.returns
returns c = place_none _ _ _ _ _ (omega arith) ∙ c.loop-n.invariant.0
