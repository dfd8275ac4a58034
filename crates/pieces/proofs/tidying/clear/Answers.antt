-- `pieces::tidying::clear` meets its contract. Assumes nothing.
use Rattle.std.proofs.Common.{refl, ◌∙◌}
use Rattle.pieces.proofs.LoopSteps.{clear_hit, clear_miss}
use Rattle.pieces.specs.Tidying as tidying
use Rattle.pieces.proofs.tidying.clear.Goals as goal
use Rattle.pieces.proofs.tidying.clear.Goals.{else-board-i, then-board-i}

pub loop-i-init : goal.loop-i-init
unfolding tidying.clear
loop-i-init c = refl

pub loop-i-preserved : goal.loop-i-preserved
loop-i-preserved c = elim c.if-board-i.branch [
  | then-board-i w ↦ w.board-is ∙ clear_hit _ _ _ c.loop-i.invariant w.if-board-i.true
  | else-board-i w ↦ w.board-is ∙ clear_miss _ _ _ c.loop-i.invariant w.if-board-i.false
]
