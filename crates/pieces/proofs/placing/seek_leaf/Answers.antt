-- `pieces::placing::seek_leaf` meets its contract. Assumes nothing.
use Rattle.pieces.proofs.IdleSearch.{spotted_past, spotted_leaf, spotted_taken}
use Rattle.pieces.proofs.placing.seek_leaf.Goals as goal
use Rattle.pieces.proofs.placing.seek_leaf.Goals.{else-a-c-via-then-a-c+else-board-a-eq0, else-a-c-via-else-a-c}

pub returns-then-board-a-eq0 : goal.returns-then-board-a-eq0
returns-then-board-a-eq0 c = λ n. spotted_leaf _ _ _ _ c.if-a-c.true c.if-board-a-eq0.true

pub returns : goal.returns
returns c = elim c.else-a-c.branch [
  | else-a-c-via-then-a-c+else-board-a-eq0 w ↦ λ n. spotted_taken _ _ _ _ w.if-board-a-eq0.false
  | else-a-c-via-else-a-c w ↦ λ n. spotted_past _ _ _ _ _ w.if-a-c.false
]
