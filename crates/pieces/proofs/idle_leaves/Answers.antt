-- `pieces::idle_leaves` meets its contract. Assumes nothing.
use Rattle.std.proofs.Common.{sym, ◌∙◌, ◌+◌, ◌^◌, ◌≤◌}
use Rattle.pieces.proofs.LoopSteps.{count_whole, count_taken}
use Rattle.pieces.proofs.idle_leaves.Goals as goal
use Rattle.pieces.proofs.idle_leaves.Goals.{After-size_of-size}

-- what is counted lies on the board
on_board : (c : After-size_of-size) → let a = c.args in a.a + 2 ^ a.l ≤ a.c
on_board c = c.countable.ensures c.if-not-countable.false

pub returns-then-n-eq0 : goal.returns-then-n-eq0
returns-then-n-eq0 c = count_taken _ _ _ _ _ c.size_of-size.ensures (sym c.count-n.ensures ∙ c.if-n-eq0.true)

pub returns-then-n-size : goal.returns-then-n-size
returns-then-n-size c = count_whole _ _ _ _ _ _ c.size_of-size.ensures (on_board (goal.at.returns-then-n-size c).After-size_of-size) (sym c.count-n.ensures ∙ c.if-n-size.true)
