-- `pieces::placing::seek` meets its contract. Assumes nothing.
use Rattle.std.proofs.Common.{sym, ◌∙◌, arith}
use Rattle.pieces.proofs.IdleSearch.{spotted_past, spotted_none, spotted_enough, spotted_join}
use Rattle.pieces.proofs.LoopSteps.{pow_half}
use Rattle.pieces.proofs.placing.+seek.Goals as goal

pub returns-then-c-a : goal.returns-then-c-a
returns-then-c-a t c = spotted_past _ _ _ _ _ c.if-c-a.true

pub returns-in-None : goal.returns-in-None
returns-in-None t c = spotted_none _ _ _ _ _ (rw c.in-None.is at c.idle_leaves.ensures)

pub seek-f-requires : goal.seek-f-requires
seek-f-requires t c = omega (arith, pow_half c.args.l (λ e. omega arith))

pub returns-then-is_enough : goal.returns-then-is_enough
returns-then-is_enough t c = spotted_enough _ _ _ _ _ _ _ (omega arith) c.seek-f.ensures (sym c.is_enough.ensures ∙ c.if-is_enough.true)

pub seek-g-requires : goal.seek-g-requires
seek-g-requires t c = omega (arith, pow_half c.args.l (λ e. omega arith))

pub returns : goal.returns
returns t c = rw c.join.ensures (spotted_join _ _ _ _ _ _ _ _ (omega arith) c.seek-f.ensures (rw c.size_of.ensures at c.seek-g.ensures))
