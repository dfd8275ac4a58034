-- `pieces::tidying::list_idle` meets its contract. Assumes nothing.
use Rattle.std.proofs.Common.{arith}
use Rattle.pieces.proofs.IdleListing.{listed_past, listed_none, listed_run, listed_halves}
use Rattle.pieces.proofs.LoopSteps.{pow_half}
use Rattle.pieces.proofs.tidying.+list_idle.Goals as goal

pub returns-then-c-a : goal.returns-then-c-a
returns-then-c-a t c = listed_past _ _ _ _ _ c.if-c-a.true

pub returns-then-l-eq0 : goal.returns-then-l-eq0
returns-then-l-eq0 t c = rw c.if-l-eq0.true (c.is_idle_leaf.ensures _)

pub returns-in-None : goal.returns-in-None
returns-in-None t c = listed_none _ _ _ _ _ (rw c.in-None.is at c.idle_leaves.ensures)

pub returns-in-All : goal.returns-in-All
returns-in-All t c = listed_run _ _ _ _ _ (rw c.in-All.is at c.idle_leaves.ensures)

pub list_idle-g-requires : goal.list_idle-g-requires
list_idle-g-requires t c = omega (arith, pow_half c.args.l (λ e. omega arith))

pub list_idle-f-requires : goal.list_idle-f-requires
list_idle-f-requires t c = omega (arith, pow_half c.args.l (λ e. omega arith))

pub returns : goal.returns
returns t c = listed_halves _ _ _ _ _ _ _ _ _ _ _ _ _ (omega (arith, c.size_of.ensures)) (omega arith) (omega arith) (omega arith) c.list_idle-g.ensures c.list_idle-f.ensures c.meet_idle.ensures
