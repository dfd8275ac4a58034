-- `pieces::tidying::twin` meets its contract. Assumes nothing.
use Rattle.std.proofs.Common.{sym, eq-eqb, ne_eqb}
use Rattle.pieces.specs.Tidying as tidying
use Rattle.pieces.proofs.tidying.twin.Goals as goal

pub returns-then-a-e-eq0 : goal.returns-then-a-e-eq0
unfolding tidying.twin
returns-then-a-e-eq0 c = sym (simp (eq-eqb _ _ c.if-a-e-eq0.true, c.size_of.ensures))

pub returns : goal.returns
unfolding tidying.twin
returns c = sym (simp (ne_eqb _ _ c.if-a-e-eq0.false, c.size_of-2.ensures))
