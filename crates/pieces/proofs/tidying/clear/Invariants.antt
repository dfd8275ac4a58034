-- What the loop of `pieces::tidying::clear` keeps. Assumes nothing.
use Rattle.std.proofs.Common.{◌≡◌}
use Rattle.pieces.specs.Tidying as tidying
use Rattle.pieces.proofs.tidying.clear.Given as goal

abbrev pub invariant-loop-i : goal.invariant-loop-i
invariant-loop-i l = l.board ≡ tidying.clear l.initial.board l.name l.i
