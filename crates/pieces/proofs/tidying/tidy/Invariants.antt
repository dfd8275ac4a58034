-- What the loop of `pieces::tidying::tidy` keeps. Assumes nothing.
use Rattle.std.proofs.Common.{◌≡◌}
use Rattle.pieces.specs.Tidying as tidying
use Rattle.pieces.proofs.tidying.tidy.Given as goal

abbrev pub invariant-loop-step : goal.invariant-loop-step
invariant-loop-step l = l.board ≡ tidying.tidy l.c l.initial.board l._step
