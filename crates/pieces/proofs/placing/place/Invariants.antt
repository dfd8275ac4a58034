-- What the loop of `pieces::placing::place` keeps. Assumes nothing.
use Rattle.std.proofs.Common.{◌≡◌, true}
use Rattle.pieces.specs.Halving.{roomy}
use Rattle.pieces.specs.Placing as placing
use Rattle.pieces.proofs.placing.place.Given as goal

abbrev pub invariant-loop-n : goal.invariant-loop-n
invariant-loop-n l = (placing.place l.c l.board l.name l.weight l.n ≡ placing.placed l.c l.initial.board l.name l.weight) × (roomy l.c l.board l.name l.weight l.n ≡ true)
