-- What the loop of `names::find` keeps, and what falls at each turn. Assumes nothing.
use Rattle.names.proofs.Walks.{Walking}
use Rattle.names.proofs.find.Given as goal

abbrev pub invariant-loop-n : goal.invariant-loop-n
invariant-loop-n l = Walking l.cells l.x l.n

abbrev pub decreases-loop-n : goal.decreases-loop-n
decreases-loop-n l = l.n
