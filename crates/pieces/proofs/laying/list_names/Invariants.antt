-- What the loop of `pieces::laying::list_names` keeps. Assumes nothing.
use Rattle.pieces.proofs.LayingOut.{Listing}
use Rattle.pieces.proofs.laying.list_names.Given as goal

abbrev pub invariant-loop-x : goal.invariant-loop-x
invariant-loop-x l = Listing l.sizes l.names l.n l.x
