-- What the loop of `pieces::laying::heaviest` keeps. Assumes nothing.
use Rattle.names.specs.Table.{number_under}
use Rattle.pieces.specs.Laying.{Heaviest}
use Rattle.pieces.proofs.laying.heaviest.Given as goal

abbrev pub invariant-loop-x : goal.invariant-loop-x
invariant-loop-x l = Heaviest (number_under l.sizes) l.names l.x-index l.below l.r
