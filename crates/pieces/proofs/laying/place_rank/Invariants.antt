-- What the loop of `pieces::laying::place_rank` keeps. Assumes nothing.
use Rattle.std.proofs.Common.{◌≡◌}
use Rattle.names.specs.Table.{number_under}
use Rattle.pieces.specs.Fresh.{all_placed, Placeables}
use Rattle.pieces.proofs.LayingOut.{left}
use Rattle.pieces.proofs.laying.place_rank.Given as goal

abbrev pub invariant-loop-x : goal.invariant-loop-x
invariant-loop-x l =
    Placeables l.c l.board (left l.c (number_under l.sizes) l.w l.names l.x-index)
    × (all_placed l.c l.board (left l.c (number_under l.sizes) l.w l.names l.x-index) ≡ all_placed l.c l.initial.board (left l.c (number_under l.sizes) l.w l.names 0))
