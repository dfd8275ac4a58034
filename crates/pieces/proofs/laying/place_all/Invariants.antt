-- What the loop of `pieces::laying::place_all` keeps, and what falls at each turn. Assumes nothing.
use Rattle.std.proofs.Common.{◌≡◌}
use Rattle.names.specs.Table.{number_under}
use Rattle.pieces.specs.Fresh.{all_placed, ranks, Placeables}
use Rattle.pieces.proofs.laying.place_all.Given as goal

abbrev pub invariant-loop-w : goal.invariant-loop-w
invariant-loop-w l =
    Placeables l.c l.board (ranks (number_under l.sizes) l.names l.w)
    × (all_placed l.c l.board (ranks (number_under l.sizes) l.names l.w) ≡ all_placed l.c l.initial.board (ranks (number_under l.sizes) l.names l.c))

abbrev pub decreases-loop-w : goal.decreases-loop-w
decreases-loop-w l = l.w
