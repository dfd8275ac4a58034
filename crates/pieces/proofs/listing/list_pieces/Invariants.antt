-- The loop of `pieces::listing::list_pieces` keeps: what is left to list from the leaf a on gives the list asked for. Assumes nothing.
use Rattle.std.proofs.Common.{◌≡◌, ◌-◌, ◌*◌, ◌≤◌, length}
use lib.Seq.{sets}
use Rattle.pieces.specs.Listing.{named_pieces}
use Rattle.pieces.proofs.PiecesByStart.{Left}
use Rattle.pieces.proofs.listing.list_pieces.Given as goal

abbrev pub invariant-loop-a : goal.invariant-loop-a
invariant-loop-a l =
    (l.a ≤ l.c) × (l.n ≤ 3 * l.a) × (length l.list ≡ length l.initial.list) × Left l.c l.board l.a l.n l.list (sets l.initial.list 0 (named_pieces l.c l.board)) (length (named_pieces l.c l.board))

abbrev pub decreases-loop-a : goal.decreases-loop-a
decreases-loop-a l = l.c - l.a
