-- The loop of `pieces::listing::exponent_at` keeps: the leaves from a on are a run of one name, of exponent l. Assumes nothing.
use Rattle.std.proofs.Common.{◌≡◌, true, ◌^◌, ◌%◌, get_or}
use Rattle.pieces.specs.Board.{whole}
use Rattle.pieces.proofs.listing.exponent_at.Given as goal

abbrev pub invariant-loop-l : goal.invariant-loop-l
invariant-loop-l l = (l.a % 2 ^ l.l ≡ 0) × (whole l.c l.board (get_or l.board l.a 0) l.a l.l ≡ true)
