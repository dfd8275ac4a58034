-- `pieces::listing::exponent_at` meets its contract. Assumes nothing.
use Rattle.std.proofs.Common.{◌≡◌, arith}
use Rattle.pieces.proofs.Entries.{leaf_whole}
use Rattle.pieces.proofs.PiecesByStart.{largest_end, largest_leaf, largest_last, largest_none, lower_more}
use Rattle.pieces.proofs.listing.exponent_at.Goals as goal
use Rattle.pieces.proofs.listing.exponent_at.Goals.{then-c-a-via-then-c-a, then-c-a-via-else-c-a+then-board-a}

pub returns-then-c-a : goal.returns-then-c-a
returns-then-c-a c = elim c.then-c-a.branch [
  | then-c-a-via-then-c-a w ↦ largest_end _ _ _ c.requires.2 w.if-c-a.true
  | then-c-a-via-else-c-a+then-board-a w ↦ largest_leaf _ _ _ c.requires.2 w.if-board-a.true
]

pub loop-l-init : goal.loop-l-init
loop-l-init c = (omega arith, leaf_whole _ _ _ c.requires.2)

pub loop-l-preserved : goal.loop-l-preserved
loop-l-preserved c = lower_more _ _ _ _ _ c.is_lower.ensures c.if-not-is_lower.false c.loop-l.invariant.1

pub returns-then-not-is_lower : goal.returns-then-not-is_lower
returns-then-not-is_lower c = largest_last _ _ _ _ _ c.is_lower.ensures c.if-not-is_lower.true c.loop-l.invariant.0 c.loop-l.invariant.1 (omega arith)

pub returns : goal.returns
returns c = let e : c.loop-l.l ≡ 12 = omega arith in largest_none _ _ _ _ c.requires.1 (omega arith) (omega arith) (rw e at c.loop-l.invariant.1)
