-- `pieces::listing::is_lower` meets its contract. Assumes nothing.
use Rattle.std.proofs.Common.{arith}
use Rattle.pieces.proofs.PiecesByStart.{lower_odd, lower_beyond, lower_counted}
use Rattle.pieces.proofs.listing.is_lower.Goals as goal
use Rattle.pieces.proofs.listing.is_lower.Goals.{then-a-size-ne0-via-then-a-size-ne0, then-a-size-ne0-via-else-a-size-ne0+then-c-a}

pub returns-then-a-size-ne0 : goal.returns-then-a-size-ne0
returns-then-a-size-ne0 c = elim c.then-a-size-ne0.branch [
  | then-a-size-ne0-via-then-a-size-ne0 w ↦ lower_odd _ _ _ _ _ c.size_of-size.ensures _ w.if-a-size-ne0.true
  | then-a-size-ne0-via-else-a-size-ne0+then-c-a w ↦ lower_beyond _ _ _ _ _ c.size_of-size.ensures _ w.if-c-a.true
]

pub returns : goal.returns
returns c = lower_counted _ _ _ _ _ c.size_of-size.ensures _ _ c.if-a-size-ne0.false (omega arith) c.count.ensures
