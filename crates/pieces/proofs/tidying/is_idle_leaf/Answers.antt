-- `pieces::tidying::is_idle_leaf` meets its contract. Assumes nothing.
use Rattle.std.proofs.Common.{refl, le-ltb}
use Rattle.pieces.proofs.IdleListing.{listed_past, listed_leaf}
use Rattle.pieces.proofs.tidying.is_idle_leaf.Goals as goal

pub returns-then-a-c : goal.returns-then-a-c
returns-then-a-c c = λ S. listed_leaf _ _ _ _ _ refl c.if-a-c.true

pub returns-else-a-c : goal.returns-else-a-c
returns-else-a-c c = λ S. rw (le-ltb _ _ c.if-a-c.false) (listed_past _ _ _ _ _ c.if-a-c.false)
