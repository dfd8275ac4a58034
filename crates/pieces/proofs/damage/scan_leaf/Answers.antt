-- `pieces::damage::scan_leaf` meets its contract. Assumes nothing.
use Rattle.std.proofs.Common.{arith, le-ltb}
use Rattle.pieces.proofs.Entries.{leaf_whole}
use Rattle.pieces.proofs.DamageTest.{scanned_past, scanned_run}
use Rattle.pieces.proofs.damage.scan_leaf.Goals as goal

pub returns-then-a-c : goal.returns-then-a-c
returns-then-a-c c = scanned_run _ _ _ _ _ _ _ _ (leaf_whole _ _ _ c.if-a-c.true) (omega arith) c.note.ensures

pub returns-else-a-c : goal.returns-else-a-c
returns-else-a-c c = rw (le-ltb _ _ c.if-a-c.false) (scanned_past _ _ _ _ _ c.requires.table c.if-a-c.false)
