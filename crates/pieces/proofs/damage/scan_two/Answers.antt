-- `pieces::damage::scan_two` meets its contract. Assumes nothing.
use Rattle.std.proofs.Common.{refl, sym, ◌∙◌, arith}
use Rattle.pieces.proofs.Blocks.{whole_end}
use Rattle.pieces.proofs.DamageTest.{scanned_run, scanned_low, scanned_both}
use Rattle.pieces.proofs.damage.scan_two.Goals as goal

pub bounds-board-a : goal.bounds-board-a
bounds-board-a c = omega (arith, whole_end _ _ _ _ _ (sym c.is_run.ensures ∙ c.if-is_run.true), c.requires.block.long)

pub returns-then-is_run : goal.returns-then-is_run
returns-then-is_run c = scanned_run _ _ _ _ _ _ _ _ (sym c.is_run.ensures ∙ c.if-is_run.true) (omega arith) c.note.ensures

pub returns-then-scan_leaf : goal.returns-then-scan_leaf
returns-then-scan_leaf c = rw c.if-scan_leaf.true (scanned_low _ _ _ _ _ refl (sym c.is_run.ensures ∙ c.if-is_run.false) _ _ (rw c.if-scan_leaf.true at c.scan_leaf.ensures))

pub returns-else-scan_leaf : goal.returns-else-scan_leaf
returns-else-scan_leaf c = scanned_both _ _ _ _ _ refl (sym c.is_run.ensures ∙ c.if-is_run.false) _ _ _ _ (rw c.if-scan_leaf.false at c.scan_leaf.ensures) c.scan_leaf-else-scan_leaf.ensures
