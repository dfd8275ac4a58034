-- `is_laid` meets its contract. Assumes nothing.
use Rattle.std.proofs.Common.{sym, ◌∙◌, length, arith}
use Rattle.calls.proofs.Laws.{Sized}
use Rattle.sheets.proofs.Spelling.{entries_laid_not, entries_laid_all}
use Rattle.sheets.proofs.entries.is_laid.Goals as goal

pub returns-then-is_ok : goal.returns-then-is_ok
returns-then-is_ok c =
    let sized : Sized (length c.args.leaves.now) c.args.leaves.now = record { some = c.requires.0; few = c.requires.1; long = omega arith } in
    entries_laid_all _ _ _ _ _ c.number_at-p.ensures.0 sized (rw c.new-drive.ensures at c.check_slot.ensures) _ (sym c.is_ok.ensures.value ∙ c.if-is_ok.true) c.requires.3 c.is_sheet_of.ensures

pub returns-else-is_ok : goal.returns-else-is_ok
returns-else-is_ok c =
    let sized : Sized (length c.args.leaves.now) c.args.leaves.now = record { some = c.requires.0; few = c.requires.1; long = omega arith } in
    c.if-is_ok.false ∙ entries_laid_not _ _ _ _ _ c.number_at-p.ensures.0 sized (rw c.new-drive.ensures at c.check_slot.ensures) (sym c.is_ok.ensures.value ∙ c.if-is_ok.false)
