-- `read` meets its contract. Assumes nothing.
use Rattle.sheets.proofs.Spelling.{spelled_is}
use Rattle.sheets.proofs.entries.PieceFormSheetForm.read.Goals as goal

pub is_laid-requires : goal.is_laid-requires
is_laid-requires c = rw c.spell.auto.leaves (c.requires.0, c.requires.1, c.requires.2, spelled_is _ _ _ _ c.requires.3 c.spell.ensures)

pub returns : goal.returns
returns c = (rw c.spell.auto.leaves at c.is_laid.ensures, λ laid. spelled_is _ _ _ _ c.requires.3 c.spell.ensures)
