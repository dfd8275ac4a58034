-- `position` meets its contract. Assumes nothing.
use Rattle.std.proofs.Common.{rules}
use Rattle.sheets.specs.Entries.{position_in}
use Rattle.sheets.proofs.entries.PieceFormSheetForm.position.Goals as goal

pub returns : goal.returns
unfolding position_in
returns c = search rules
