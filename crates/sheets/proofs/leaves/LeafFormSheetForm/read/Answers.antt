-- `read` meets its contract. Assumes nothing.
use Rattle.std.proofs.Common.{arith}
use Rattle.sheets.proofs.Layouts.{laid_layout}
use Rattle.sheets.proofs.leaves.LeafFormSheetForm.read.Goals as goal

pub read_leaves-requires : goal.read_leaves-requires
read_leaves-requires c =
    let layout = laid_layout _ _ c.requires.4 in
    omega (arith, layout.long)
