-- `write_held` meets its contract. Assumes nothing.
use Rattle.std.proofs.Common.{arith}
use Rattle.sheets.specs.Sheet.{blocks}
use Rattle.sheets.proofs.leaves.LeafFormBlockForm.write_held.Goals as goal

pub write_leaves-requires : goal.write_leaves-requires
unfolding blocks
write_leaves-requires c = omega arith
