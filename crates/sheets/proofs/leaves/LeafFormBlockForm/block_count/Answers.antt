-- `block_count` meets its contract. Assumes nothing.
use Rattle.std.proofs.Common.{arith}
use Rattle.sheets.specs.Sheet.{blocks}
use Rattle.sheets.proofs.leaves.LeafFormBlockForm.block_count.Goals as goal

pub returns : goal.returns
unfolding blocks
returns c = omega arith
