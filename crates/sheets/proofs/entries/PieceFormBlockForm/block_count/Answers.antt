-- `block_count` meets its contract. Assumes nothing.
use Rattle.std.proofs.Common.{arith}
use Rattle.sheets.specs.Entries.{entry_blocks}
use Rattle.sheets.proofs.entries.PieceFormBlockForm.block_count.Goals as goal

pub returns : goal.returns
unfolding entry_blocks
returns c = omega arith
