-- `start_block` meets its contract. Assumes nothing.
use Rattle.sheets.proofs.Stores.{head_stores}
use Rattle.sheets.proofs.blocks.start_block.Goals as goal

pub returns : goal.returns
returns c = head_stores _ _ _ _ _ _ c.put_number.ensures c.put_number-2.ensures
