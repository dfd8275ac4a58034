-- `blocks::write_block` meets its contract. Assumes nothing.
use Rattle.sheets.proofs.Stores.{block_stores}
use Rattle.sheets.proofs.blocks.write_block.Goals as goal

pub returns : goal.returns
returns g c =
    let held = c.write_held-t.ensures in
    let number = c.number-number.ensures.0 in
    block_stores _ _ _ _ _ _ _ _ _ (g.met.F.BlockForm.full _ _ _) (rw number at c.start_block.ensures) held.2 held.0 (rw number at c.close_block.ensures)
