-- `blocks::write_sheet` meets its contract. Assumes nothing.
use Rattle.std.proofs.Common.{arith}
use Rattle.sheets.proofs.Stores.{pages_none, pages_stores, pages_done}
use Rattle.sheets.proofs.Pages.{block_length}
use Rattle.sheets.proofs.blocks.write_sheet.Goals as goal

pub loop-b-init : goal.loop-b-init
loop-b-init g c = pages_none _ (λ b. block_length _ _ _ (g.met.F.BlockForm.full _ _ b)) _

pub loop-b-preserved : goal.loop-b-preserved
loop-b-preserved g c = pages_stores _ (λ b. block_length _ _ _ (g.met.F.BlockForm.full _ _ b)) _ _ _ _ c.loop-b.invariant c.write_block.ensures

pub returns : goal.returns
returns g c = pages_done _ (λ b. block_length _ _ _ (g.met.F.BlockForm.full _ _ b)) _ _ _ _ c.loop-b.invariant (omega arith) (omega arith)
