-- `read_block` meets its contract. Assumes nothing.
use Rattle.std.proofs.Common.{◌∙◌, ◌<◌, arith}
use Rattle.sheets.proofs.Layouts.{leaf_at_lem}
use Rattle.sheets.proofs.Stores.{leaves_none, leaves_more}
use Rattle.sheets.proofs.leaves.read_block.Goals as goal

pub loop-i-init : goal.loop-i-init
loop-i-init c = leaves_none _ _ _

pub loop-i-preserved : goal.loop-i-preserved
loop-i-preserved c =
    let held : c.loop-i.i < 253 = omega arith in
    leaves_more _ _ _ _ _ _ c.loop-i.invariant (c.number_at.ensures.0 ∙ leaf_at_lem _ _ _ held)
