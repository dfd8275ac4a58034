-- `sum` meets its contract. Assumes nothing.
use Rattle.std.proofs.Common.{sym, arith}
use Rattle.sheets.proofs.Stores.{sum_more, sum_none}
use Rattle.sheets.proofs.blocks.sum.Goals as goal

pub loop-i-init : goal.loop-i-init
loop-i-init c = (omega arith, sym (sum_none _ _))

pub loop-i-preserved : goal.loop-i-preserved
loop-i-preserved c = (omega (arith, c.number_at.ensures.1), sum_more _ _ _ _ _ c.loop-i.invariant.1 c.number_at.ensures.0)
