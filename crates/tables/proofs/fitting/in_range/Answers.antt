-- `tables::fitting::in_range` meets its contract. Assumes nothing.
use Rattle.tables.proofs.Holding.{range_told}
use Rattle.tables.proofs.fitting.in_range.Goals as goal

pub returns : goal.returns
returns c = rw c.saturating_sub-w.ensures (range_told c.args.r c.args.v)
