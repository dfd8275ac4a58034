-- `tables::settling::copy_table` meets its contract. Assumes nothing.
use Rattle.std.proofs.Common.{arith}
use Rattle.tables.proofs.Fronts.{written_copy}
use Rattle.tables.proofs.settling.copy_table.Goals as goal

pub returns : goal.returns
returns c = rw c.copy_from_slice.ensures.after (written_copy c.args.table.now c.args.to.now c.args.c (omega arith) (omega arith))
