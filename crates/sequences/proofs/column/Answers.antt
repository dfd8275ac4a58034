-- `sequences::column` meets its contract. Assumes nothing.
use Rattle.std.proofs.Common.{arith}
use Rattle.sequences.proofs.Stepping.{column_64}
use Rattle.sequences.proofs.column.Goals as goal

pub overflow_sub-result : goal.overflow_sub-result
overflow_sub-result c = omega (arith, column_64 c.args.c c.args.p c.requires)

pub returns : goal.returns
returns c = omega (arith, column_64 c.args.c c.args.p c.requires)
