-- `lines::writing::put_done` meets its contract. Assumes nothing.
use Rattle.std.proofs.Common.{arith}
use Rattle.lines.proofs.Written.{names_length, wrote}
use Rattle.lines.proofs.writing.put_done.Goals as goal

pub put_line-requires : goal.put_line-requires
put_line-requires c = omega (arith, names_length 0 c.args.values.now (omega arith) (λ i. omega (arith, c.type_inv.values i)))

pub returns : goal.returns
returns c = wrote _ _ _ _ _ _ c.put_line.ensures (names_length 0 c.args.values.now (omega arith) (λ i. omega (arith, c.type_inv.values i))) (omega arith)
