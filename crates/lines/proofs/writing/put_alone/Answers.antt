-- `lines::writing::put_alone` meets its contract. Assumes nothing.
use Rattle.std.proofs.Common.{arith}
use Rattle.lines.proofs.Written.{alone_length, wrote}
use Rattle.lines.proofs.writing.put_alone.Goals as goal

pub put_line-requires : goal.put_line-requires
put_line-requires c = omega (arith, alone_length c.args.number (omega arith))

pub returns : goal.returns
returns c = wrote _ _ _ _ _ _ c.put_line.ensures (alone_length c.args.number (omega arith)) (omega arith)
