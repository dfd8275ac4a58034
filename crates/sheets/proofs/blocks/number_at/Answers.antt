-- `number_at` meets its contract: a byte is below 256. Assumes nothing.
use Rattle.std.proofs.Common.{◌*◌, ◌+◌, arith}
use Rattle.sheets.specs.Blocks.{number_at}
use Rattle.sheets.proofs.blocks.number_at.Goals as goal

pub returns : goal.returns
unfolding number_at
returns c = omega (arith, c.from.ensures, c.from-2.ensures, c.type_inv.sheet (2 * c.args.i), c.type_inv.sheet (2 * c.args.i + 1))
