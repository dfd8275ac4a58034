-- `sequences::digits` meets its contract. Assumes nothing.
use Rattle.std.proofs.Common.{arith}
use Rattle.sequences.proofs.Places.{leading_digits}
use Rattle.sequences.proofs.digits.Goals as goal

pub returns : goal.returns
returns c = omega (arith, leading_digits 64 c.args.c c.ranges.c.fits)
