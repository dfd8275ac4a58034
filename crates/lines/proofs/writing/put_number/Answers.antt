-- `lines::writing::put_number` meets its contract. Assumes nothing.
use Rattle.std.proofs.Common.{refl, ap, arith, length}
use Rattle.lines.proofs.Decimals.{decimal_one}
use Rattle.lines.proofs.writing.put_number.Goals as goal

pub bounds-out-0 : goal.bounds-out-0
bounds-out-0 c = omega (arith, c.requires, ap length (decimal_one c.args.n c.if-n-lt10.true))

pub returns-then-n-lt10 : goal.returns-then-n-lt10
returns-then-n-lt10 c = rw (decimal_one c.args.n c.if-n-lt10.true) (refl, refl)
