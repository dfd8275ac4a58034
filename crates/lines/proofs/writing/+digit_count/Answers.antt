-- `lines::writing::digit_count` meets its contract. Assumes nothing.
use Rattle.std.proofs.Common.{arith, sym, ap, length, ◌/◌}
use Rattle.lines.proofs.Decimals.{decimal_one, decimal_length, digits_two, digits_three, digits_four, digits_past_four}
use Rattle.lines.proofs.writing.+digit_count.Goals as goal

pub returns-then-n-lt10 : goal.returns-then-n-lt10
returns-then-n-lt10 t c = sym (ap length (decimal_one c.args.n c.if-n-lt10.true))

pub returns-then-n-lt100 : goal.returns-then-n-lt100
returns-then-n-lt100 t c = sym (digits_two c.args.n (omega arith) c.if-n-lt100.true)

pub returns-then-n-lt1000 : goal.returns-then-n-lt1000
returns-then-n-lt1000 t c = sym (digits_three c.args.n (omega arith) c.if-n-lt1000.true)

pub returns-then-n-lt10000 : goal.returns-then-n-lt10000
returns-then-n-lt10000 t c = sym (digits_four c.args.n (omega arith) c.if-n-lt10000.true)

pub overflow_add-result : goal.overflow_add-result
overflow_add-result t c = omega (arith, c.digit_count.ensures, decimal_length 19 (c.args.n / 10000) (omega arith))

pub returns : goal.returns
returns t c = omega (arith, c.digit_count.ensures, digits_past_four c.args.n (omega arith))
