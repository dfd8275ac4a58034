-- `lines::writing::put_digits` meets its contract. Assumes nothing.
use Rattle.std.proofs.Common.{◌≡◌, ◌++◌, ◌/◌, refl, sym, ap, ◌∙◌, arith, length, length-set, drop}
use Rattle.std.specs.Fmt as text
use Rattle.lines.specs.Printing.{decimal}
use Rattle.lines.proofs.Decimals.{decimal_one, decimal_more, decimal_written, digits_two, sets_front}
use Rattle.lines.proofs.writing.put_digits.Goals as goal

pub bounds-out-0 : goal.bounds-out-0
bounds-out-0 c = let d = digits_two c.args.n (omega arith) (omega arith) in omega (arith, d, c.requires)

pub bounds-out-1 : goal.bounds-out-1
bounds-out-1 c = let d = digits_two c.args.n (omega arith) (omega arith) in grind (arith, d, length-set)

pub write_digits-requires : goal.write_digits-requires
write_digits-requires c =
    let e = ap length (decimal_written c.args.n (omega arith)) in
    (omega (arith, e, c.digit_count-count.ensures), omega (arith, c.digit_count-count.ensures))

pub returns-then-n-ge10 : goal.returns-then-n-ge10
returns-then-n-ge10 c =
    let n = c.args.n in
    rw (decimal_more n (omega arith), decimal_one (n / 10) (omega arith)) (refl, refl)

pub returns : goal.returns
returns c =
    let n = c.args.n in
    let out = c.args.out.now in
    let e = decimal_written n (omega arith) in
    let l = c.digit_count-count.ensures in
    let z : c.write_digits.result ≡ 0 = omega (arith, c.write_digits.ensures.start, l, ap length e) in
    let w : c.write_digits.new.buf ≡ text.decimal n ++ drop c.digit_count-count.result out = rw z at c.write_digits.ensures.written in
    (l, w ∙ rw (← e, l) (sym (sets_front (decimal n) out (omega arith))))
