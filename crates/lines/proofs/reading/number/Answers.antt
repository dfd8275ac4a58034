-- `lines::reading::number` meets its contract. Assumes nothing.
use Rattle.std.proofs.Common.{◌≡◌, ◌+◌, ◌-◌, ◌*◌, true, None, sym, ◌∙◌, add-one, arith, get_or}
use Rattle.lines.specs.Grammar.{is_digit}
use Rattle.lines.proofs.Spelling.{numeral_empty, numeral_long, numeral_read, read_stop, read_more, read_over, read_end}
use Rattle.lines.proofs.reading.number.Goals as goal
use Rattle.lines.proofs.reading.number.Goals.{then-is_empty-via-then-is_empty, then-is_empty-via-else-is_empty+then-most-word}

pub returns-then-is_empty : goal.returns-then-is_empty
returns-then-is_empty c = elim c.then-is_empty.branch [
  | then-is_empty-via-then-is_empty w ↦ sym (numeral_empty _ _ _ (grind arith))
  | then-is_empty-via-else-is_empty+then-most-word w ↦ sym (numeral_long _ _ _ w.if-most-word.true)
]

pub loop-b-init : goal.loop-b-init
loop-b-init c = (omega arith, numeral_read _ _ _ (grind arith) c.if-most-word.false)

pub returns-then-not-is_ascii_digit : goal.returns-then-not-is_ascii_digit
unfolding is_digit
returns-then-not-is_ascii_digit c = let a = c.args in let l = c.loop-b in sym (l.invariant.1 ∙ read_stop a.limit l.value a.word.now l.b-index (omega arith) (grind arith))

pub returns-in_err-checked_mul : goal.returns-in_err-checked_mul
unfolding is_digit
returns-in_err-checked_mul c = let a = c.args in let l = c.loop-b in
    let r : c.from_residual.result ≡ None = grind arith in
    let m : is_digit (get_or a.word.now l.b-index 0) ≡ true = grind arith in
    rw r (sym (l.invariant.1 ∙ read_more a.limit l.value a.word.now l.b-index (omega arith) m ∙ read_over _ _ _ (grind arith)))

pub returns-in_err-value : goal.returns-in_err-value
unfolding is_digit
returns-in_err-value c = let a = c.args in let l = c.loop-b in
    let r : c.from_residual-in_err-value.result ≡ None = grind arith in
    let m : is_digit (get_or a.word.now l.b-index 0) ≡ true = grind arith in
    rw r (sym (l.invariant.1 ∙ read_more a.limit l.value a.word.now l.b-index (omega arith) m ∙ read_over _ _ _ (grind arith)))

pub returns-then-limit-value : goal.returns-then-limit-value
unfolding is_digit
returns-then-limit-value c = let a = c.args in let l = c.loop-b in
    let m : is_digit (get_or a.word.now l.b-index 0) ≡ true = grind arith in
    sym (l.invariant.1 ∙ read_more a.limit l.value a.word.now l.b-index (omega arith) m ∙ read_over _ _ _ (grind arith))

pub loop-b-preserved : goal.loop-b-preserved
unfolding is_digit
loop-b-preserved c = let a = c.args in let l = c.loop-b in
    let m : is_digit (get_or a.word.now l.b-index 0) ≡ true = grind arith in
    let e : c.in_ok-value.value ≡ l.value * 10 + (get_or a.word.now l.b-index 0 - 48) = grind arith in
    (omega arith, rw (add-one, e) (l.invariant.1 ∙ read_more a.limit l.value a.word.now l.b-index (omega arith) m))

pub returns : goal.returns
returns c = let a = c.args in let l = c.loop-b in sym (l.invariant.1 ∙ read_end a.limit l.value a.word.now l.b-index (omega arith) (omega arith))
