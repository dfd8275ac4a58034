-- `lines::reading::with_one` meets its contract. Assumes nothing.
use Rattle.std.proofs.Common.{sym, ◌∙◌}
use Rattle.lines.specs.Grammar.{short_number, open_word, remove_word, fetch_word, with_one, command}
use Rattle.lines.proofs.Words.{found_same, one_other}
use Rattle.lines.proofs.reading.with_one.Goals as goal

pub returns-in_err-number : goal.returns-in_err-number
unfolding command
returns-in_err-number c = simp (c.from_residual.ensures, found_same c.args.word.now fetch_word c.eq.ensures c.if-eq.true, sym c.in_err-number.ensures)

pub returns-in_ok-number : goal.returns-in_ok-number
unfolding command
returns-in_ok-number c = simp (found_same c.args.word.now fetch_word c.eq.ensures c.if-eq.true, sym c.number.ensures ∙ c.in_ok-number.was)

pub returns-in_err-short_number : goal.returns-in_err-short_number
unfolding command with_one
returns-in_err-short_number c = simp (c.from_residual-in_err-short_number.ensures, found_same c.args.word.now fetch_word c.eq.ensures c.if-eq.false, sym c.in_err-short_number.ensures)

pub returns-in_ok-short_number : goal.returns-in_ok-short_number
unfolding command with_one
returns-in_ok-short_number c =
    simp (found_same c.args.word.now fetch_word c.eq.ensures c.if-eq.false, sym c.short_number.ensures ∙ c.in_ok-short_number.was, found_same c.args.word.now open_word c.eq-else-eq.ensures c.if-eq-2.true)

pub returns-in_err-short_number-2 : goal.returns-in_err-short_number-2
unfolding command with_one
returns-in_err-short_number-2 c = simp (c.from_residual-in_err-short_number-2.ensures, found_same c.args.word.now fetch_word c.eq.ensures c.if-eq.false, sym c.in_err-short_number-2.ensures)

pub returns-in_ok-short_number-2 : goal.returns-in_ok-short_number-2
unfolding command with_one
returns-in_ok-short_number-2 c =
    simp (
      found_same c.args.word.now fetch_word c.eq.ensures c.if-eq.false,
      sym c.short_number-then-eq-3.ensures ∙ c.in_ok-short_number-2.was,
      found_same c.args.word.now open_word c.eq-else-eq.ensures c.if-eq-2.false,
      found_same c.args.word.now remove_word c.eq-else-eq-2.ensures c.if-eq-3.true,
    )

pub returns-else-eq-3 : goal.returns-else-eq-3
unfolding command
returns-else-eq-3 c =
    rw (found_same c.args.word.now fetch_word c.eq.ensures c.if-eq.false)
    (sym (one_other c.args.word.now (short_number c.args.first.now) (found_same c.args.word.now open_word c.eq-else-eq.ensures c.if-eq-2.false) (found_same c.args.word.now remove_word c.eq-else-eq-2.ensures c.if-eq-3.false)))
