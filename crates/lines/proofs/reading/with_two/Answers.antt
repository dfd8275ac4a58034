-- `lines::reading::with_two` meets its contract. Assumes nothing.
use Rattle.std.proofs.Common.{sym, ◌∙◌}
use Rattle.lines.specs.Grammar.{add_word, short_number, with_two}
use Rattle.lines.proofs.Words.{found_same, two_none, two_other}
use Rattle.lines.proofs.reading.with_two.Goals as goal

pub returns-in_err-short_number : goal.returns-in_err-short_number
unfolding with_two
returns-in_err-short_number c = simp (c.from_residual.ensures, sym c.in_err-short_number.ensures)

pub returns-in_err-short_number-2 : goal.returns-in_err-short_number-2
returns-in_err-short_number-2 c = rw (c.from_residual-in_err-short_number-2.ensures, ← c.in_err-short_number-2.ensures) (sym (two_none c.args.word.now (short_number c.args.first.now)))

pub returns-in_ok-short_number-2 : goal.returns-in_ok-short_number-2
unfolding with_two
returns-in_ok-short_number-2 c = simp (sym c.short_number.ensures ∙ c.in_ok-short_number.was, sym c.short_number-then-eq.ensures ∙ c.in_ok-short_number-2.was, found_same c.args.word.now add_word c.eq.ensures c.if-eq.true)

pub returns-else-eq : goal.returns-else-eq
returns-else-eq c = sym (two_other c.args.word.now (short_number c.args.first.now) (short_number c.args.second.now) (found_same c.args.word.now add_word c.eq.ensures c.if-eq.false))
