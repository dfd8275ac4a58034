-- `tables::settling::take_mark` meets its contract. Assumes nothing.
use Rattle.std.proofs.Common.{◌≡◌, sym, subst, ◌∙◌, ℕ, arith}
use Rattle.names.specs.Table.{Entered, number_under}
use Rattle.names.proofs.Laws.{number_small, number_none, found_none, entered_same}
use Rattle.tables.proofs.settling.take_mark.Goals as goal

pub overflow_cast-m : goal.overflow_cast-m
overflow_cast-m c =
    omega (arith, c.find-mark.ensures.number, number_small c.args.marks.now c.requires.1 c.args.x)

pub returns-then-m-eq0 : goal.returns-then-m-eq0
returns-then-m-eq0 c =
    let none : number_under c.args.marks.now c.args.x ≡ 0 = sym c.find-mark.ensures.number ∙ c.if-m-eq0.true in
    (sym none, subst (λ (v : ℕ). Entered c.args.marks.now c.args.marks.now c.args.x v) none (entered_same c.args.marks.now c.requires.1 c.args.x))

pub enter-requires : goal.enter-requires
enter-requires c =
    let f = c.find-mark.ensures in
    (c.requires.0, omega arith, c.requires.1, f.row, λ z. absurd (c.if-m-eq0.false (f.number ∙ number_none c.args.marks.now c.requires.1 c.args.x (found_none c.args.marks.now c.args.x (sym z ∙ f.row)))))

pub returns : goal.returns
returns c = (c.find-mark.ensures.number, c.enter.ensures)
