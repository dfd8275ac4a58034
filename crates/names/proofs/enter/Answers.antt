-- `names::enter` meets its contract. Assumes nothing.
use Rattle.std.proofs.Common.{sym, ◌∙◌, arith}
use Rattle.names.proofs.Walks.{row_le, found_none, found_row}
use Rattle.names.proofs.Changes.{entered_again, entered_new}
use Rattle.names.proofs.enter.Goals as goal

pub offset_bounds-cells-n : goal.offset_bounds-cells-n
offset_bounds-cells-n c =
    omega (arith, found_row c.args.cells.now c.args.x c.in-Some.n (sym c.in-Some.is ∙ c.requires.3), row_le _ c.requires.2 c.args.x, c.requires.2.room)

pub bounds-cells-n : goal.bounds-cells-n
bounds-cells-n c =
    omega (arith, found_row c.args.cells.now c.args.x c.in-Some.n (sym c.in-Some.is ∙ c.requires.3), row_le _ c.requires.2 c.args.x, c.requires.2.room, c.requires.2.size)

pub returns-in-None : goal.returns-in-None
returns-in-None c =
    let p = c.requires in
    entered_new c.args.cells.now p.2 c.args.x c.args.v p.0 p.1 (found_none c.args.cells.now c.args.x (sym c.in-None.is ∙ p.3)) (p.4 c.in-None.is) _ c.add.ensures

pub returns-in-Some : goal.returns-in-Some
returns-in-Some c =
    let p = c.requires in
    let f = found_row c.args.cells.now c.args.x c.in-Some.n (sym c.in-Some.is ∙ p.3) in
    rw (← f.0) (entered_again c.args.cells.now p.2 c.args.x c.args.v p.0 p.1 (λ e. f.1 (sym f.0 ∙ e)))
