-- `pieces::damage::note` meets its contract. Assumes nothing.
use Rattle.std.proofs.Common.{◌+◌, ◌^◌, ◌<◌, arith}
use Rattle.names.specs.Table.{number_under}
use Rattle.names.proofs.Laws.{number_small}
use Rattle.pieces.proofs.DamageTest.{add_fits, noted_again, noted_new}
use Rattle.pieces.proofs.damage.note.Goals as goal
use Rattle.pieces.proofs.damage.note.Goals.{After-size_of}

pub returns-then-mask-h-eq1 : goal.returns-then-mask-h-eq1
returns-then-mask-h-eq1 c =
    noted_again c.args.x c.args.h c.args.sizes.now c.requires.1 (rw c.find-mask.ensures.number at c.if-mask-h-eq1.true)

-- the mask with the new size has twelve digits
fits : (c : After-size_of) → let a = c.args in number_under a.sizes.now a.x + 2 ^ a.h < 4096
fits c =
    let left = rw c.find-mask.ensures.number at c.if-mask-h-eq1.false in
    add_fits (number_under c.args.sizes.now c.args.x) c.args.h (number_small c.args.sizes.now c.requires.1 c.args.x) c.requires.0 (omega arith)

pub overflow_add-mask : goal.overflow_add-mask
overflow_add-mask c = omega (arith, c.find-mask.ensures.number, c.size_of.ensures, fits (goal.at.overflow_add-mask c).After-size_of)

pub enter-requires : goal.enter-requires
enter-requires c =
    let f = c.find-mask.ensures in
    (omega arith, omega (arith, f.number, c.size_of.ensures, fits (goal.at.enter-requires c).After-size_of), c.requires.1, f.row, λ _. c.requires.2)

pub returns : goal.returns
returns c =
    let f = c.find-mask.ensures.number in
    noted_new c.args.x c.args.h c.args.sizes.now _ (rw f at c.if-mask-h-eq1.false) (rw (f, c.size_of.ensures) at c.enter.ensures)
