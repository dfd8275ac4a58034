-- `tables::settling::mark_leaves` meets its contract. Assumes nothing.
use Rattle.std.proofs.Common.{◌≡◌, sym, ap, ◌∙◌, ℕ, ◌<◌, arith, length-take-le}
use Rattle.std.proofs.lemmas.List.{get_or-take}
use Rattle.tables.proofs.Marking.{marked_start, marked_end, marked_next}
use Rattle.tables.specs.Looking as looking
use Rattle.tables.proofs.settling.mark_leaves.Goals as goal

pub loop-i-init : goal.loop-i-init
loop-i-init c =
    let e = c.requires.2 in
    (omega arith, e.table, omega (arith, e.none), λ x l. e.numbers x ∙ sym (marked_start _ _ x))

pub loop-i-preserved : goal.loop-i-preserved
loop-i-preserved c =
    let a = c.args in
    let L = c.loop-i in
    let long = length-take-le a.c a.board.now c.requires.0 in
    let below : L.i < a.c = omega arith in
    let leaf = get_or-take a.c a.board.now L.i 0 below in
    let e = c.mark_leaf.ensures in
    (omega arith, e.table, omega (arith, e.many, L.invariant.2), marked_next a.c a.board.now L.i _ L.marks _ below leaf e L.invariant.3 (omega (arith, leaf, c.type_inv.board L.i)))

pub returns : goal.returns
returns c =
    let e : c.loop-i.i ≡ c.args.c = omega (arith, length-take-le c.args.c c.args.board.now c.requires.0) in
    record {
      table = c.loop-i.invariant.1;
      marks = λ x l. c.loop-i.invariant.3 x l ∙ ap (λ (k : ℕ). looking.marked c.args.c c.args.board.now k x) e ∙ marked_end _ _ x;
    }
