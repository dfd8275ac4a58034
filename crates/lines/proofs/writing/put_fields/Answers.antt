-- `lines::writing::put_fields` meets its contract. Assumes nothing.
use Rattle.std.proofs.Common.{refl, ◌∙◌, ◌+◌, ◌≤◌, add-one, arith, length, get_or, length-append, length-take, length-drop}
use Rattle.lines.specs.Printing.{field, fields}
use Rattle.lines.proofs.Decimals.{sets_part, fields_more, fields_fit, fields_put}
use Rattle.lines.proofs.writing.put_fields.Goals as goal
use Rattle.lines.proofs.writing.put_fields.Goals.{In-loop-n}

pub loop-n-init : goal.loop-n-init
unfolding fields
loop-n-init c = (refl, refl)

-- this value has room
room : (c : In-loop-n) → c.loop-n.at + length (field (get_or c.args.values.now c.loop-n.n-index 0)) ≤ length c.loop-n.out
room c = let l = c.loop-n in omega (arith, fields_fit c.args.values.now l.n-index (omega arith), l.invariant.0, l.auto.out)

pub slice_bounds-put_field-count : goal.slice_bounds-put_field-count
slice_bounds-put_field-count c = omega (arith, room (goal.at.slice_bounds-put_field-count c).In-loop-n)

pub slice_bounds-put_field-start : goal.slice_bounds-put_field-start
slice_bounds-put_field-start c = omega (arith, room (goal.at.slice_bounds-put_field-start c).In-loop-n)

pub put_field-at-requires : goal.put_field-at-requires
put_field-at-requires c =
    rw (c.from.ensures, length-take, length-drop) (omega (arith, room (goal.at.put_field-at-requires c).In-loop-n))

pub overflow_add-at : goal.overflow_add-at
overflow_add-at c = omega (arith, room (goal.at.overflow_add-at c).In-loop-n, rw c.from.ensures at c.put_field-at.ensures.0)

pub loop-n-preserved : goal.loop-n-preserved
loop-n-preserved c =
    let a = c.args in
    let l = c.loop-n in
    let v = get_or a.values.now l.n-index 0 in
    let p = rw c.from.ensures at c.put_field-at.ensures in
    let h = room (goal.at.loop-n-preserved c).In-loop-n in (
      rw (add-one, fields_more a.values.now l.n-index (omega arith), length-append) (omega (arith, p.0)),
      rw (p.1, add-one) (sets_part l.out (field v) l.at _ refl h ∙ rw (l.invariant.1, l.invariant.0) (fields_put a.out.now a.values.now l.n-index (omega arith))),
    )
