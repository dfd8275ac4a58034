-- `lines::writing::put_line` meets its contract. Assumes nothing.
use Rattle.std.proofs.Common.{arith, length-take, length-drop}
use Rattle.lines.proofs.Decimals.{feed_place, line_put, line_length}
use Rattle.lines.proofs.writing.put_line.Goals as goal

pub put_number-at-requires : goal.put_number-at-requires
put_number-at-requires c = omega (arith, line_length c.args.number c.args.values.now)

pub slice_bounds-put_fields-count : goal.slice_bounds-put_fields-count
slice_bounds-put_fields-count c = omega (arith, line_length c.args.number c.args.values.now, c.put_number-at.ensures.0, c.put_number-at.auto.out)

pub slice_bounds-put_fields-start : goal.slice_bounds-put_fields-start
slice_bounds-put_fields-start c = omega (arith, line_length c.args.number c.args.values.now, c.put_number-at.ensures.0, c.put_number-at.auto.out)

pub put_fields-at-requires : goal.put_fields-at-requires
put_fields-at-requires c = rw (length-take, length-drop) (omega (arith, line_length c.args.number c.args.values.now, c.put_number-at.ensures.0, c.put_number-at.auto.out))

pub overflow_add-at : goal.overflow_add-at
overflow_add-at c = omega (arith, line_length c.args.number c.args.values.now, c.put_number-at.ensures.0, c.put_fields-at.ensures.0)

pub bounds-out-at : goal.bounds-out-at
bounds-out-at c =
    let n = c.put_number-at in
    let f = c.put_fields-at in
    feed_place c.args.out.now n.new.out f.new.out c.args.number c.args.values.now n.result f.result n.ensures.0 n.ensures.1 f.ensures.0 f.ensures.1 c.requires

pub overflow_add-result : goal.overflow_add-result
overflow_add-result c = omega (arith, line_length c.args.number c.args.values.now, c.put_number-at.ensures.0, c.put_fields-at.ensures.0)

pub returns : goal.returns
returns c =
    let n = c.put_number-at in
    let f = c.put_fields-at in (
      omega (arith, line_length c.args.number c.args.values.now, n.ensures.0, f.ensures.0),
      line_put c.args.out.now n.new.out f.new.out c.args.number c.args.values.now n.result f.result n.ensures.0 n.ensures.1 f.ensures.0 f.ensures.1 c.requires,
    )
