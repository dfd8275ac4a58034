-- `lines::writing::put_value` meets its contract. Assumes nothing.
use Rattle.std.proofs.Common.{[], ◌∷◌, ap, arith, length, length-take, length-drop}
use Rattle.lines.proofs.Written.{value_length, wrote}
use Rattle.lines.proofs.Decimals.{fields_one, feed_place, line_put, line_length}
use Rattle.lines.proofs.writing.put_value.Goals as goal

pub put_number-at-requires : goal.put_number-at-requires
put_number-at-requires c = omega (arith, line_length c.args.number (c.args.value ∷ []), ap length (fields_one c.args.value), value_length c.args.number c.args.value (omega arith) (omega arith))

pub slice_bounds-put_field-count : goal.slice_bounds-put_field-count
slice_bounds-put_field-count c = omega (arith, line_length c.args.number (c.args.value ∷ []), ap length (fields_one c.args.value), value_length c.args.number c.args.value (omega arith) (omega arith), c.put_number-at.ensures.0, c.put_number-at.auto.out)

pub slice_bounds-put_field-start : goal.slice_bounds-put_field-start
slice_bounds-put_field-start c = omega (arith, line_length c.args.number (c.args.value ∷ []), ap length (fields_one c.args.value), value_length c.args.number c.args.value (omega arith) (omega arith), c.put_number-at.ensures.0, c.put_number-at.auto.out)

pub put_field-at-requires : goal.put_field-at-requires
put_field-at-requires c = rw (length-take, length-drop) (omega (arith, line_length c.args.number (c.args.value ∷ []), ap length (fields_one c.args.value), value_length c.args.number c.args.value (omega arith) (omega arith), c.put_number-at.ensures.0, c.put_number-at.auto.out))

pub overflow_add-at : goal.overflow_add-at
overflow_add-at c = omega (arith, line_length c.args.number (c.args.value ∷ []), ap length (fields_one c.args.value), value_length c.args.number c.args.value (omega arith) (omega arith), c.put_number-at.ensures.0, c.put_field-at.ensures.0)

pub bounds-out-at : goal.bounds-out-at
bounds-out-at c =
    let n = c.put_number-at in
    let f = rw (← fields_one c.args.value) at c.put_field-at.ensures in
    feed_place c.args.out.now n.new.out c.put_field-at.new.out c.args.number (c.args.value ∷ []) n.result c.put_field-at.result n.ensures.0 n.ensures.1 f.0 f.1 (omega (arith, value_length c.args.number c.args.value (omega arith) (omega arith)))

pub overflow_add-result : goal.overflow_add-result
overflow_add-result c = omega (arith, line_length c.args.number (c.args.value ∷ []), ap length (fields_one c.args.value), value_length c.args.number c.args.value (omega arith) (omega arith), c.put_number-at.ensures.0, c.put_field-at.ensures.0)

pub returns : goal.returns
returns c =
    let n = c.put_number-at in
    let f = rw (← fields_one c.args.value) at c.put_field-at.ensures in
    let short = value_length c.args.number c.args.value (omega arith) (omega arith) in
    wrote _ _ _ _ _ _ (
      omega (arith, line_length c.args.number (c.args.value ∷ []), n.ensures.0, f.0),
      line_put c.args.out.now n.new.out c.put_field-at.new.out c.args.number (c.args.value ∷ []) n.result c.put_field-at.result n.ensures.0 n.ensures.1 f.0 f.1 (omega arith),
    )
    short (omega arith)
