-- `lines::writing::put_field` meets its contract. Assumes nothing.
use Rattle.std.proofs.Common.{refl, arith, length-set, length-take, length-drop}
use Rattle.lines.specs.Printing.{decimal, field}
use Rattle.lines.proofs.Decimals.{sets_part}
use Rattle.lines.proofs.writing.put_field.Goals as goal

pub bounds-out-0 : goal.bounds-out-0
unfolding field
bounds-out-0 c = omega arith

pub slice_bounds-put_number-count : goal.slice_bounds-put_number-count
unfolding field
slice_bounds-put_number-count c = rw length-set (omega arith)

pub slice_bounds-put_number-start : goal.slice_bounds-put_number-start
unfolding field
slice_bounds-put_number-start c = simp length-set (omega arith)

pub put_number-requires : goal.put_number-requires
unfolding field
put_number-requires c = simp (length-take, length-drop, length-set) (omega arith)

pub overflow_add-result : goal.overflow_add-result
unfolding field
overflow_add-result c = omega (arith, c.put_number.ensures.0)

pub returns : goal.returns
unfolding field
returns c = (omega (arith, c.put_number.ensures.0), rw c.put_number.ensures.1 (sets_part _ (decimal c.args.n) 1 _ refl (rw length-set (omega arith))))
