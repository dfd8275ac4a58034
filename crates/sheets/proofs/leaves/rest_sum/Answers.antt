-- `rest_sum` meets its contract. Assumes nothing.
use Rattle.std.proofs.Common.{arith}
use Rattle.sheets.specs.Sheet.{blocks}
use Rattle.sheets.proofs.Layouts.{rest_numbers}
use Rattle.sheets.proofs.leaves.rest_sum.Goals as goal

pub overflow_sub-rest : goal.overflow_sub-rest
unfolding blocks
overflow_sub-rest c = omega arith

pub overflow_sub-n : goal.overflow_sub-n
unfolding blocks
overflow_sub-n c = omega arith

pub sum-requires : goal.sum-requires
unfolding blocks
sum-requires c = omega arith

pub returns : goal.returns
returns c = rest_numbers _ _ _ _ c.requires.0 c.requires.1 c.sum.ensures
