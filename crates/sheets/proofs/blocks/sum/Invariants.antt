-- The loop of `sheets::blocks::sum` keeps: t is the sum of the numbers passed, each below 65,536. Assumes nothing.
use Rattle.std.proofs.Common.{◌≡◌, ◌≤◌, ◌*◌}
use Rattle.sheets.specs.Blocks.{values_from, sum_of, number_at}
use Rattle.sheets.proofs.blocks.sum.Given as goal

abbrev pub invariant-loop-i : goal.invariant-loop-i
invariant-loop-i l = (l.t ≤ 65535 * l.i) × (l.t ≡ sum_of (values_from (number_at l.sheet) l.a l.i))
