-- The loop of `sheets::leaves::write_leaves` keeps: the leaves passed are written, and t is their sum. Assumes nothing.
use Rattle.std.proofs.Common.{◌≡◌, ◌≤◌, ◌*◌, length}
use lib.Seq.{sets}
use Rattle.sheets.specs.Blocks.{values_from, sum_of, bytes_of}
use Rattle.sheets.specs.Sheet.{leaf_or_zero}
use Rattle.sheets.proofs.leaves.write_leaves.Given as goal

abbrev pub invariant-loop-i : goal.invariant-loop-i
invariant-loop-i l = (l.t ≤ 65535 * l.i) × (l.t ≡ sum_of (values_from (leaf_or_zero (length l.list) l.list) l.first l.i)) × (l.output ≡ sets l.initial.output (2 * l.a) (bytes_of (values_from (leaf_or_zero (length l.list) l.list) l.first l.i)))
