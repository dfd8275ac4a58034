-- The loop of `sheets::leaves::read_leaves` keeps: the leaves of the blocks passed are set. Assumes nothing.
use Rattle.std.proofs.Common.{◌≡◌, ◌*◌, min, length}
use lib.Seq.{sets}
use Rattle.sheets.specs.Blocks.{values_from}
use Rattle.sheets.specs.Sheet.{leaf_in}
use Rattle.sheets.proofs.leaves.read_leaves.Given as goal

abbrev pub invariant-loop-b : goal.invariant-loop-b
invariant-loop-b l = (l.leaves ≡ sets l.initial.leaves 0 (values_from (leaf_in l.sheet) 0 (min (253 * l.b) (length l.initial.leaves))))
