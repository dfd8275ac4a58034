-- The loop of `sheets::leaves::read_block` keeps: the leaves passed are set. Assumes nothing.
use Rattle.std.proofs.Common.{◌≡◌, ◌*◌}
use lib.Seq.{sets}
use Rattle.sheets.specs.Blocks.{values_from}
use Rattle.sheets.specs.Sheet.{leaf_in}
use Rattle.sheets.proofs.leaves.read_block.Given as goal

abbrev pub invariant-loop-i : goal.invariant-loop-i
invariant-loop-i l = (l.leaves ≡ sets l.initial.leaves (253 * l.b) (values_from (leaf_in l.sheet) (253 * l.b) l.i))
