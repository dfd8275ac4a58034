-- `read_leaves` meets its contract. Assumes nothing.
use Rattle.std.proofs.Common.{◌≡◌, ◌*◌, min, length, arith}
use native.Mathlib.Nat.{zero-min}
use Rattle.sheets.specs.Sheet.{blocks, sheet_leaves}
use Rattle.sheets.proofs.Stores.{leaves_none, leaves_blocks, leaves_done}
use Rattle.sheets.proofs.leaves.read_leaves.Goals as goal

pub loop-b-init : goal.loop-b-init
loop-b-init c = rw (zero-min (length c.args.leaves.now)) (leaves_none _ _ _)

pub read_block-requires : goal.read_block-requires
unfolding blocks
read_block-requires c = omega arith

pub loop-b-preserved : goal.loop-b-preserved
unfolding blocks
loop-b-preserved c = leaves_blocks _ _ _ _ _ _ (omega arith) c.loop-b.invariant (rw c.loop-b.auto.leaves at c.read_block.ensures)

pub returns : goal.returns
unfolding sheet_leaves blocks
returns c =
    let e : min (253 * c.loop-b.b) (length c.args.leaves.now) ≡ length c.args.leaves.now = omega arith in
    leaves_done _ _ _ _ c.loop-b.invariant e
