-- `write_held` meets its contract. Assumes nothing.
use Rattle.std.proofs.Common.{◌∙◌, [], ◌∷◌, ◌+◌, ◌*◌, length, arith}
use Rattle.sheets.specs.Blocks.{values_from, sum_of}
use Rattle.sheets.specs.Sheet.{leaf_or_zero}
use Rattle.sheets.specs.Entries.{entry_blocks}
use Rattle.sheets.proofs.Stores.{stores_then}
use Rattle.sheets.proofs.entries.PieceFormBlockForm.write_held.Goals as goal

pub write_leaves-requires : goal.write_leaves-requires
unfolding entry_blocks
write_leaves-requires c = omega (arith, c.put_number.auto.sheet)

pub returns : goal.returns
unfolding sum_of
returns c =
    let a = c.args in
    let e = c.write_leaves.ensures in (
      omega (arith, e.0),
      omega (arith, e.1),
      e.2 ∙ rw c.put_number.ensures (stores_then _ (2 * (256 * a.b + 2)) (2 * (256 * a.b + 3)) (a.p ∷ []) (values_from (leaf_or_zero (length a.list.now) a.list.now) (252 * a.b) 252) (omega arith)),
    )
