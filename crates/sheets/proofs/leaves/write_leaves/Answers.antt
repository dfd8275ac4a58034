-- `write_leaves` meets its contract. Assumes nothing.
use Rattle.std.proofs.Common.{◌≡◌, sym, ◌∙◌, ◌<◌, ◌+◌, length, arith}
use Rattle.sheets.proofs.Layouts.{leaf_before}
use Rattle.sheets.proofs.Stores.{sum_more, stores_none, stores_more, sum_none, leaves_sum, leaves_stores}
use Rattle.sheets.proofs.leaves.write_leaves.Goals as goal

pub loop-i-init : goal.loop-i-init
loop-i-init c = (omega arith, sym (sum_none _ _), stores_none _ _ _ _)

pub loop-i-preserved : goal.loop-i-preserved
loop-i-preserved c =
    let there : c.args.first + c.loop-i.i < length c.args.list.now = omega (arith, c.min-n.ensures) in (
      omega (arith, c.from-t.ensures, c.type_inv.list (c.args.first + c.loop-i.i)),
      sum_more _ _ _ _ _ c.loop-i.invariant.1 (c.from-t.ensures ∙ sym (leaf_before _ _ _ there)),
      stores_more _ _ _ _ _ _ _ _ c.loop-i.invariant.2 (c.from.ensures ∙ sym (leaf_before _ _ _ there)) c.put_number.ensures,
    )

pub returns : goal.returns
returns c =
    let e : c.loop-i.i ≡ c.min-n.result = omega arith in
    let count = c.min-n.ensures in (
      leaves_sum _ _ _ _ _ count _ (rw e at c.loop-i.invariant.1),
      omega (arith, count),
      leaves_stores _ _ _ _ _ count _ _ _ _ (rw e at c.loop-i.invariant.2) c.put_zeros.ensures,
    )
