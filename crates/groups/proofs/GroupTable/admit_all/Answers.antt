-- `groups::GroupTable::admit_all` meets its contract. Assumes nothing.
use Rattle.std.proofs.Common.{◌≡◌, refl, ◌∙◌, arith}
use Rattle.groups.specs.Table.{stream_count}
use Rattle.groups.proofs.Adding.{list_placeable, list_laid, lists_none, lists_all}
use Rattle.groups.proofs.RoundSteps.{offset_none, offset_more, list_within}
use Rattle.groups.proofs.GroupTable.admit_all.Goals as goal

pub loop-i-init : goal.loop-i-init
loop-i-init c = let a = c.args in
    let e = lists_all a.c a.self.now.k a.self.now.starts.now a.self.now.names.now in
    (omega arith, offset_none _ _, refl, rw e c.requires, rw e refl)

pub admit_list-requires : goal.admit_list-requires
admit_list-requires c = let a = c.args in
    let L = c.loop-i in
    let h = c.loop-i-test.true in
    let w = list_within a.self.now.k a.self.now.starts.now a.self.now.names.now a.self.now.sound a.self.now.few L.i h in
    rw (L.invariant.1, c.streams_of-n.ensures.0, c.rate_of.ensures)
    (w.0, w.1, (list_placeable a.c a.self.now.k a.self.now.starts.now a.self.now.names.now L.board L.i h L.invariant.3).0)

pub overflow_add-from : goal.overflow_add-from
overflow_add-from c = let a = c.args in
    let L = c.loop-i in
    let w = list_within a.self.now.k a.self.now.starts.now a.self.now.names.now a.self.now.sound a.self.now.few L.i c.loop-i-test.true in
    let n : c.streams_of-n.result ≡ stream_count a.self.now.k a.self.now.starts.now L.i = c.streams_of-n.ensures.0 in
    omega (arith, w.1, L.invariant.1)

pub loop-i-preserved : goal.loop-i-preserved
loop-i-preserved c = let a = c.args in
    let L = c.loop-i in
    let h = c.loop-i-test.true in
    let n = c.streams_of-n.ensures.0 in
    let f = c.admit_list in
    let r = list_placeable a.c a.self.now.k a.self.now.starts.now a.self.now.names.now L.board L.i h L.invariant.3 in (
      omega arith,
      rw (L.invariant.1, n) (offset_more _ _ _),
      omega (arith, f.auto, L.invariant.2),
      rw (f.ensures, L.invariant.1, n, c.rate_of.ensures) r.1,
      rw (f.ensures, L.invariant.1, n, c.rate_of.ensures) (list_laid a.c a.self.now.k a.self.now.starts.now a.self.now.names.now L.board L.i h ∙ L.invariant.4),
    )

pub returns : goal.returns
returns c = let a = c.args in
    let L = c.loop-i in
    lists_none a.c a.self.now.k a.self.now.starts.now a.self.now.names.now L.board L.i c.loop-i-test.false ∙ L.invariant.4
