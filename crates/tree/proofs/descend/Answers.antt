-- `tree::descend` meets its contract. Assumes nothing.
use Rattle.std.proofs.Common.{◌≡◌, ◌∙◌, zero, ◌+◌, ◌-◌, ◌^◌, ◌<◌, arith, get_or, pow_mono}
use Rattle.tree.specs.Marks.{node_from, marks_from}
use Rattle.tree.proofs.Descents.{step_next, node_fits, below_fits}
use Rattle.tree.proofs.descend.Goals as goal

pub turn-node-requires : goal.turn-node-requires
turn-node-requires c =
    let L = c.loop in
    let h = node_fits (c.args.d - L.counter) L.node (2 ^ c.args.d) (omega arith) L.invariant.1 in
    let p = pow_mono {i = c.args.d} {j = 11} c.requires.0 in
    omega (arith, c.requires.1, L.invariant.0)

pub loop-preserved : goal.loop-preserved
loop-preserved c =
    let L = c.loop in
    let left = c.args.d - L.counter in
    let t : zero < left = omega arith in
    let e : c.args.d - (L.counter + 1) ≡ left - 1 = omega arith in
    let r = c.turn-node.ensures in
    let next = step_next left L.marks L.node t in (
      omega arith,
      rw (e, r.0) (below_fits left (get_or L.marks L.node 0) L.node (2 ^ c.args.d) t L.invariant.1),
      rw (e, r.0, r.1) (next.0 ∙ L.invariant.2),
      rw (e, r.0, r.1) (next.1 ∙ L.invariant.3),
    )

pub returns : goal.returns
unfolding node_from marks_from
returns c =
    let L = c.loop in
    let e : c.args.d - L.counter ≡ 0 = omega arith in
    (rw e at L.invariant.2, rw e at L.invariant.3)
