-- The walk by node numbers is the walk in source document 001's own words. Assumes nothing.
use mathlib.Core.Path.{◌≡◌, refl}
use mathlib.Core.List.{List}
use Prim.Native.Nat.{ℕ, zero, suc, ◌+◌}
use native.Mathlib.Nat.{add-zero}
use native.Mathlib.Decide.{ℕ_discrete}
use native.Mathlib.Omega.{arith}
use lib.ListN.{get_or, set}
use lib.Pow.{pow_pos}
use borrow.Author.Tests.{eq-eqb, ne_eqb}
use Rattle.tree.specs.Marks.{flipped, below, node_from, marks_from}
use Rattle.tree.specs.Literal.{mark_place, child, leaf_below, marks_below}

-- the children of v(l, i), by their numbers
below_child : (m l i : ℕ) → below m (mark_place l i) ≡ mark_place (suc l) (child m i)
below_child m l i =
    let p = pow_pos l in
    elim (ℕ_discrete m 0) [
      | yes e ↦ rw (eq-eqb m 0 e) (omega arith)
      | no e ↦ rw (ne_eqb m 0 e) (omega arith)
    ]

-- d levels down from v(l, i)
pub node_literal : (d : ℕ) (M : List ℕ) (l i : ℕ) → node_from d M (mark_place l i) ≡ mark_place (l + d) (leaf_below d M l i)
unfolding node_from leaf_below
node_literal zero M l i = rw (add-zero l) refl
node_literal (suc d) M l i =
    let m = get_or M (mark_place l i) 0 in
    let N = set M (mark_place l i) (flipped m) in
    let e : l + suc d ≡ suc l + d = omega arith in
    rw (below_child m l i, e) (node_literal d N (suc l) (child m i))

pub marks_literal : (d : ℕ) (M : List ℕ) (l i : ℕ) → marks_from d M (mark_place l i) ≡ marks_below d M l i
unfolding marks_from marks_below
marks_literal zero M l i = refl
marks_literal (suc d) M l i =
    let m = get_or M (mark_place l i) 0 in
    let N = set M (mark_place l i) (flipped m) in
    rw (below_child m l i) (marks_literal d N (suc l) (child m i))
