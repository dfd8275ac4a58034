-- The walk in source document 001's own words: node v(l, i) is the i-th of level l, from the left; its left child is v(l + 1, 2 i), its right child
-- v(l + 1, 2 i + 1); the root is v(0, 0), and leaf i is v(k, i).
-- Assumes nothing.
use Rattle.std.specs.Prelude.{cond, List, ℕ, zero, suc, ◌+◌, ◌-◌, ◌*◌, ◌^◌, eqb, get_or, set}
use Rattle.tree.specs.Marks.{flipped}

-- Where the mark of v(l, i) stands, by level and root first: after the 2 ^ l - 1 of the levels above.
abbrev pub mark_place : ℕ → ℕ → ℕ
mark_place l i = 2 ^ l - 1 + i

-- The child that a mark leads to.
abbrev pub child : ℕ → ℕ → ℕ
child m i = cond (eqb m 0) (2 * i) (2 * i + 1)

-- The leaf that the walk comes to, d levels below v(l, i), and the marks that it leaves.
unfoldable pub leaf_below : ℕ → List ℕ → ℕ → ℕ → ℕ
leaf_below zero M l i = i
leaf_below (suc d) M l i = leaf_below d (set M (mark_place l i) (flipped (get_or M (mark_place l i) 0))) (suc l) (child (get_or M (mark_place l i) 0) i)

unfoldable pub marks_below : ℕ → List ℕ → ℕ → ℕ → List ℕ
marks_below zero M l i = M
marks_below (suc d) M l i = marks_below d (set M (mark_place l i) (flipped (get_or M (mark_place l i) 0))) (suc l) (child (get_or M (mark_place l i) 0) i)
