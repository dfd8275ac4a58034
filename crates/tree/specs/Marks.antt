-- The tree walk of source document 001, figure 2, over a board of C = 2 ^ k leaves. Nodes are numbered by level, root first: node 0 is the root, 2 i + 1 and
-- 2 i + 2 are the left and the right one below node i, and the C leaves follow the C - 1 inner nodes. M has a mark for each inner node.
-- Assumes nothing.
use Rattle.std.specs.Prelude.{◌≡◌, cond, List, [], ◌∷◌, ℕ, zero, suc, ◌+◌, ◌-◌, ◌*◌, ◌<◌, eqb, get_or, set}
use Rattle.std.specs.Int.Count.{count_trailing_zeros}

-- A mark of 0 becomes 1, any other becomes 0.
abbrev pub flipped : ℕ → ℕ
flipped m = cond (eqb m 0) 1 0

-- A mark of 0 leads left, any other leads right.
abbrev pub below : ℕ → ℕ → ℕ
below m i = cond (eqb m 0) (2 * i + 1) (2 * i + 2)

-- The node that a walk of d levels from node i ends at,
unfoldable pub node_from : ℕ → List ℕ → ℕ → ℕ
node_from zero M i = i
node_from (suc d) M i = node_from d (set M i (flipped (get_or M i 0))) (below (get_or M i 0) i)

-- and the marks that it leaves.
unfoldable pub marks_from : ℕ → List ℕ → ℕ → List ℕ
marks_from zero M i = M
marks_from (suc d) M i = marks_from d (set M i (flipped (get_or M i 0))) (below (get_or M i 0) i)

-- How many levels of inner nodes there are: k, the place of the one set digit of C.
unfoldable pub levels : ℕ → ℕ
levels C = count_trailing_zeros 64 C

-- The leaf that a walk from the root serves, and the marks that it leaves.
unfoldable pub leaf_of : ℕ → List ℕ → ℕ
unfolding node_from levels
leaf_of C M = node_from (levels C) M 0 - (C - 1)

unfoldable pub marks_of : ℕ → List ℕ → List ℕ
unfolding marks_from levels
marks_of C M = marks_from (levels C) M 0

-- The leaves of n walks in a row, and the marks after them.
unfoldable pub leaves_of : ℕ → List ℕ → ℕ → List ℕ
unfolding leaf_of marks_of
leaves_of C M zero = []
leaves_of C M (suc n) = leaf_of C M ∷ leaves_of C (marks_of C M) n

unfoldable pub marks_after : ℕ → List ℕ → ℕ → List ℕ
unfolding marks_of
marks_after C M zero = M
marks_after C M (suc n) = marks_after C (marks_of C M) n

-- All C - 1 marks are clear.
abbrev pub AllClear : ℕ → List ℕ → Type 0
AllClear C M = (j : ℕ) → suc j < C → get_or M j 0 ≡ 0
