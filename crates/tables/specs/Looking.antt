-- What the functions that look through a board or a table promise: entries, marks by name, the leaf that decides a turn. No promise of a call cites it.
-- Assumes nothing.
use Rattle.std.specs.Prelude.{◌≡◌, Bool, not, ◌&&◌, ◌||◌, cond, List, ◌⊎◌, ℕ, zero, suc, ◌+◌, ◌-◌, ◌%◌, ◌≤◌, ◌<◌, eqb, ltb, get_or}
use Rattle.names.specs.Table.{Table, number_under}
use Rattle.pieces.specs.Board.{weight}
use Rattle.tables.specs.Sharing.{held_for, lowest, leads}
use Rattle.tables.specs.Settling.{settled_at}

-- ---- entries looked through

-- The sum of n entries from i on.
unfoldable pub sum_from : List ℕ → ℕ → ℕ → ℕ
sum_from T i zero = 0
sum_from T i (suc n) = sum_from T i n + get_or T (i + n) 0

-- The entries from i on to j are 0.
pub record Skipped (C : ℕ) (T : List ℕ) (i j : ℕ) : Type 0 where
  pub from : i ≤ j
  pub to : j ≤ C
  pub zeros : (k : ℕ) → i ≤ k → k < j → get_or T k 0 ≡ 0

-- An entry r at leaf i, which holds x, as the weights S by name tell it: 0, or that of a stream of R leaves that start at a multiple of R.
unfoldable pub rate_test : List ℕ → ℕ → ℕ → ℕ → Bool
unfolding held_for
rate_test S x r i = eqb r 0 || (not (eqb x 0) && (eqb (number_under S x) (held_for r) && eqb (i % held_for r) 0))

-- The leaf l decides the turn at leaf a: it is the lowest leaf of the name there, or that name is not over-allocated and l has no r either.
pub record Decides (C : ℕ) (B T : List ℕ) (a l : ℕ) : Type 0 where
  pub below : l < C
  pub leaf : (l ≡ lowest C B (get_or B a 0)) ⊎ ((get_or T l 0 ≡ 0) × (get_or T (lowest C B (get_or B a 0)) 0 ≡ 0))

-- ---- marks: one more than the lowest leaf of a name, 0 where there is none

unfoldable pub mark : ℕ → List ℕ → ℕ → ℕ
unfolding lowest
mark C B x = cond (ltb (lowest C B x) C) (suc (lowest C B x)) 0

-- What is marked before leaf i.
unfoldable pub marked : ℕ → List ℕ → ℕ → ℕ → ℕ
unfolding lowest
marked C B i x = cond (eqb (weight i B x) 0) 0 (suc (lowest C B x))

-- M has the marks of the board B.
pub record Marks (C : ℕ) (B M : List ℕ) : Type 0 where
  pub table : Table M
  pub marks : (x : ℕ) → x < 65536 → number_under M x ≡ mark C B x

-- What is left of the marks M under a name, before leaf i, where the first leaf of each name takes its mark: of idle nothing.
unfoldable pub unmet : List ℕ → List ℕ → ℕ → ℕ → ℕ
unmet M B i x = cond (eqb x 0) 0 (cond (eqb (weight i B x) 0) (number_under M x) 0)

-- What the marks M have for leaf i: the mark of its name, at the lowest leaf of a stream.
unfoldable pub origin : ℕ → List ℕ → List ℕ → ℕ → ℕ
unfolding leads
origin C M B i = cond (leads C B i) (number_under M (get_or B i 0)) 0

-- The entry of a table that a mark leads to.
unfoldable pub marked_entry : List ℕ → ℕ → ℕ
marked_entry T o = cond (eqb o 0) 0 (get_or T (o - 1) 0)

-- F says for each leaf of the board B'' where its entries come from on the board B: a mark that leads to what settles, in whatever table.
pub record Origins (C : ℕ) (B B'' F : List ℕ) : Type 0 where
  pub marks : (i : ℕ) → i < C → get_or F i 0 ≤ C
  pub leads_to : (i : ℕ) → i < C → (T : List ℕ) → marked_entry T (get_or F i 0) ≡ settled_at C B B'' T i
