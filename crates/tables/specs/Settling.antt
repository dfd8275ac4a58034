-- What is written to a table: nothing but its first C entries.
-- Assumes nothing.
use Rattle.std.specs.Prelude.{◌≡◌, ◌&&◌, cond, List, ℕ, zero, suc, ◌<◌, ltb, get_or, set}
use Rattle.tables.specs.Sharing.{lowest, leads}

-- T with entry i set to f i, for each i below n.
unfoldable pub written : (ℕ → ℕ) → ℕ → List ℕ → List ℕ
written f zero T = T
written f (suc n) T = set (written f n T) n (f n)

-- The first C entries cleared.
unfoldable pub cleared_table : ℕ → List ℕ → List ℕ
unfolding written
cleared_table C T = written (λ i. 0) C T

-- r entered at the lowest leaf of the name x.
unfoldable pub rated_table : ℕ → List ℕ → List ℕ → ℕ → ℕ → List ℕ
unfolding lowest
rated_table C B T x r = set T (lowest C B x) r

-- What a table has at leaf i once the board is B'' and was B: at the lowest leaf of a stream what stood at its old lowest leaf, else 0.
unfoldable pub settled_at : ℕ → List ℕ → List ℕ → List ℕ → ℕ → ℕ
unfolding leads lowest
settled_at C B B'' T i =
    let o = lowest C B (get_or B'' i 0) in
    cond (leads C B'' i && ltb o C) (get_or T o 0) 0

-- The table settled: its entries beyond C are as they were.
unfoldable pub settled_table : ℕ → List ℕ → List ℕ → List ℕ → List ℕ
unfolding written settled_at
settled_table C B B'' T = written (λ i. settled_at C B B'' T i) C T

-- D has the first C entries of B.
abbrev pub Alike : ℕ → List ℕ → List ℕ → Type 0
Alike C B D = (i : ℕ) → i < C → get_or D i 0 ≡ get_or B i 0
