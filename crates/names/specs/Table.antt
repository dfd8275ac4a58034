-- A table that has a number below 4,096 for each name, 0 until one is entered, and room for the names of a board, which has less than 4,096 leaves.
-- Of its 12,290 cells cell n, for a row n from 1 to 4,096, has the high four binary digits of a name and then its number; cell 4097 + n has the next row of a
-- name with the same twelve low digits; and cell 8194 + b the first row of those that end in the digits b. A row 0 is none. Cell 4097 has how many are taken.
-- Assumes nothing.
use Rattle.std.specs.Prelude.{◌≡◌, cond, List, ℕ, zero, suc, ◌+◌, ◌*◌, ◌/◌, ◌%◌, ◌≤◌, ◌<◌, eqb, length, get_or, Option, None, Some}
use Rattle.names.specs.declared.Found.{Found}

-- How many rows are taken.
abbrev pub rows_taken : List ℕ → ℕ
rows_taken M = get_or M 4097 0

-- The row after n, of names with the same low digits.
abbrev pub next_row : List ℕ → ℕ → ℕ
next_row M n = get_or M (4097 + n) 0

-- The first row of names with the low digits b.
abbrev pub first_row : List ℕ → ℕ → ℕ
first_row M b = get_or M (8194 + b) 0

-- The row with the high digits t among n and those after it; k of them are looked at.
unfoldable pub row_from : List ℕ → ℕ → ℕ → ℕ → ℕ
row_from M t zero n = 0
row_from M t (suc k) n =
    let rest = row_from M t k (next_row M n) in
    cond (eqb n 0) 0 (cond (eqb (get_or M n 0 / 4096) t) n rest)

-- The row of a name. Rows fall along the way, so that there are no more than the first of them says.
unfoldable pub row_of : List ℕ → ℕ → ℕ
unfolding row_from
row_of M x = row_from M (x / 4096) (first_row M (x % 4096)) (first_row M (x % 4096))

-- The row, where it has one.
abbrev pub row_found : List ℕ → ℕ → Option ℕ
row_found M x = cond (eqb (row_of M x) 0) None (Some (row_of M x))

-- The number of a name.
unfoldable pub number_under : List ℕ → ℕ → ℕ
unfolding row_of
number_under M x = get_or M (row_of M x) 0 % 4096

-- What a cell has of a name and its number.
abbrev pub cell : ℕ → ℕ → ℕ
cell x v = x / 4096 * 4096 + v

-- Cells that are such a table. Rows fall along each way, and no row lies on two ways: `low` has the low digits of the names there.
pub record Table (M : List ℕ) : Type 0 where
  pub size : length M ≡ 12290
  pub cells : (i : ℕ) → get_or M i 0 < 65536
  pub none : get_or M 0 0 ≡ 0
  pub room : rows_taken M ≤ 4096
  pub firsts : (b : ℕ) → b < 4096 → first_row M b ≤ rows_taken M
  pub falls : (n : ℕ) → 0 < n → n ≤ rows_taken M → next_row M n < n
  pub low : ℕ → ℕ
  pub low_first : (b : ℕ) → b < 4096 → 0 < first_row M b → low (first_row M b) ≡ b
  pub low_next : (n : ℕ) → 0 < n → n ≤ rows_taken M → 0 < next_row M n → low (next_row M n) ≡ low n

-- One in which no number is entered.
pub record Empty (M : List ℕ) : Type 0 where
  pub table : Table M
  pub none : rows_taken M ≡ 0
  pub numbers : (x : ℕ) → number_under M x ≡ 0

-- What a search for a name finds.
pub record Finds (M : List ℕ) (x : ℕ) (r : Found) : Type 0 where
  pub row : r.row ≡ row_found M x
  pub number : r.number ≡ number_under M x

-- M' is M with a first row for the name x, which had none, and its number v there.
pub record Added (M M' : List ℕ) (x v : ℕ) : Type 0 where
  pub size : length M' ≡ length M
  pub here : get_or M' (suc (rows_taken M)) 0 ≡ cell x v
  pub many : rows_taken M' ≡ suc (rows_taken M)
  pub link : next_row M' (suc (rows_taken M)) ≡ first_row M (x % 4096)
  pub start : first_row M' (x % 4096) ≡ suc (rows_taken M)
  pub others : (i : ℕ) → (i ≡ suc (rows_taken M) → ⊥) → (i ≡ 4097 → ⊥) → (i ≡ 4097 + suc (rows_taken M) → ⊥) → (i ≡ 8194 + x % 4096 → ⊥) → get_or M' i 0 ≡ get_or M i 0

-- M' is M with the number v for the name x, and no other change of a number. A name that had no row takes one.
pub record Entered (M M' : List ℕ) (x v : ℕ) : Type 0 where
  pub table : Table M'
  pub own : number_under M' x ≡ v
  pub others : (y : ℕ) → (y ≡ x → ⊥) → number_under M' y ≡ number_under M y
  pub many : rows_taken M' ≤ suc (rows_taken M)
  pub again : (row_of M x ≡ 0 → ⊥) → rows_taken M' ≡ rows_taken M
