-- The slot order of a board with C leaves, from document 01, "Slot order": which term stands at a position, which column it selects, which leaf is served.
-- That this is the order of G-3's two sequences as lists (specs/Sequences, specs/Scanning): proofs/Laws, `wss_term`, `leaf_literal`, `round_literal`.
-- Assumes nothing.
use Rattle.std.specs.Prelude.{cond, ℕ, zero, suc, ◌+◌, ◌-◌, ◌/◌, ◌%◌, ◌^◌, ◌<◌, ltb}
use Rattle.std.specs.Int.Count.{count_trailing_zeros}
use Rattle.sequences.specs.Sequences.{rb}

-- The number of binary digits of n, of which at most d are looked at.
unfoldable pub digits_in : ℕ → ℕ → ℕ
digits_in zero n = zero
digits_in (suc d) zero = zero
digits_in (suc d) (suc n) = suc (digits_in d (suc n / 2))

-- The number of binary digits of n; k is that of the capacity C.
unfoldable pub digits : ℕ → ℕ
unfolding digits_in
digits n = digits_in n n

-- The term at position p of the weight spread sequence of order k: one more than the trailing zero digits of p.
unfoldable pub term : ℕ → ℕ → ℕ
unfolding count_trailing_zeros
term k p = suc (count_trailing_zeros k p)

-- The column that the term at p selects: k - v for the term v.
unfoldable pub column : ℕ → ℕ → ℕ
unfolding digits term
column C p = digits C - term (digits C) p

-- Bit j of C: 1 where there is a tree of 2 ^ j leaves, else 0.
abbrev pub bit : ℕ → ℕ → ℕ
bit C j = C / 2 ^ j % 2

-- Where tree j starts.
abbrev pub start : ℕ → ℕ → ℕ
start C j = C - C % 2 ^ suc j

-- The leaf that the term v at p serves: (start of tree j) + RB(i, j), where j is the term's column and i is p divided by 2 ^ v.
unfoldable pub leaf_at : ℕ → ℕ → ℕ
unfolding column rb
leaf_at C p = start C (column C p) + rb (p / 2 ^ term (digits C) p) (column C p)

-- How many terms a slot from p passes over: 1 if the term at p selects a clear column, else 0. They are all the clear terms from p to the one served:
-- proofs/Laws, `passed_clear`, `served_serves`.
unfoldable pub passed_from : ℕ → ℕ → ℕ
unfolding column
passed_from C p = 1 - bit C (column C p)

-- The position of the term that a slot from p serves.
unfoldable pub served_from : ℕ → ℕ → ℕ
unfolding passed_from
served_from C p = p + passed_from C p

-- The position after p in a round of order k: p moves on by one, and from 2 ^ k - 1 to 1.
abbrev pub position_after : ℕ → ℕ → ℕ
position_after k p = cond (ltb (suc p) (2 ^ k)) (suc p) 1

-- The position after a slot from p.
unfoldable pub next_from : ℕ → ℕ → ℕ
unfolding served_from
next_from C p = position_after (digits C) (served_from C p)

-- A capacity and a position that a slot may be taken from: C is 1 to 4,095, p is 1 to 2 ^ k - 1.
pub record Position (C p : ℕ) : Type 0 where
  pub some : zero < C
  pub few : C < 4096
  pub first : zero < p
  pub last : p < 2 ^ digits C
