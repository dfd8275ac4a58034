-- One slot from a position: what it passes over, what it serves, and where it ends. Assumes nothing.
use mathlib.Core.Path.{◌≡◌, refl, ap}
use mathlib.Core.Bool.{true, false}
use Prim.Native.Nat.{ℕ, zero, suc, ◌+◌, ◌-◌, ◌/◌, ◌%◌, ◌^◌, ◌≤◌, ◌<◌}
use native.Mathlib.Decide.{dec_lt}
use native.Mathlib.Omega.{arith}
use lib.Count.{count_trailing_zeros}
use lib.Pow.{pow_mono, pow_pos, shr_lt}
use borrow.Author.Tests.{lt-ltb, le-ltb, eq-eqb, ne_eqb}
use Rattle.sequences.specs.Sequences.{rb}
use Rattle.sequences.specs.SlotOrder.{digits, term, column, bit, start, leaf_at, passed_from, served_from, next_from, position_after, Position}
use Rattle.sequences.specs.Serving.{serves}
use Rattle.sequences.proofs.Reverse.{rb_lt}
use Rattle.sequences.proofs.Zeros.{zeros_form, zeros_unique, zeros_width}
use Rattle.sequences.proofs.Places.{digits_pos, digits_width, tree_split, top_bit}

-- A capacity of the code has at most 12 digits.
pub digits_small : (C : ℕ) → zero < C → C < 4096 → digits C ≤ 12
digits_small C h l = digits_width C 12 h l

module _ (C p : ℕ) (at : Position C p) where
  pub column_add : column C p + term (digits C) p ≡ digits C
  unfolding column
  column_add = let f = zeros_form (digits C) p at.first at.last in omega arith

  term_wide : (w : ℕ) → digits C ≤ w → term w p ≡ term (digits C) p
  unfolding term
  term_wide w l = ap suc (zeros_width (digits C) w p at.first at.last l)

  pub column_lt : column C p < digits C
  unfolding term
  column_lt = let e = column_add in omega arith

  -- For the term v and its column j, p divided by 2 ^ v is a number of j digits.
  pub index_lt : p / 2 ^ term (digits C) p < 2 ^ column C p
  index_lt = shr_lt (column C p) (term (digits C) p) (rw column_add at.last)

  -- An odd position has the term 1, which selects the highest column, and serves.
  pub odd_column : p % 2 ≡ 1 → suc (column C p) ≡ digits C
  unfolding term
  odd_column o =
      let z : count_trailing_zeros (digits C) p ≡ 0 = zeros_unique (digits C) p 0 (digits_pos C at.some) o in
      let e = column_add in
      omega arith

  pub odd_serves : p % 2 ≡ 1 → bit C (column C p) ≡ 1
  odd_serves o = top_bit C (column C p) at.some (odd_column o)

  -- The leaf of a position whose column is set is on the board.
  leaf_lt : bit C (column C p) ≡ 1 → leaf_at C p < C
  unfolding leaf_at
  leaf_lt b =
      let s = tree_split C (column C p) b in
      let r = rb_lt (p / 2 ^ term (digits C) p) (column C p) in
      omega arith

  -- What the code needs: its numbers have 64 digits, and none of them overflows.
  pub position_small : p < 4096
  position_small = let l : 2 ^ digits C ≤ 2 ^ 12 = pow_mono (digits_small C at.some at.few) in let g = at.last in omega arith

  pub column_small : column C p ≤ 11
  column_small = let l = digits_small C at.some at.few in let g = column_lt in omega arith

  term_64 : term 64 p ≡ term (digits C) p
  term_64 = let l = digits_small C at.some at.few in term_wide 64 (omega arith)

  pub term_small : term 64 p ≤ 12
  term_small = let l = digits_small C at.some at.few in let e = column_add in let f = term_64 in omega arith

  pub column_64 : column C p + term 64 p ≡ digits C
  column_64 = let e = column_add in let f = term_64 in omega arith

  pub leaf_64 : leaf_at C p ≡ start C (column C p) + rb (p / 2 ^ term 64 p) (column C p)
  unfolding leaf_at
  leaf_64 = rw term_64

  pub leaf_small : leaf_at C p < 8192
  leaf_small =
      let e = leaf_64 in
      let l : 2 ^ column C p ≤ 2 ^ 11 = pow_mono column_small in
      let r = rb_lt (p / 2 ^ term 64 p) (column C p) in
      let f = at.few in
      omega arith

-- A power of two above 1 is even.
pub even_pow : (k : ℕ) → zero < k → (2 ≤ 2 ^ k) × (2 ^ k % 2 ≡ 0)
even_pow zero h = omega arith
even_pow (suc k) h = let l = pow_pos k in (omega arith, omega arith)

-- The last term serves.
pub last_serves : (C : ℕ) → zero < C → C < 4096 → bit C (column C (2 ^ digits C - 1)) ≡ 1
last_serves C h l =
    let e = even_pow (digits C) (digits_pos C h) in
    odd_serves C (2 ^ digits C - 1) (record { some = h; few = l; first = omega arith; last = omega arith }) (omega arith)

-- A slot from p serves p if its column is set, and the next position if not.
pub served_set : (C p : ℕ) → bit C (column C p) ≡ 1 → served_from C p ≡ p
unfolding served_from
served_set C p b = omega arith

pub served_clear : (C p : ℕ) → bit C (column C p) ≡ 0 → served_from C p ≡ suc p
unfolding served_from
served_clear C p b = omega arith

-- The position after q.
pub position_more : (k q : ℕ) → suc q < 2 ^ k → position_after k q ≡ suc q
position_more k q l = rw (lt-ltb (suc q) (2 ^ k) l)

pub position_end : (k q : ℕ) → 2 ^ k ≤ suc q → position_after k q ≡ 1
position_end k q l = rw (le-ltb (suc q) (2 ^ k) l)

-- It is a position of the round.
position_valid : (C q : ℕ) → Position C q → Position C (position_after (digits C) q)
position_valid C q at = go (dec_lt (suc q) (2 ^ digits C))
  where
    go : Dec (suc q < 2 ^ digits C) → Position C (position_after (digits C) q)
    go (yes l) = rw (position_more (digits C) q l) (record { some = at.some; few = at.few; first = omega arith; last = l })
    go (no l) =
        let e = even_pow (digits C) (digits_pos C at.some) in
        rw (position_end (digits C) q (omega arith)) (record { some = at.some; few = at.few; first = omega arith; last = omega arith })

-- A slot from a position of the round passes over at most one term, serves a leaf of the board, and ends at a position of the round.
pub record TermServed (C p : ℕ) : Type 0 where
  pub here : Position C (served_from C p)
  pub set : bit C (column C (served_from C p)) ≡ 1
  pub passed : passed_from C p ≤ 1
  pub leaf : leaf_at C (served_from C p) < C
  pub next : Position C (next_from C p)

served_at : (C p : ℕ) → Position C (served_from C p) → bit C (column C (served_from C p)) ≡ 1 → TermServed C p
unfolding next_from
served_at C p h b = record {
  here = h;
  set = b;
  passed = omega arith;
  leaf = leaf_lt C (served_from C p) h b;
  next = position_valid C (served_from C p) h;
}

clear_even : (C p d : ℕ) → Position C p → bit C (column C p) ≡ 0 → p % 2 ≡ d → p % 2 ≡ 0
clear_even C p zero at e o = o
clear_even C p (suc d) at e o = let b = odd_serves C p at (omega arith) in omega arith

served_by : (C p b : ℕ) → Position C p → bit C (column C p) ≡ b → TermServed C p
served_by C p zero at e =
    let even : p % 2 ≡ 0 = clear_even C p (p % 2) at e refl in
    let w = even_pow (digits C) (digits_pos C at.some) in
    let h : Position C (suc p) = record { some = at.some; few = at.few; first = omega arith; last = omega arith } in
    let s = served_clear C p e in
    served_at C p (rw s h) (rw s (odd_serves C (suc p) h (omega arith)))
served_by C p (suc b) at e =
    let one : bit C (column C p) ≡ 1 = omega arith in
    let s = served_set C p one in
    served_at C p (rw s at) (rw s one)

pub served : (C p : ℕ) → Position C p → TermServed C p
served C p at = served_by C p (bit C (column C p)) at refl

-- As tests: the term served serves, those before it do not, and the last one does.
pub served_serves : (C p : ℕ) → Position C p → serves C (served_from C p) ≡ true
served_serves C p at = eq-eqb _ _ (served C p at).set

pub passed_clear : (C p x : ℕ) → Position C p → p ≤ x → x < served_from C p → serves C x ≡ false
unfolding served_from
passed_clear C p x at lo hi =
    let e : x ≡ p = omega arith in
    rw e (ne_eqb (bit C (column C p)) 1 (λ b. omega arith))

pub last_term_serves : (C : ℕ) → zero < C → C < 4096 → serves C (2 ^ digits C - 1) ≡ true
last_term_serves C h l = eq-eqb _ _ (last_serves C h l)
