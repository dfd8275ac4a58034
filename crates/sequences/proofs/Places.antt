-- Laws of the number of binary digits, and of the places where the trees start. Assumes nothing.
use mathlib.Core.Path.{◌≡◌, refl, sym, ap, ◌∙◌}
use mathlib.Core.Logic.{◌⊎◌, inl, inr}
use Prim.Native.Nat.{ℕ, zero, suc, ◌+◌, ◌-◌, ◌*◌, ◌/◌, ◌%◌, ◌^◌, ◌≤◌, ◌<◌}
use native.Mathlib.Nat.{le_refl, eq-zero-or-pos, div-eq_of_lt-le, lt_of_not-le, not-le_of_lt, le_of_suc-le-suc, add-zero, zero-lt-suc, mod-le, one-mul}
use native.Mathlib.Numerals.{one-add}
use native.Mathlib.Omega.{arith}
use lib.Arith.{half_le}
use lib.Count.{count_leading_zeros, leading_unique, leading_of_zero}
use lib.Pow.{pow_mono, mod-pow-add, shl_exact}
use Rattle.sequences.specs.SlotOrder.{digits_in, digits, bit, start}

in_lt : (d n : ℕ) → n ≤ d → n < 2 ^ digits_in d n
unfolding digits_in
in_lt zero n h = omega arith
in_lt (suc d) zero h = omega arith
in_lt (suc d) (suc n) h =
    let ih : suc n / 2 < 2 ^ digits_in d (suc n / 2) = in_lt d (suc n / 2) (half_le h) in
    let g : suc n < 2 ^ suc (digits_in d (suc n / 2)) = omega arith in
    g

in_zero : (d : ℕ) → digits_in d zero ≡ zero
unfolding digits_in
in_zero zero = refl
in_zero (suc d) = refl

in_le : (d n : ℕ) → n ≤ d → zero < n → 2 ^ digits_in d n ≤ 2 * n
unfolding digits_in
in_le zero n h p = omega arith
in_le (suc d) zero h p = omega arith
in_le (suc d) (suc n) h p = go (eq-zero-or-pos (suc n / 2)) (in_le d (suc n / 2) (half_le h))
  where
    go : (suc n / 2 ≡ zero) ⊎ (zero < suc n / 2) → (zero < suc n / 2 → 2 ^ digits_in d (suc n / 2) ≤ 2 * (suc n / 2))
        → 2 ^ suc (digits_in d (suc n / 2)) ≤ 2 * suc n
    go (inl e) ih = let z : 2 ^ digits_in d (suc n / 2) ≡ 1 = ap (λ (x : ℕ). 2 ^ digits_in d x) e ∙ ap (λ (x : ℕ). 2 ^ x) (in_zero d) in omega arith
    go (inr q) ih = let l = ih q in omega arith

-- n is below 2 ^ k, and at least half of it.
pub digits_lt : (n : ℕ) → n < 2 ^ digits n
unfolding digits
digits_lt n = in_lt n n (le_refl n)

pub digits_le : (n : ℕ) → zero < n → 2 ^ digits n ≤ 2 * n
unfolding digits
digits_le n h = in_le n n (le_refl n) h

-- The smaller power of two has the smaller exponent.
pub exponent_lt : (i j : ℕ) → 2 ^ i < 2 ^ j → i < j
exponent_lt i j h = lt_of_not-le (λ g. not-le_of_lt h (pow_mono g))

pub digits_width : (n w : ℕ) → zero < n → n < 2 ^ w → digits n ≤ w
digits_width n w p h = let l = digits_le n p in le_of_suc-le-suc (exponent_lt (digits n) (suc w) (omega arith))

pub digits_pos : (n : ℕ) → zero < n → zero < digits n
digits_pos n h = let l = digits_lt n in exponent_lt 0 (digits n) (omega arith)

digits_of_zero : digits zero ≡ zero
unfolding digits
digits_of_zero = refl

-- The leading zeros in w digits, and the number of digits, make w.
pub leading_digits : (w n : ℕ) → n < 2 ^ w → count_leading_zeros w n + digits n ≡ w
leading_digits w zero h = ap (λ (x : ℕ). count_leading_zeros w zero + x) digits_of_zero ∙ add-zero (count_leading_zeros w zero) ∙ leading_of_zero w
leading_digits w (suc n) h =
    let l = digits_le (suc n) (zero-lt-suc n) in
    let g : digits (suc n) ≤ w = digits_width (suc n) w (zero-lt-suc n) h in
    let u : w - digits (suc n) ≡ count_leading_zeros w (suc n) = leading_unique w (suc n) (w - digits (suc n)) (digits (suc n)) (omega arith) (digits_lt (suc n)) (omega arith) in
    omega arith

-- What is left of C below tree j + 1: tree j, if there is one, and the rest.
pub mod_step : (C j : ℕ) → C % 2 ^ suc j ≡ bit C j * 2 ^ j + C % 2 ^ j
mod_step C j = ap (λ (x : ℕ). C % 2 ^ x) (sym (one-add j)) ∙ mod-pow-add C 1 j

-- C is its trees above tree j, tree j if there is one, and the rest.
pub start_split : (C j : ℕ) → start C j + (bit C j * 2 ^ j + C % 2 ^ j) ≡ C
start_split C j =
    let n = mod_step C j in
    let l : C % 2 ^ suc j ≤ C = mod-le C (2 ^ suc j) in
    omega arith

pub tree_split : (C j : ℕ) → bit C j ≡ 1 → start C j + (2 ^ j + C % 2 ^ j) ≡ C
tree_split C j b =
    let e = start_split C j in
    let m : bit C j * 2 ^ j ≡ 2 ^ j = ap (λ (x : ℕ). x * 2 ^ j) b ∙ (omega arith) in
    omega arith

-- A set bit's place is below the number of digits;
pub bit_below : (C j : ℕ) → bit C j ≡ 1 → j < digits C
bit_below C j b = let e = tree_split C j b in let h = digits_lt C in exponent_lt j (digits C) (omega arith)

-- and the highest digit is set.
pub top_bit : (C j : ℕ) → zero < C → suc j ≡ digits C → bit C j ≡ 1
top_bit C j h e =
    let l : 2 ^ suc j ≤ 2 * C = rw e (digits_le C h) in
    let g : C < 2 ^ suc j = rw e (digits_lt C) in
    let q : C / 2 ^ j ≡ 1 = div-eq_of_lt-le (2 ^ j) (omega arith) (omega arith) in
    ap (λ (x : ℕ). x % 2) q

-- 1 shifted by k, in 64 digits.
pub shift_exact : (k : ℕ) → k < 64 → 1 * 2 ^ k % 2 ^ 64 ≡ 2 ^ k
shift_exact k h = shl_exact 1 k 64 (omega arith) (omega arith) ∙ one-mul (2 ^ k)
