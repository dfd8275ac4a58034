-- A number with at most one set digit is a power of two. Assumes nothing.
use mathlib.Core.Path.{◌≡◌, refl}
use Prim.Native.Nat.{ℕ, zero, suc, ◌+◌, ◌/◌, ◌%◌, ◌^◌, ◌≤◌, ◌<◌}
use native.Mathlib.Decide.{dec_lt}
use native.Mathlib.Omega.{arith}
use lib.Count.{ones, ones_step, count_trailing_zeros, under}
use lib.Pow.{pow_mono}
use Rattle.tree.specs.Marks.{levels}

-- a number of w digits with none set is 0
none_set : (w n : ℕ) → n < 2 ^ w → ones n ≡ 0 → n ≡ 0
none_set zero n h e = omega arith
none_set (suc w) n h e = let s = ones_step n in let r = none_set w (n / 2) (omega arith) (omega arith) in omega arith

one_set : (w n : ℕ) → n < 2 ^ w → zero < n → ones n ≤ 1 → n ≡ 2 ^ count_trailing_zeros w n
unfolding count_trailing_zeros
one_set zero n h p e = omega arith
one_set (suc w) n h p e = go (n % 2) refl (ones_step n) (λ q f. one_set w (n / 2) (omega arith) q f)
  where
    go : (d : ℕ) → n % 2 ≡ d → ones n ≡ n % 2 + ones (n / 2) → (zero < n / 2 → ones (n / 2) ≤ 1 → n / 2 ≡ 2 ^ count_trailing_zeros w (n / 2)) → n ≡ 2 ^ under d (count_trailing_zeros w (n / 2))
    go zero f s rest =
        let r = rest (omega arith) (omega arith) in
        let g : n ≡ 2 ^ suc (count_trailing_zeros w (n / 2)) = omega arith in
        g
    go (suc d) f s rest = let z = none_set w (n / 2) (omega arith) (omega arith) in omega arith

-- C is 2 ^ k for the number k of its levels, which is at most 11.
pub power : (C : ℕ) → zero < C → C ≤ 4095 → ones C ≤ 1 → C ≡ 2 ^ levels C
unfolding levels
power C p h e = one_set 64 C (omega arith) p e

pub exponent_le : (k : ℕ) → 2 ^ k ≤ 4095 → k ≤ 11
exponent_le k h = elim (dec_lt 11 k) [
  | yes l ↦ let m = pow_mono {i = 12} {j = k} l in omega arith
  | no l ↦ omega arith
]
