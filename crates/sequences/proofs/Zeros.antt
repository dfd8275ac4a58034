-- Laws of the trailing zero digits of a number: p has t of them, and the term t + 1, just where p is 2 ^ t modulo 2 ^ (t + 1). Assumes nothing.
use mathlib.Core.Path.{◌≡◌, refl, sym, ap, ap₂, ◌∙◌}
use Prim.Native.Nat.{ℕ, zero, suc, ◌+◌, ◌*◌, ◌/◌, ◌%◌, ◌^◌, ◌≤◌, ◌<◌, suc-le-suc}
use native.Mathlib.Nat.{not-suc-le-zero, le_of_suc-le-suc, zero-lt-suc, zero-add, zero-mul}
use native.Mathlib.Numerals.{add-one}
use native.Mathlib.Omega.{arith}
use lib.Bits.{block_half, block_odd}
use lib.Count.{count_trailing_zeros, under}
use lib.Pow.{mod-pow-add, split}

under_same : (d t u : ℕ) → (d ≡ zero → t ≡ u) → under d t ≡ under d u
under_same zero t u e = ap suc (e refl)
under_same (suc d) t u e = refl

-- The zeros below the lowest set digit are told by the k lowest digits, r, if one of them is set.
pub zeros_low : (k w a r : ℕ) → zero < r → r < 2 ^ k → k ≤ w → count_trailing_zeros w (a * 2 ^ k + r) ≡ count_trailing_zeros k r
unfolding count_trailing_zeros
zeros_low zero w a r p h l = omega arith
zeros_low (suc k) zero a r p h l = absurd (not-suc-le-zero l)
zeros_low (suc k) (suc w) a r p h l = ap₂ (λ (x y : ℕ). under x (count_trailing_zeros w y)) (block_odd a k r) (block_half a k r)
    ∙ under_same (r % 2) (count_trailing_zeros w (a * 2 ^ k + r / 2)) (count_trailing_zeros k (r / 2))
    (λ e. zeros_low k w a (r / 2) (omega arith) (omega arith) (le_of_suc-le-suc l))

-- A digit set at place t, zeros below, and q above: t zeros.
pub zeros_of : (t w q : ℕ) → t < w → count_trailing_zeros w (q * 2 ^ suc t + 2 ^ t) ≡ t
unfolding count_trailing_zeros
zeros_of t zero q l = absurd (not-suc-le-zero l)
zeros_of zero (suc w) q l =
    let e : (q * 2 + 1) % 2 ≡ 1 = omega arith in
    ap (λ (x : ℕ). under x (count_trailing_zeros w ((q * 2 + 1) / 2))) e
zeros_of (suc t) (suc w) q l =
    let e : 2 ^ suc t % 2 ≡ 0 = omega arith in
    let f : 2 ^ suc t / 2 ≡ 2 ^ t = omega arith in
    ap₂ (λ (x y : ℕ). under x (count_trailing_zeros w y))
    (block_odd q (suc t) (2 ^ suc t) ∙ e)
    (block_half q (suc t) (2 ^ suc t) ∙ ap (λ (x : ℕ). q * 2 ^ suc t + x) f)
    ∙ ap suc (zeros_of t w q (le_of_suc-le-suc l))

-- The number of zeros is below k, and the digits up to the lowest set one are that digit alone;
abbrev Form : ℕ → ℕ → ℕ → Type 0
Form k p t = (t < k) × (p % 2 ^ suc t ≡ 2 ^ t)

form_step : (k p t d : ℕ) → p % 2 ≡ d → (p % 2 ≡ zero → Form k (p / 2) t) → Form (suc k) p (under d t)
form_step k p t zero e ih =
    let f = ih e in
    let m : p % 2 ^ (suc t + 1) ≡ p / 2 % 2 ^ suc t * 2 + p % 2 = mod-pow-add p (suc t) 1 in
    let g : p / 2 % 2 ^ suc t ≡ 2 ^ t = f.1 in
    (suc-le-suc f.0, ap (λ (x : ℕ). p % 2 ^ x) (sym (add-one (suc t))) ∙ m ∙ (omega arith))
form_step k p t (suc d) e ih = (zero-lt-suc k, omega arith)

pub zeros_form : (k p : ℕ) → zero < p → p < 2 ^ k → Form k p (count_trailing_zeros k p)
unfolding count_trailing_zeros
zeros_form zero p h l = omega arith
zeros_form (suc k) p h l = form_step k p (count_trailing_zeros k (p / 2)) (p % 2) refl (λ e. zeros_form k (p / 2) (omega arith) (omega arith))

-- and there is one such number.
pub zeros_unique : (k p t : ℕ) → t < k → p % 2 ^ suc t ≡ 2 ^ t → count_trailing_zeros k p ≡ t
zeros_unique k p t l e = ap (count_trailing_zeros k) (sym (split p (suc t)) ∙ ap (λ (x : ℕ). p / 2 ^ suc t * 2 ^ suc t + x) e)
    ∙ zeros_of t k (p / 2 ^ suc t) l

-- The width does not count, if the number fits both.
pub zeros_width : (k w p : ℕ) → zero < p → p < 2 ^ k → k ≤ w → count_trailing_zeros w p ≡ count_trailing_zeros k p
zeros_width k w p h l g =
    ap (count_trailing_zeros w) (sym (zero-add p) ∙ ap (λ (x : ℕ). x + p) (sym (zero-mul (2 ^ k)))) ∙ zeros_low k w zero p h l g
