-- Counts over a window of numbers; among them, that the numbers of one class modulo M are spread evenly. Assumes nothing.
use mathlib.Core.Path.{◌≡◌, refl, sym, ap, ap₂, ◌∙◌}
use mathlib.Core.Bool.{Bool, false}
use Prim.Native.Nat.{ℕ, zero, suc, ◌+◌, ◌-◌, ◌*◌, ◌/◌, ◌%◌, ◌≤◌, ◌<◌}
use native.Mathlib.Nat.{mod-lt, div-add-mod', div-mul-le_self, div-eq_of_lt, lt-div-mul-add, le_refl, le_of_lt, mul-le-mul_right, mul-lt-mul_of_pos_left, zero-add, zero-mod, add-zero, suc-add}
use native.Mathlib.Decide.{dec_lt}
use native.Mathlib.Numerals.{add-one}
use native.Mathlib.Omega.{arith}
use lib.Arith.{digits_div}
use lib.Dec.{eqb}
use borrow.Author.Tests.{eq-eqb, ne_eqb}
use Rattle.general.specs.Tests.{one}
use Rattle.sequences.specs.Serving.{count_in}

-- x is r modulo M.
abbrev pub class : ℕ → ℕ → ℕ → Bool
class M r x = eqb (x % M) r

pub count_same : (f g : ℕ → Bool) (P T : ℕ) → ((x : ℕ) → P ≤ x → x < P + T → f x ≡ g x) → count_in f P T ≡ count_in g P T
unfolding count_in
count_same f g P zero h = refl
count_same f g P (suc T) h = ap₂ (λ (b : Bool) (n : ℕ). one b + n) (h P (le_refl P) (omega arith))
    (count_same f g (suc P) T (λ x l u. h x (le_of_lt l) (omega arith)))

pub count_append : (f : ℕ → Bool) (P S T : ℕ) → count_in f P (S + T) ≡ count_in f P S + count_in f (P + S) T
unfolding count_in
count_append f P zero T = rw (zero-add T, add-zero P) (sym (zero-add (count_in f P T)))
count_append f P (suc S) T =
    let e : P + suc S ≡ suc P + S = omega arith in
    let ih = count_append f (suc P) S T in
    rw (suc-add S T, e, ih) (omega arith)

-- One number more at the end.
pub count_more : (f : ℕ → Bool) (P T : ℕ) → count_in f P (suc T) ≡ count_in f P T + one (f (P + T))
unfolding count_in
count_more f P T = ap (count_in f P) (sym (add-one T)) ∙ count_append f P T 1 ∙ (omega arith)

-- A test that is the sum of another one and b times a third.
pub count_sum : (b : ℕ) (f g h : ℕ → Bool) (P T : ℕ) → ((x : ℕ) → P ≤ x → x < P + T → one (h x) ≡ one (f x) + b * one (g x))
    → count_in h P T ≡ count_in f P T + b * count_in g P T
unfolding count_in
count_sum b f g h P zero e = omega arith
count_sum b f g h P (suc T) e =
    let here = e P (le_refl P) (omega arith) in
    let rest : count_in h (suc P) T ≡ count_in f (suc P) T + b * count_in g (suc P) T = count_sum b f g h (suc P) T (λ x l u. e x (le_of_lt l) (omega arith)) in
    omega arith

pub count_none : (P T : ℕ) → count_in (λ (x : ℕ). false) P T ≡ 0
unfolding count_in
count_none P zero = refl
count_none P (suc T) = zero-add (count_in (λ (x : ℕ). false) (suc P) T) ∙ count_none (suc P) T

module _ (M r s : ℕ) (whole : s + suc r ≡ M) where
  -- The quotient of q * M + d moved by s: q up to d = r, one more from there on.
  low_quotient : (q d : ℕ) → d ≤ r → (q * M + d + s) / M ≡ q
  low_quotient q d l =
      let e : q * M + d + s ≡ q * M + (d + s) = omega arith in
      ap (λ (x : ℕ). x / M) e ∙ digits_div q (omega arith)

  high_quotient : (q d : ℕ) → r < d → d ≤ M → (q * M + d + s) / M ≡ suc q
  high_quotient q d l u =
      let e : q * M + d + s ≡ suc q * M + (d + s - M) = omega arith in
      ap (λ (x : ℕ). x / M) e ∙ digits_div (suc q) (omega arith)

  -- So one step further it goes up just at d = r.
  any_step : (q d : ℕ) → d < M → Dec (d < r) → Dec (r < d) → (q * M + suc d + s) / M ≡ (q * M + d + s) / M + one (eqb d r)
  any_step q d u (yes l) g = rw (ne_eqb d r (λ e. omega arith), low_quotient q (suc d) l, low_quotient q d (omega arith)) (omega arith)
  any_step q d u (no l) (yes g) = rw (ne_eqb d r (λ e. omega arith), high_quotient q (suc d) (omega arith) u, high_quotient q d g (omega arith)) (omega arith)
  any_step q d u (no l) (no g) = rw (eq-eqb d r (omega arith), high_quotient q (suc d) (omega arith) u, low_quotient q d (omega arith)) (omega arith)

  class_step : (x : ℕ) → (suc x + s) / M ≡ (x + s) / M + one (class M r x)
  class_step x =
      let z = any_step (x / M) (x % M) (mod-lt x (omega arith)) (dec_lt (x % M) r) (dec_lt r (x % M)) in
      let e : x / M * M + x % M ≡ x = div-add-mod' x M in
      let f : x / M * M + suc (x % M) ≡ suc x = omega arith in
      rw (e, f) at z

  -- The number of a class in a window, told by two quotients.
  pub class_count : (P T : ℕ) → count_in (class M r) P T + (P + s) / M ≡ (P + T + s) / M
  unfolding count_in
  class_count P zero = rw (add-zero P) (zero-add ((P + s) / M))
  class_count P (suc T) =
      let ih : count_in (class M r) (suc P) T + (suc P + s) / M ≡ (suc P + T + s) / M = class_count (suc P) T in
      let t = class_step P in
      let e : P + suc T + s ≡ suc P + T + s = omega arith in
      rw e (omega arith)

-- Of T numbers in a row those of one class modulo M are T / M, up to less than one.
spread : (M r P T : ℕ) → r < M → (M * count_in (class M r) P T < T + M) × (T < M * count_in (class M r) P T + M)
spread M r P T h =
    let s = M - suc r in
    let A = (P + s) / M in
    let B = (P + T + s) / M in
    let n = count_in (class M r) P T in
    let e : n + A ≡ B = class_count M r s (omega arith) P T in
    let f : (n + A) * M ≡ B * M = ap (λ (x : ℕ). x * M) e in
    let a = div-mul-le_self (P + s) M in
    let b : P + s < A * M + M = lt-div-mul-add (omega arith) in
    let c = div-mul-le_self (P + T + s) M in
    let d : P + T + s < B * M + M = lt-div-mul-add (omega arith) in
    (omega arith, omega arith)

-- The same for K = N * M.
pub spread_times : (K N M r P T : ℕ) → K ≡ N * M → zero < N → r < M
    → (K * count_in (class M r) P T < N * T + K) × (N * T < K * count_in (class M r) P T + K)
spread_times K N M r P T e pos h =
    let s = count_in (class M r) P T in
    let b = spread M r P T h in
    let lo : N * (M * s) < N * (T + M) = mul-lt-mul_of_pos_left b.0 pos in
    let hi : N * T < N * (M * s + M) = mul-lt-mul_of_pos_left b.1 pos in
    let f : K * s ≡ N * M * s = ap (λ (x : ℕ). x * s) e in
    (omega arith, omega arith)

-- A class over a whole number of its periods, from 1 on, if it is not that of 0.
pub class_all : (M n r : ℕ) → zero < n → zero < r → r < M → count_in (class M r) 1 (n * M - 1) ≡ n
unfolding count_in
class_all M n r pos away h =
    let s = M - suc r in
    let e : count_in (class M r) 0 (n * M) + (0 + s) / M ≡ (0 + n * M + s) / M = class_count M r s (omega arith) 0 (n * M) in
    let a : (0 + n * M + s) / M ≡ n = ap (λ (x : ℕ). (x + s) / M) (zero-add (n * M)) ∙ digits_div n (omega arith) in
    let b : (0 + s) / M ≡ 0 = ap (λ (x : ℕ). x / M) (zero-add s) ∙ div-eq_of_lt (omega arith) in
    let g : 1 * M ≤ n * M = mul-le-mul_right M pos in
    let c : n * M ≡ suc (n * M - 1) = omega arith in
    let z : class M r 0 ≡ false = ne_eqb (0 % M) r (λ q. let y = zero-mod M in omega arith) in
    let d : count_in (class M r) 0 (n * M) ≡ one (class M r 0) + count_in (class M r) 1 (n * M - 1) = ap (count_in (class M r) 0) c in
    let y : one (class M r 0) ≡ 0 = ap one z in
    omega arith
