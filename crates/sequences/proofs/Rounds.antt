-- How many slots a window of positions has: C in a whole round, and C * T / 2 ^ k in T positions, up to less than the ones of C. Assumes nothing.
use mathlib.Core.Path.{◌≡◌, refl, sym, ap, ap₂, ◌∙◌, subst}
use mathlib.Core.Logic.{◌⊎◌, inl, inr}
use mathlib.Core.Bool.{Bool, true, false, ◌&&◌, and-true, and-false}
use Prim.Native.Nat.{ℕ, zero, suc, ◌+◌, ◌-◌, ◌*◌, ◌/◌, ◌%◌, ◌^◌, ◌≤◌, ◌<◌, zero-le}
use native.Mathlib.Nat.{mod-lt, mod-eq_of_lt, mod-one, le_refl, lt_irrefl, eq-zero-or-pos, add_comm}
use native.Mathlib.Numerals.{one-add}
use native.Mathlib.Decide.{dec_lt}
use native.Mathlib.Omega.{arith}
use lib.Arith.{bin_ind}
use lib.Count.{count_trailing_zeros, ones, ones_cat, ones_step}
use lib.Dec.{eqb, ltb}
use lib.Pow.{pow_pos, pow-add}
use borrow.Author.Tests.{eq-eqb, ne_eqb, eqb-true, lt-ltb, le-ltb}
use Rattle.general.specs.Tests.{one}
use Rattle.general.proofs.Laws.{same_test}
use Rattle.sequences.specs.SlotOrder.{digits, term, column, bit, Position}
use Rattle.sequences.specs.Serving.{count_in, serves}
use Rattle.sequences.proofs.Zeros.{zeros_form, zeros_unique}
use Rattle.sequences.proofs.Places.{digits_lt, mod_step}
use Rattle.sequences.proofs.Stepping.{column_add, column_lt}
use Rattle.sequences.proofs.Counting.{class, count_same, count_sum, count_none, class_all, spread_times}

-- The positions of one term are a class: those of the term t + 1 are 2 ^ t modulo 2 ^ (t + 1).
pub term_test : (k p t : ℕ) → zero < p → p < 2 ^ k → t < k → eqb (term k p) (suc t) ≡ class (2 ^ suc t) (2 ^ t) p
unfolding term
term_test k p t first last l = same_test _ _ there back
  where
    there : eqb (suc (count_trailing_zeros k p)) (suc t) ≡ true → class (2 ^ suc t) (2 ^ t) p ≡ true
    there e =
        let s = eqb-true (suc (count_trailing_zeros k p)) (suc t) e in
        let v : count_trailing_zeros k p ≡ t = omega arith in
        eq-eqb _ _ (subst (λ (x : ℕ). p % 2 ^ suc x ≡ 2 ^ x) v (zeros_form k p first last).1)

    back : class (2 ^ suc t) (2 ^ t) p ≡ true → eqb (suc (count_trailing_zeros k p)) (suc t) ≡ true
    back e = eq-eqb _ _ (ap suc (zeros_unique k p t l (eqb-true (p % 2 ^ suc t) (2 ^ t) e)))

-- So are those of one column.
column_test : (C p j t : ℕ) → Position C p → digits C ≡ suc t + j → eqb (column C p) j ≡ class (2 ^ suc t) (2 ^ t) p
column_test C p j t at order =
    let a = column_add C p at in
    same_test (eqb (column C p) j) (eqb (term (digits C) p) (suc t))
    (λ e. let c = eqb-true (column C p) j e in eq-eqb (term (digits C) p) (suc t) (omega arith))
    (λ e. let v = eqb-true (term (digits C) p) (suc t) e in eq-eqb (column C p) j (omega arith))
    ∙ term_test (digits C) p t at.first at.last (omega arith)

-- The positions that serve in a column below J.
abbrev serves_below : ℕ → ℕ → ℕ → Bool
serves_below C J p = serves C p && ltb (column C p) J

-- One more column.
bit_test : (b : ℕ) → b < 2 → one (eqb b 1 && true) ≡ one (eqb b 1 && false) + b * 1
bit_test zero h = refl
bit_test (suc zero) h = refl
bit_test (suc (suc b)) h = omega arith

below_step : (C J p : ℕ) → Dec (column C p < J) → Dec (J < column C p)
    → one (serves_below C (suc J) p) ≡ one (serves_below C J p) + bit C J * one (eqb (column C p) J)
below_step C J p (yes l) d =
    rw (lt-ltb (column C p) (suc J) (omega arith), lt-ltb (column C p) J l, ne_eqb (column C p) J (λ e. omega arith)) (omega arith)
below_step C J p (no l) (yes g) =
    rw (le-ltb (column C p) (suc J) (omega arith), le-ltb (column C p) J (omega arith), ne_eqb (column C p) J (λ e. omega arith)) (omega arith)
below_step C J p (no l) (no g) =
    let e : column C p ≡ J = omega arith in
    rw (e, lt-ltb J (suc J) (omega arith), le-ltb J J (le_refl J), eq-eqb J J refl) (bit_test (bit C J) (omega arith))

-- A number that is not 0 has a set digit.
ones_pos : (n : ℕ) → zero < n → zero < ones n
ones_pos n h = bin_ind (λ (m : ℕ). zero < m → zero < ones m) (λ z. absurd (lt_irrefl 0 z)) step n h
  where
    step : (m : ℕ) → (zero < m / 2 → zero < ones (m / 2)) → zero < m → zero < ones m
    step m ih p = go (eq-zero-or-pos (m / 2))
      where
        go : (m / 2 ≡ zero) ⊎ (zero < m / 2) → zero < ones m
        go (inl e) = let s = ones_step m in omega arith
        go (inr q) = let s = ones_step m in let i = ih q in omega arith

-- A window of positions of the round.
module _ (C P T : ℕ) (some : zero < C) (few : C < 4096) (first : zero < P) (last : P + T ≤ 2 ^ digits C) where
  inside : (x : ℕ) → P ≤ x → x < P + T → Position C x
  inside x lo hi = record { some = some; few = few; first = omega arith; last = omega arith }

  below_class : (J t x : ℕ) → digits C ≡ suc t + J → P ≤ x → x < P + T
      → one (serves_below C (suc J) x) ≡ one (serves_below C J x) + bit C J * one (class (2 ^ suc t) (2 ^ t) x)
  below_class J t x order lo hi = below_step C J x (dec_lt (column C x) J) (dec_lt J (column C x))
      ∙ ap (λ (b : Bool). one (serves_below C J x) + bit C J * one b) (column_test C x J t (inside x lo hi) order)

  count_below : (J t : ℕ) → digits C ≡ suc t + J
      → count_in (serves_below C (suc J)) P T ≡ count_in (serves_below C J) P T + bit C J * count_in (class (2 ^ suc t) (2 ^ t)) P T
  count_below J t order =
      count_sum (bit C J) (serves_below C J) (class (2 ^ suc t) (2 ^ t)) (serves_below C (suc J)) P T (λ x lo hi. below_class J t x order lo hi)

  count_zero : count_in (serves_below C 0) P T ≡ 0
  count_zero = count_same (serves_below C 0) (λ (x : ℕ). false) P T (λ x lo hi. rw (le-ltb (column C x) 0 zero-le) (and-false (serves C x))) ∙ count_none P T

  count_all : count_in (serves_below C (digits C)) P T ≡ count_in (serves C) P T
  count_all = count_same (serves_below C (digits C)) (serves C) P T (λ x lo hi. rw (lt-ltb (column C x) (digits C) (column_lt C x (inside x lo hi))) (and-true (serves C x)))

  -- The number a of positions that serve in the lowest columns, which have c leaves: |2 ^ k * a - c * T| is at most h * (2 ^ k - 1), with h the ones of c.
  abbrev Bounds : ℕ → ℕ → Type 0
  Bounds c a = (2 ^ digits C * a + ones c ≤ c * T + ones c * 2 ^ digits C) × (c * T + ones c ≤ 2 ^ digits C * a + ones c * 2 ^ digits C)

  bounds_step : (J t b a : ℕ) → digits C ≡ suc t + J → bit C J ≡ b → Bounds (C % 2 ^ J) a → Bounds (C % 2 ^ suc J) (a + bit C J * count_in (class (2 ^ suc t) (2 ^ t)) P T)
  unfolding ones
  bounds_step J t zero a order e i =
      let m : C % 2 ^ suc J ≡ C % 2 ^ J = mod_step C J ∙ ap (λ (x : ℕ). x * 2 ^ J + C % 2 ^ J) e ∙ (omega arith) in
      rw (m, e) (omega arith)
  bounds_step J t (suc b) a order e i =
      let d : bit C J ≡ 1 = omega arith in
      let m : C % 2 ^ suc J ≡ 1 * 2 ^ J + C % 2 ^ J = mod_step C J ∙ ap (λ (x : ℕ). x * 2 ^ J + C % 2 ^ J) d in
      let n : ones (C % 2 ^ suc J) ≡ suc (ones (C % 2 ^ J)) = ap ones m ∙ ones_cat J 1 (C % 2 ^ J) (mod-lt C (pow_pos J)) ∙ one-add (ones (C % 2 ^ J)) in
      let s = count_in (class (2 ^ suc t) (2 ^ t)) P T in
      let K : 2 ^ digits C ≡ 2 ^ J * 2 ^ suc t = ap (λ (x : ℕ). 2 ^ x) (order ∙ (omega arith)) ∙ pow-add 2 J (suc t) in
      let w = spread_times (2 ^ digits C) (2 ^ J) (2 ^ suc t) (2 ^ t) P T K (pow_pos J) (let z = pow_pos t in omega arith) in
      let g : C % 2 ^ suc J * T ≡ (1 * 2 ^ J + C % 2 ^ J) * T = ap (λ (x : ℕ). x * T) m in
      rw (n, d) (omega arith)

  bounds : (J : ℕ) → J ≤ digits C → Bounds (C % 2 ^ J) (count_in (serves_below C J) P T)
  unfolding ones
  bounds zero h = rw (mod-one C, count_zero) (omega arith)
  bounds (suc J) h =
      let t = digits C - suc J in
      let order : digits C ≡ suc t + J = omega arith in
      rw (count_below J t order) (bounds_step J t (bit C J) (count_in (serves_below C J) P T) order refl (bounds J (omega arith)))

  pub slots_spread :
      (2 ^ digits C * count_in (serves C) P T < C * T + ones C * 2 ^ digits C)
      × (C * T < 2 ^ digits C * count_in (serves C) P T + ones C * 2 ^ digits C)
  slots_spread =
      let b : Bounds (C % 2 ^ digits C) (count_in (serves_below C (digits C)) P T) = bounds (digits C) (le_refl (digits C)) in
      let m : C % 2 ^ digits C ≡ C = mod-eq_of_lt (digits_lt C) in
      let c : Bounds C (count_in (serves C) P T) = rw (m, count_all) at b in
      let h = ones_pos C some in
      (omega arith, omega arith)

-- A whole round has C slots.
round_below : (C : ℕ) → zero < C → C < 4096 → (J : ℕ) → J ≤ digits C → count_in (serves_below C J) 1 (2 ^ digits C - 1) ≡ C % 2 ^ J
round_below C some few zero h =
    let z = pow_pos (digits C) in
    count_zero C 1 (2 ^ digits C - 1) some few (omega arith) (omega arith) ∙ sym (mod-one C)
round_below C some few (suc J) h =
    let z = pow_pos (digits C) in
    let t = digits C - suc J in
    let order : digits C ≡ suc t + J = omega arith in
    let ih = round_below C some few J (omega arith) in
    let w : 2 ^ digits C ≡ 2 ^ J * 2 ^ suc t = ap (λ (x : ℕ). 2 ^ x) (order ∙ (omega arith)) ∙ pow-add 2 J (suc t) in
    let u = pow_pos t in
    let s : count_in (class (2 ^ suc t) (2 ^ t)) 1 (2 ^ digits C - 1) ≡ 2 ^ J =
    ap (λ (x : ℕ). count_in (class (2 ^ suc t) (2 ^ t)) 1 (x - 1)) w ∙ class_all (2 ^ suc t) (2 ^ J) (2 ^ t) (pow_pos J) u (omega arith) in
    let b = count_below C 1 (2 ^ digits C - 1) some few (omega arith) (omega arith) J t order in
    b ∙ ap₂ (λ (x y : ℕ). x + bit C J * y) ih s ∙ add_comm (C % 2 ^ J) (bit C J * 2 ^ J) ∙ sym (mod_step C J)

pub round_count : (C : ℕ) → zero < C → C < 4096 → count_in (serves C) 1 (2 ^ digits C - 1) ≡ C
round_count C some few =
    let z = pow_pos (digits C) in
    sym (count_all C 1 (2 ^ digits C - 1) some few (omega arith) (omega arith))
    ∙ round_below C some few (digits C) (le_refl (digits C)) ∙ mod-eq_of_lt (digits_lt C)
