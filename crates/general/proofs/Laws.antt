-- Laws of tests, of equations and of lists that no crate owns. Assumes nothing.
use mathlib.Core.Path.{◌≡◌, refl, sym, ap, ◌∙◌}
use mathlib.Core.Bool.{Bool, true, false, ◌&&◌, ◌||◌}
use mathlib.Core.List.{List, [], ◌∷◌, ◌++◌, map}
use Prim.Native.Nat.{ℕ, zero, suc, ◌+◌, ◌≤◌, ◌<◌}
use native.Mathlib.Nat.{add-zero, suc-ne-zero, not-suc-le-zero, le_of_suc-le-suc}
use native.Mathlib.Numerals.{add-one}
use native.Mathlib.Omega.{arith}
use native.Mathlib.Decide.{ℕ_discrete}
use lib.Dec.{eqb}
use lib.ListN.{length, get_or, set, replicate, length-replicate}
use lib.Seq.{sets}
use borrow.Author.Tests.{eq-eqb, ne_eqb, eqb-true}
use Rattle.general.specs.Tests.{every, passing, same}
use Rattle.general.specs.Lists.{blank}

-- Two things that are equal to a third: no second answer fits a promise that is an equation.
pub unique : {A : Type 0} {x y z : A} → x ≡ z → y ≡ z → x ≡ y
unique p q = p ∙ sym q

-- A test passes or fails, with its equation.
pub by_bool {ℓ} : {P : Type ℓ} (b : Bool) → (b ≡ true → P) → (b ≡ false → P) → P
by_bool true t f = t refl
by_bool false t f = f refl

-- No test does both.
pub clash : {P : Type 0} {b : Bool} → b ≡ true → b ≡ false → P
clash t f = let z : ◌≡◌ {A = ℕ} 0 1 = cc in absurd (omega arith)

-- A test that cannot pass fails.
pub never : (b : Bool) → (b ≡ true → ⊥) → b ≡ false
never b h = by_bool b (λ t. absurd (h t)) (λ f. f)

-- Two tests that pass together, and two that fail together.
pub both : (a b : Bool) → (a && b) ≡ true → (a ≡ true) × (b ≡ true)
both true b e = (refl, e)
both false b e = clash e refl

pub and_left : (a b : Bool) → (a && b) ≡ true → a ≡ true
and_left a b e = (both a b e).0

pub and_right : (a b : Bool) → (a && b) ≡ true → b ≡ true
and_right a b e = (both a b e).1

pub and_intro : (a b : Bool) → a ≡ true → b ≡ true → (a && b) ≡ true
and_intro a b p q = rw (p, q) refl

pub neither : (a b : Bool) → (a || b) ≡ false → (a ≡ false) × (b ≡ false)
neither true b e = clash refl e
neither false b e = (refl, e)

-- Two tests that pass together are one test.
pub same_test : (a b : Bool) → (a ≡ true → b ≡ true) → (b ≡ true → a ≡ true) → a ≡ b
same_test true b f g = sym (f refl)
same_test false true f g = g refl
same_test false false f g = refl

pub or_false : (b : Bool) → (b || false) ≡ b
or_false true = refl
or_false false = refl

-- ---- a test at every number

module _ (f : ℕ → Bool) where
  pub every_elim : (n i : ℕ) → every f n ≡ true → i < n → f i ≡ true
  unfolding every
  every_elim zero i t h = absurd (omega arith)
  every_elim (suc n) i t h =
      let b = both (every f n) (f n) t in
      elim (ℕ_discrete i n) [
        | yes r ↦ rw r b.1
        | no r ↦ every_elim n i b.0 (omega arith)
      ]

  pub every_intro : (n : ℕ) → ((i : ℕ) → i < n → f i ≡ true) → every f n ≡ true
  unfolding every
  every_intro zero h = refl
  every_intro (suc n) h = rw (every_intro n (λ i l. h i (omega arith)), h n (omega arith)) refl

  -- as a loop tests it
  pub every_more : (n : ℕ) → every f n ≡ true → f n ≡ true → every f (suc n) ≡ true
  unfolding every
  every_more n a b = rw (a, b) refl

  pub every_fails : (n i : ℕ) → i < n → f i ≡ false → every f n ≡ false
  every_fails n i h e = by_bool (every f n) (λ t. clash (every_elim n i t h) e) (λ g. g)

  -- told by how many numbers pass
  passing_le : (n : ℕ) → passing f n ≤ n
  unfolding passing
  passing_le zero = omega arith
  passing_le (suc n) = by_bool (f n) (λ t. rw t (omega (arith, passing_le n))) (λ g. rw g (omega (arith, passing_le n)))

  passing_some : (n i : ℕ) → i < n → f i ≡ false → passing f n < n
  unfolding passing
  passing_some zero i l e = absurd (omega arith)
  passing_some (suc n) i l e = elim (ℕ_discrete i n) [
    | yes r ↦ rw (rw r at e) (omega (arith, passing_le n))
    | no r ↦ by_bool (f n) (λ t. rw t (omega (arith, passing_some n i (omega arith) e))) (λ g. rw g (omega (arith, passing_le n)))
  ]

  passing_all : (n : ℕ) → every f n ≡ true → passing f n ≡ n
  unfolding passing
  passing_all zero t = refl
  passing_all (suc n) t = rw (passing_all n (every_intro n (λ i l. every_elim (suc n) i t (omega arith))), every_elim (suc n) n t (omega arith)) (omega arith)

  pub passing_every : (n : ℕ) → eqb (passing f n) n ≡ every f n
  passing_every n = by_bool (every f n)
      (λ t. rw t (eq-eqb (passing f n) n (passing_all n t)))
      (λ g. rw g (ne_eqb (passing f n) n (λ e. clash (every_intro n (λ i l. by_bool (f i) (λ t. t) (λ h. absurd (omega (arith, passing_some n i l h))))) g)))

  -- as a loop counts them
  pub passing_hit : (n : ℕ) → f n ≡ true → passing f (n + 1) ≡ passing f n + 1
  unfolding passing
  passing_hit n t = rw (add-one n, t) refl

  pub passing_miss : (n : ℕ) → f n ≡ false → passing f (n + 1) ≡ passing f n
  unfolding passing
  passing_miss n t = rw (add-one n, t) (omega arith)

-- ---- two lists that are the same

pub same_true : (s t : List ℕ) → same s t ≡ true → s ≡ t
unfolding same
same_true [] [] h = refl
same_true [] (b ∷ t) h = clash h refl
same_true (a ∷ s) [] h = clash h refl
same_true (a ∷ s) (b ∷ t) h = rw (eqb-true a b (and_left (eqb a b) (same s t) h), same_true s t (and_right (eqb a b) (same s t) h)) refl

pub same_own : (s : List ℕ) → same s s ≡ true
unfolding same
same_own [] = refl
same_own (a ∷ s) = rw (eq-eqb a a refl, same_own s) refl

pub true_same : (s t : List ℕ) → s ≡ t → same s t ≡ true
true_same s t e = rw (← e) (same_own s)

-- Lists of two lengths are not.
pub same_short : (s t : List ℕ) → (length s ≡ length t → ⊥) → same s t ≡ false
same_short s t h = never (same s t) (λ e. h (ap length (same_true s t e)))

-- ---- lists

pub empty : (l : List ℕ) → length l ≡ 0 → l ≡ []
empty [] e = refl
empty (x ∷ l) e = absurd (suc-ne-zero (length l) e)

pub zero_at : (n i : ℕ) → ◌≡◌ {A = ℕ} (get_or (replicate n 0) i 0) 0
zero_at zero i = refl
zero_at (suc n) zero = refl
zero_at (suc n) (suc i) = zero_at n i

pub blank_zero : (n i : ℕ) → get_or (blank n) i 0 ≡ 0
unfolding blank
blank_zero n i = zero_at n i

pub blank_length : (n : ℕ) → length (blank n) ≡ n
unfolding blank
blank_length n = length-replicate n 0

pub map_at : (f : ℕ → ℕ) (l : List ℕ) (i : ℕ) → i < length l → get_or (map f l) i 0 ≡ f (get_or l i 0)
map_at f [] i h = absurd (not-suc-le-zero h)
map_at f (x ∷ l) zero h = refl
map_at f (x ∷ l) (suc i) h = map_at f l i (le_of_suc-le-suc h)

-- Stores of one list after another are stores of both.
pub sets_append : (l : List ℕ) (i : ℕ) (xs ys : List ℕ) → sets (sets l i xs) (i + length xs) ys ≡ sets l i (xs ++ ys)
sets_append l i [] ys = ap (λ (k : ℕ). sets l k ys) (add-zero i)
sets_append l i (x ∷ xs) ys =
    let e : i + suc (length xs) ≡ suc i + length xs = omega arith in
    ap (λ (k : ℕ). sets (sets (set l i x) (suc i) xs) k ys) e ∙ sets_append (set l i x) (suc i) xs ys
