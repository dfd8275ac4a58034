-- Reading a number digit by digit gives the number that the word spells. Assumes nothing.
use mathlib.Core.Path.{◌≡◌, refl}
use mathlib.Core.Bool.{Bool, true, false, cond, ◌&&◌}
use mathlib.Core.List.{List, [], ◌∷◌}
use Prim.Native.Nat.{ℕ, suc, ◌+◌, ◌-◌, ◌*◌, ◌≤◌, ◌<◌}
use native.Mathlib.Omega.{arith}
use lib.Dec.{leb}
use lib.ListN.{length, get_or, drop, drop_of_length-le}
use lib.Seq.{drop-cons}
use borrow.Author.Tests.{le-leb, lt-leb, leb-true}
use Rattle.std.specs.Prelude.{Option, Some, None}
use Rattle.general.proofs.Laws.{by_bool}
use Rattle.lines.specs.Grammar.{is_digit, all_digits, spelled_number, numeral}

-- what a word gives whose digits up to a place spell v, if the rest of it are digits and the whole is at most limit
unfoldable pub read_on : ℕ → ℕ → List ℕ → Option ℕ
read_on limit v s = cond (all_digits s && leb (spelled_number v s) limit) (Some (spelled_number v s)) None

pub spelled_le : (v : ℕ) (s : List ℕ) → v ≤ spelled_number v s
unfolding spelled_number
spelled_le v [] = omega arith
spelled_le v (b ∷ s) = omega (arith, spelled_le (v * 10 + (b - 48)) s)

pub numeral_empty : (most limit : ℕ) (w : List ℕ) → length w ≡ 0 → numeral most limit w ≡ None
unfolding numeral
numeral_empty most limit w h = rw h refl

pub numeral_long : (most limit : ℕ) (w : List ℕ) → most < length w → numeral most limit w ≡ None
unfolding numeral
numeral_long most limit w h = rw (le-leb 1 (length w) (omega arith), lt-leb (length w) most h) refl

pub numeral_read : (most limit : ℕ) (w : List ℕ) → (length w ≡ 0 → ⊥) → length w ≤ most → numeral most limit w ≡ read_on limit 0 w
unfolding numeral read_on
numeral_read most limit w z h = rw (le-leb 1 (length w) (omega arith), le-leb (length w) most h) refl

module _ (limit v : ℕ) (w : List ℕ) (i : ℕ) (h : i < length w) where
  pub read_stop : is_digit (get_or w i 0) ≡ false → read_on limit v (drop i w) ≡ None
  unfolding read_on all_digits
  read_stop f = rw (drop-cons w i 0 h, f) refl

  pub read_more : is_digit (get_or w i 0) ≡ true → read_on limit v (drop i w) ≡ read_on limit (v * 10 + (get_or w i 0 - 48)) (drop (suc i) w)
  unfolding read_on all_digits spelled_number
  read_more t = rw (drop-cons w i 0 h, t) refl

pub read_over : (limit v : ℕ) (s : List ℕ) → limit < v → read_on limit v s ≡ None
unfolding read_on
read_over limit v s h = rw (lt-leb (spelled_number v s) limit (omega (arith, spelled_le v s)))
    (by_bool (all_digits s) (λ t. rw t refl) (λ f. rw f refl))

pub read_end : (limit v : ℕ) (w : List ℕ) (i : ℕ) → length w ≤ i → v ≤ limit → read_on limit v (drop i w) ≡ Some v
unfolding read_on all_digits spelled_number
read_end limit v w i h k = rw (drop_of_length-le w h, le-leb v limit k) refl

-- a number is within its limit
given_limit : (a b c : Bool) (limit v x : ℕ) → cond (a && b && c && leb v limit) (Some v) None ≡ Some x → x ≤ limit
given_limit true true true limit v x e = by_bool (leb v limit)
    (λ t. let z = rw t at e in let s : v ≡ x = cc in omega (arith, leb-true v limit t))
    (λ f. let z = rw f at e in let n : ◌≡◌ {A = ℕ} 0 1 = cc in omega arith)
given_limit true true false limit v x e = let n : ◌≡◌ {A = ℕ} 0 1 = cc in omega arith
given_limit true false c limit v x e = let n : ◌≡◌ {A = ℕ} 0 1 = cc in omega arith
given_limit false b c limit v x e = let n : ◌≡◌ {A = ℕ} 0 1 = cc in omega arith

pub numeral_limit : (most limit : ℕ) (w : List ℕ) (v : ℕ) → numeral most limit w ≡ Some v → v ≤ limit
unfolding numeral
numeral_limit most limit w v e = given_limit (leb 1 (length w)) (leb (length w) most) (all_digits w) limit (spelled_number 0 w) v e
