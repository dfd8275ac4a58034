-- A round by its halves: the round of 2 C + b, with b 0 or 1, is the round of C on the even leaves, the last leaf if b is 1, and the round of C on the odd leaves.
-- It is so because the weight spread sequence is: order k + 1 is order k, then k + 1, then order k again. Assumes nothing.
use mathlib.Core.Path.{◌≡◌, refl, sym, ap, ◌∙◌, subst}
use mathlib.Core.Bool.{Bool, true, false, cond}
use mathlib.Core.List.{List, [], ◌∷◌, ◌++◌, map}
use Prim.Native.Nat.{ℕ, zero, suc, ◌+◌, ◌-◌, ◌*◌, ◌/◌, ◌%◌, ◌^◌, ◌≤◌, ◌<◌}
use native.Mathlib.Nat.{add-zero, zero-add, mod-le, div-one, mul-add-div_right, mul_assoc, mod-eq_of_lt, suc-add, add-suc}
use native.Mathlib.Numerals.{add-one, one-add}
use native.Mathlib.Omega.{arith}
use native.Mathlib.Decide.{dec_lt}
use lib.Arith.{bin_ind}
use lib.Count.{count_trailing_zeros}
use lib.Dec.{eqb}
use lib.ListN.{replicate}
use lib.Pow.{pow_pos, pow-add, shr-shr, mod-pow-add, high}
use Rattle.general.specs.Tests.{one}
use Rattle.sequences.specs.Sequences.{rb}
use Rattle.sequences.specs.SlotOrder.{digits, term, column, bit, start, leaf_at, served_from, Position}
use Rattle.sequences.specs.Serving.{count_in, count_list, serves, leaves_in, leaves_from}
use Rattle.sequences.proofs.Reverse.{rb_block, rb_split, rb_one}
use Rattle.sequences.proofs.Zeros.{zeros_low, zeros_of}
use Rattle.sequences.proofs.Places.{digits_lt, digits_le, digits_width, exponent_lt}
use Rattle.sequences.proofs.Stepping.{column_add, index_lt}
use Rattle.sequences.proofs.Counting.{count_append}
use Rattle.sequences.proofs.Walk.{round_listed}

-- ---- leaves of a window

leaves_append : (C P S T : ℕ) → leaves_in C P (S + T) ≡ leaves_in C P S ++ leaves_in C (P + S) T
unfolding leaves_in
leaves_append C P zero T = rw (zero-add T, add-zero P)
leaves_append C P (suc S) T = rw (suc-add S T, add-suc P S, ← suc-add P S) (go (serves C P) (leaves_append C (suc P) S T))
  where
    go : (s : Bool) → leaves_in C (suc P) (S + T) ≡ leaves_in C (suc P) S ++ leaves_in C (suc P + S) T
        → cond s (leaf_at C P ∷ leaves_in C (suc P) (S + T)) (leaves_in C (suc P) (S + T))
        ≡ cond s (leaf_at C P ∷ leaves_in C (suc P) S) (leaves_in C (suc P) S) ++ leaves_in C (suc P + S) T
    go true ih = ap (λ (l : List ℕ). leaf_at C P ∷ l) ih
    go false ih = ih

-- A window of one capacity that serves as a window of another does, each leaf by its place there.
leaves_like : (C D q : ℕ) (g : ℕ → ℕ) (P T : ℕ) → ((p : ℕ) → P ≤ p → p < P + T → (bit D (column D (q + p)) ≡ bit C (column C p)) × (leaf_at D (q + p) ≡ g (leaf_at C p)))
    → leaves_in D (q + P) T ≡ map g (leaves_in C P T)
unfolding leaves_in
leaves_like C D q g P zero same = refl
leaves_like C D q g P (suc T) same =
    let e = same P (omega arith) (omega arith) in
    let ih = rw (add-suc q P) at (leaves_like C D q g (suc P) T (λ p lo hi. same p (omega arith) (omega arith))) in
    rw (e.0, e.1, ih) (go (serves C P))
  where
    go : (s : Bool) → cond s (g (leaf_at C P) ∷ map g (leaves_in C (suc P) T)) (map g (leaves_in C (suc P) T)) ≡ map g (cond s (leaf_at C P ∷ leaves_in C (suc P) T) (leaves_in C (suc P) T))
    go true = refl
    go false = refl

-- ---- the column and the leaf of a position

column_is : (C p : ℕ) → column C p ≡ digits C - term (digits C) p
unfolding column
column_is C p = refl

leaf_is : (C p : ℕ) → leaf_at C p ≡ start C (column C p) + rb (p / 2 ^ term (digits C) p) (column C p)
unfolding leaf_at
leaf_is C p = refl

module _ (C b : ℕ) (some : zero < C) (odd : b < 2) (few : 2 * C + b < 4096) where
  abbrev D : ℕ
  D = 2 * C + b

  -- ---- the numbers of 2 C + b

  half : D / 2 ≡ C
  half = omega arith

  digits_more : digits D ≡ suc (digits C)
  digits_more =
      let l = digits_lt C in
      let g = digits_le C some in
      let h = digits_lt D in
      let up : digits D ≤ suc (digits C) = digits_width D (suc (digits C)) (omega arith) (omega arith) in
      let down : digits C < digits D = exponent_lt (digits C) (digits D) (omega arith) in
      omega arith

  bit_more : (j : ℕ) → bit D (suc j) ≡ bit C j
  bit_more j = ap (λ (x : ℕ). x % 2) (ap (λ (x : ℕ). D / 2 ^ x) (sym (one-add j)) ∙ sym (shr-shr D 1 j) ∙ ap (λ (x : ℕ). x / 2 ^ j) half)

  start_more : (j : ℕ) → start D (suc j) ≡ 2 * start C j
  start_more j =
      let m : D % 2 ^ (suc j + 1) ≡ D / 2 % 2 ^ suc j * 2 + D % 2 = mod-pow-add D (suc j) 1 in
      let n : D / 2 % 2 ^ suc j ≡ C % 2 ^ suc j = ap (λ (x : ℕ). x % 2 ^ suc j) half in
      let e : D % 2 ^ suc (suc j) ≡ D % 2 ^ (suc j + 1) = ap (λ (x : ℕ). D % 2 ^ x) (sym (add-one (suc j))) in
      let l = mod-le C (2 ^ suc j) in
      omega arith

  -- ---- a position of either half: the same term, the next column, and the leaf twice as far on, with one more in the second half

  module _ (a p : ℕ) (side : a < 2) (at : Position C p) where
    abbrev here : ℕ
    here = a * 2 ^ digits C + p

    abbrev v : ℕ
    v = term (digits C) p

    abbrev j : ℕ
    j = column C p

    term_half : term (digits D) here ≡ v
    unfolding term
    term_half = rw digits_more (ap suc (zeros_low (digits C) (suc (digits C)) a p at.first at.last (omega arith)))

    column_half : column D here ≡ suc j
    column_half =
        let e = column_add C p at in
        let t = term_half in
        let d = digits_more in
        let c = column_is D here in
        omega arith

    index_half : here / 2 ^ v ≡ a * 2 ^ j + p / 2 ^ v
    index_half =
        let k : 2 ^ digits C ≡ 2 ^ j * 2 ^ v = ap (λ (x : ℕ). 2 ^ x) (sym (column_add C p at)) ∙ pow-add 2 j v in
        let e : here ≡ a * 2 ^ j * 2 ^ v + p = omega (arith, ap (λ (x : ℕ). a * x) k, mul_assoc a (2 ^ j) (2 ^ v)) in
        ap (λ (x : ℕ). x / 2 ^ v) e ∙ mul-add-div_right (pow_pos v) (a * 2 ^ j) p

    rb_half : (i : ℕ) → i < 2 ^ j → rb (a * 2 ^ j + i) (suc j) ≡ 2 * rb i j + a
    rb_half i h =
        let s : rb (a * 2 ^ j + i) (j + 1) ≡ rb (a * 2 ^ j + i) j * 2 + rb ((a * 2 ^ j + i) / 2 ^ j) 1 = rb_split (a * 2 ^ j + i) j 1 in
        let n : rb (a * 2 ^ j + i) (j + 1) ≡ rb (a * 2 ^ j + i) (suc j) = ap (rb (a * 2 ^ j + i)) (add-one j) in
        let l = rb_block a j i in
        let o : rb ((a * 2 ^ j + i) / 2 ^ j) 1 ≡ a = ap (λ (x : ℕ). rb x 1) (high a j h) ∙ rb_one a ∙ mod-eq_of_lt side in
        omega arith

    bit_half : bit D (column D here) ≡ bit C j
    bit_half = rw column_half (bit_more j)

    leaf_half : leaf_at D here ≡ 2 * leaf_at C p + a
    leaf_half =
        let s = start_more j in
        let r = rb_half (p / 2 ^ v) (index_lt C p at) in
        let c = leaf_is C p in
        rw (leaf_is D here, column_half, term_half, index_half) (omega arith)

  -- ---- the two halves, and the term between them

  abbrev T : ℕ
  T = 2 ^ digits C - 1

  half_listed : (a : ℕ) → a < 2 → leaves_in D (a * 2 ^ digits C + 1) T ≡ map (λ i. 2 * i + a) (leaves_from C 1 C)
  half_listed a side =
      let at : (p : ℕ) → 1 ≤ p → p < 1 + T → Position C p = λ p lo hi. record { some = some; few = omega arith; first = lo; last = omega arith } in
      leaves_like C D (a * 2 ^ digits C) (λ i. 2 * i + a) 1 T (λ p lo hi. (bit_half a p side (at p lo hi), leaf_half a p side (at p lo hi)))
      ∙ ap (map (λ i. 2 * i + a)) (sym (round_listed C some (omega arith)))

  middle_column : column D (2 ^ digits C) ≡ 0
  unfolding term
  middle_column =
      let z : count_trailing_zeros (suc (digits C)) (0 * 2 ^ suc (digits C) + 2 ^ digits C) ≡ digits C = zeros_of (digits C) (suc (digits C)) 0 (omega arith) in
      let s : 0 * 2 ^ suc (digits C) + 2 ^ digits C ≡ 2 ^ digits C = omega arith in
      let t : count_trailing_zeros (digits D) (2 ^ digits C) ≡ digits C = rw (digits_more, ← s) z in
      let d = digits_more in
      let c = column_is D (2 ^ digits C) in
      omega arith

  middle_bit : bit D (column D (2 ^ digits C)) ≡ b
  middle_bit = rw (middle_column, div-one D) (omega arith)

  middle_leaf : leaf_at D (2 ^ digits C) ≡ 2 * C
  unfolding rb
  middle_leaf = rw (leaf_is D (2 ^ digits C), middle_column) (omega arith)

  middle_listed : (n : ℕ) → leaves_in D (2 ^ digits C) (suc n) ≡ replicate b (2 * C) ++ leaves_in D (suc (2 ^ digits C)) n
  unfolding leaves_in
  middle_listed n = rw (middle_bit, middle_leaf) (go b odd)
    where
      go : (c : ℕ) → c < 2 → cond (eqb c 1) (2 * C ∷ leaves_in D (suc (2 ^ digits C)) n) (leaves_in D (suc (2 ^ digits C)) n) ≡ replicate c (2 * C) ++ leaves_in D (suc (2 ^ digits C)) n
      go zero h = refl
      go (suc zero) h = refl
      go (suc (suc c)) h = absurd (omega arith)

  pub round_halves : leaves_from D 1 D ≡ map (λ i. 2 * i) (leaves_from C 1 C) ++ (replicate b (2 * C) ++ map (λ i. 2 * i + 1) (leaves_from C 1 C))
  round_halves =
      let z = pow_pos (digits C) in
      let all : 2 ^ digits D - 1 ≡ T + suc T = ap (λ (k : ℕ). 2 ^ k - 1) digits_more ∙ (omega arith) in
      let lo : 0 * 2 ^ digits C + 1 ≡ 1 = omega arith in
      let mid : 1 + T ≡ 2 ^ digits C = omega arith in
      let hi : 1 * 2 ^ digits C + 1 ≡ suc (2 ^ digits C) = omega arith in
      let even : leaves_in D 1 T ≡ map (λ i. 2 * i) (leaves_from C 1 C) = simp add-zero at (rw lo at (half_listed 0 (omega arith))) in
      let odds : leaves_in D (suc (2 ^ digits C)) T ≡ map (λ i. 2 * i + 1) (leaves_from C 1 C) = rw hi at (half_listed 1 (omega arith)) in
      round_listed D (omega arith) few
      ∙ ap (leaves_in D 1) all
      ∙ leaves_append D 1 T (suc T)
      ∙ rw (mid, middle_listed T, even, odds)

-- ---- in a round as many slots serve a leaf that passes a test as there are such leaves

pub list_append : (f : ℕ → Bool) (L M : List ℕ) → count_list f (L ++ M) ≡ count_list f L + count_list f M
unfolding count_list
list_append f [] M = sym (zero-add (count_list f M))
list_append f (x ∷ L) M = omega (arith, list_append f L M)

pub list_map : (f : ℕ → Bool) (g : ℕ → ℕ) (L : List ℕ) → count_list f (map g L) ≡ count_list (λ (x : ℕ). f (g x)) L
unfolding count_list
list_map f g [] = refl
list_map f g (x ∷ L) = ap (λ (n : ℕ). one (f (g x)) + n) (list_map f g L)

-- The numbers below 2 n are the even ones and the odd ones.
in_pairs : (f : ℕ → Bool) (P n : ℕ) → count_in f (2 * P) (2 * n) ≡ count_in (λ (x : ℕ). f (2 * x)) P n + count_in (λ (x : ℕ). f (2 * x + 1)) P n
unfolding count_in
in_pairs f P zero = refl
in_pairs f P (suc n) =
    let e : 2 * suc n ≡ suc (suc (2 * n)) = omega arith in
    let t : suc (suc (2 * P)) ≡ 2 * suc P = omega arith in
    let o : suc (2 * P) ≡ 2 * P + 1 = omega arith in
    rw (e, t, o) (omega (arith, in_pairs f (suc P) n))

-- One more, or none.
in_one : (f : ℕ → Bool) (P b : ℕ) → b < 2 → count_in f P b ≡ count_list f (replicate b P)
unfolding count_in count_list
in_one f P zero h = refl
in_one f P (suc zero) h = refl
in_one f P (suc (suc b)) h = absurd (omega arith)

abbrev Counted : ℕ → Type 0
Counted C = C < 4096 → (f : ℕ → Bool) → count_list f (leaves_from C 1 C) ≡ count_in f 0 C

counted_halves : (C b : ℕ) → zero < C → b < 2 → Counted C → Counted (2 * C + b)
counted_halves C b some odd ih few f =
    let even : ℕ → ℕ = λ i. 2 * i in
    let next : ℕ → ℕ = λ i. 2 * i + 1 in
    let R = leaves_from C 1 C in
    let l = list_append f (map even R) (replicate b (2 * C) ++ map next R) in
    let h = list_append f (replicate b (2 * C)) (map next R) in
    let o : count_in f (0 + 2 * C) b ≡ count_list f (replicate b (2 * C)) = ap (λ (P : ℕ). count_in f P b) (zero-add (2 * C)) ∙ in_one f (2 * C) b odd in
    ap (count_list f) (round_halves C b some odd few)
    ∙ omega (arith, list_map f even R, list_map f next R, ih (omega arith) (λ (x : ℕ). f (2 * x)), ih (omega arith) (λ (x : ℕ). f (2 * x + 1)), in_pairs f 0 C, count_append f 0 (2 * C) b)

counted_few : (n : ℕ) → ¬ (1 < n) → Counted n
unfolding count_list count_in leaves_from leaf_at served_from
counted_few zero h few f = refl
counted_few (suc zero) h few f = refl
counted_few (suc (suc n)) h few f = absurd (omega arith)

counted_by : (n : ℕ) → Counted (n / 2) → Dec (1 < n) → Counted n
counted_by n ih (yes h) = subst Counted (let e : 2 * (n / 2) + n % 2 ≡ n = omega arith in e) (counted_halves (n / 2) (n % 2) (omega arith) (omega arith) ih)
counted_by n ih (no h) = counted_few n h

pub round_counts : (C : ℕ) → Counted C
round_counts = bin_ind Counted (counted_few 0 (λ h. omega arith)) (λ n ih. counted_by n ih (dec_lt 1 n))
