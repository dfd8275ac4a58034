-- What each loop's definition says of one step more, and a block of its halves. Assumes nothing.
use mathlib.Core.Path.{◌≡◌, refl, sym, ap, ◌∙◌, subst}
use mathlib.Core.Bool.{Bool, true, false, ◌&&◌}
use mathlib.Core.List.{List}
use Prim.Native.Nat.{ℕ, zero, suc, ◌+◌, ◌-◌, ◌^◌, ◌/◌, ◌%◌, ◌≤◌, ◌<◌}
use native.Mathlib.Nat.{pow-suc, zero-add}
use native.Mathlib.Numerals.{add-one, sub-one}
use native.Mathlib.Omega.{arith}
use native.Mathlib.Decide.{ℕ_discrete}
use lib.Dec.{ltb, eqb}
use lib.ListN.{get_or, set}
use borrow.Author.Tests.{eq-eqb, ne_eqb, ltb-true, eqb-true, eqb-false}
use Rattle.general.proofs.Laws.{by_bool, and_left, and_right}
use Rattle.pieces.specs.Board.{weight, pieces, whole}
use Rattle.pieces.specs.Placing.{first, fit, put, place, put_digit, Placeable}
use Rattle.pieces.specs.Tidying.{clear, twin}
use Rattle.pieces.specs.Halving.{Roomy, Fitting, roomy, count_from}
use Rattle.pieces.proofs.Blocks.{one_le, whole_intro}
use Rattle.pieces.proofs.Weight.{weight_total}
use Rattle.pieces.proofs.Adding.{placed_roomy}
use Rattle.pieces.proofs.Literal.{good_elim}
use Rattle.pieces.proofs.Removed.{clear_beyond}

pub pow_half : (l : ℕ) → (l ≡ 0 → ⊥) → 2 ^ l ≡ 2 ^ (l - 1) + 2 ^ (l - 1)
pow_half zero p = absurd (p refl)
pow_half (suc h) p = rw sub-one (omega (arith, pow-suc 2 h))

-- A leaf that no step has come to is as it was.
clear_ahead : (B : List ℕ) (i x : ℕ) {M : List ℕ} → M ≡ clear B x i → get_or B i 0 ≡ get_or M i 0
clear_ahead B i x e = sym (ap (λ (L : List ℕ). get_or L i 0) e ∙ clear_beyond B x i i (omega arith))

pub clear_hit : (B : List ℕ) (i x : ℕ) {M : List ℕ} → M ≡ clear B x i → get_or M i 0 ≡ x → set M i 0 ≡ clear B x (i + 1)
unfolding clear
clear_hit B i x e h = rw (add-one i, eq-eqb (get_or B i 0) x (clear_ahead B i x e ∙ h), e) refl

pub clear_miss : (B : List ℕ) (i x : ℕ) {M : List ℕ} → M ≡ clear B x i → (get_or M i 0 ≡ x → ⊥) → M ≡ clear B x (i + 1)
unfolding clear
clear_miss B i x e h = rw (add-one i, ne_eqb (get_or B i 0) x (λ r. h (sym (clear_ahead B i x e) ∙ r)), e) refl

pub first_next : (p : ℕ → Bool) (e n : ℕ) → e < n → p e ≡ false → first p e (n - e) ≡ first p (e + 1) (n - (e + 1))
unfolding first
first_next p e n h f = go (n - e) refl
  where
    go : (k : ℕ) → n - e ≡ k → first p e k ≡ first p (e + 1) (n - (e + 1))
    go zero z = absurd (omega arith)
    go (suc k) z = let s : n - (e + 1) ≡ k = omega arith in rw (f, s, add-one e) refl

pub first_here : (p : ℕ → Bool) (e n : ℕ) → e < n → p e ≡ true → first p e (n - e) ≡ e
unfolding first
first_here p e n h t = go (n - e) refl
  where
    go : (k : ℕ) → n - e ≡ k → first p e k ≡ e
    go zero z = absurd (omega arith)
    go (suc k) z = rw t refl

pub first_last : (p : ℕ → Bool) (e n : ℕ) → e ≡ n → first p e (n - e) ≡ n
unfolding first
first_last p e n h = let s : n - e ≡ 0 = omega arith in rw (s, h) refl

pub place_more : (C : ℕ) (B : List ℕ) (x w n : ℕ) → 0 < n → place C (put_digit C B x w (n - 1)) x w (n - 1) ≡ place C B x w n
unfolding place
place_more C B x w zero h = absurd (omega arith)
place_more C B x w (suc n) h = rw sub-one refl

pub place_none : (C : ℕ) (B : List ℕ) (x w n : ℕ) → n ≡ 0 → B ≡ place C B x w n
unfolding place
place_none C B x w n z = rw z refl

pub roomy_more : (C : ℕ) (B : List ℕ) (x w n : ℕ) → 0 < n → roomy C B x w n ≡ true → roomy C (put_digit C B x w (n - 1)) x w (n - 1) ≡ true
unfolding roomy
roomy_more C B x w zero h t = absurd (omega arith)
roomy_more C B x w (suc n) h t = rw sub-one
    (by_bool (eqb (w / 2 ^ n % 2) 1)
    (λ e. rw e (and_right (ltb 0 (pieces C B 0 (fit C B n) 0 12)) (roomy C (put C B x n) x w n) (rw e at t)))
    (λ e. rw e (rw e at t)))

pub roomy_fitting : (C : ℕ) (B : List ℕ) (x w n : ℕ) → Roomy C B x w (suc n) → w / 2 ^ n % 2 ≡ 1 → Fitting C B n
unfolding roomy
roomy_fitting C B x w n r d =
    let t : (ltb 0 (pieces C B 0 (fit C B n) 0 12) && roomy C (put C B x n) x w n) ≡ true = rw (eq-eqb (w / 2 ^ n % 2) 1 d) at r.room in
    record {
      small = r.small;
      long = r.long;
      power = r.digits;
      piece = ltb-true 0 (pieces C B 0 (fit C B n) 0 12) (and_left (ltb 0 (pieces C B 0 (fit C B n) 0 12)) (roomy C (put C B x n) x w n) t);
    }

-- What an add has checked is enough room for each power.
pub placeable_roomy : (C : ℕ) (B : List ℕ) (x w : ℕ) → Placeable C B x w → roomy C B x w 12 ≡ true
placeable_roomy C B x w p = placed_roomy C B x w p.small p.long p.named (good_elim C B p.sound)
    (sym (weight_total C B x (omega (arith, p.small))) ∙ p.absent)
    (omega (arith, p.small, p.room, weight_total C B 0 (omega (arith, p.small))))

pub twin_le : (a e : ℕ) → twin a e ≤ a + 2 ^ e
unfolding twin
twin_le a e = by_bool (eqb (a / 2 ^ e % 2) 0) (λ t. rw t (omega arith)) (λ f. rw f (omega arith))

-- ---- a block of leaves counted

pub count_hit : (B : List ℕ) (x a i : ℕ) → get_or B (a + i) 0 ≡ x → count_from B x a (i + 1) ≡ count_from B x a i + 1
unfolding count_from
count_hit B x a i e = rw (add-one i, eq-eqb (get_or B (a + i) 0) x e) refl

pub count_miss : (B : List ℕ) (x a i : ℕ) → (get_or B (a + i) 0 ≡ x → ⊥) → count_from B x a (i + 1) ≡ count_from B x a i
unfolding count_from
count_miss B x a i e = rw (add-one i, ne_eqb (get_or B (a + i) 0) x e) (omega arith)

count_le : (B : List ℕ) (x a n : ℕ) → count_from B x a n ≤ n
unfolding count_from
count_le B x a zero = omega arith
count_le B x a (suc n) = omega (arith, count_le B x a n, one_le (eqb (get_or B (a + n) 0) x))

count_all : (B : List ℕ) (x a n : ℕ) → count_from B x a n ≡ n → (i : ℕ) → i < n → get_or B (a + i) 0 ≡ x
unfolding count_from
count_all B x a zero e i h = absurd (omega arith)
count_all B x a (suc n) e i h = by_bool (eqb (get_or B (a + n) 0) x)
    (λ t. elim (ℕ_discrete i n) [
      | yes r ↦ rw r (eqb-true (get_or B (a + n) 0) x t)
      | no r ↦ count_all B x a n (let e' : count_from B x a n + 1 ≡ suc n = rw t at e in omega arith) i (omega arith)
    ])
    (λ f. absurd (let e' : count_from B x a n + 0 ≡ suc n = rw f at e in omega (arith, count_le B x a n)))

count_none : (B : List ℕ) (x a n : ℕ) → count_from B x a n ≡ 0 → (i : ℕ) → i < n → get_or B (a + i) 0 ≡ x → ⊥
unfolding count_from
count_none B x a zero e i h q = omega arith
count_none B x a (suc n) e i h q = by_bool (eqb (get_or B (a + n) 0) x)
    (λ t. let e' : count_from B x a n + 1 ≡ 0 = rw t at e in omega arith)
    (λ f. elim (ℕ_discrete i n) [
      | yes r ↦ eqb-false (get_or B (a + n) 0) x f (subst (λ (j : ℕ). get_or B (a + j) 0 ≡ x) r q)
      | no r ↦ count_none B x a n (let e' : count_from B x a n + 0 ≡ 0 = rw f at e in omega arith) i (omega arith) q
    ])

-- All leaves of a block make a run.
pub count_whole : (C : ℕ) (B : List ℕ) (x a l n : ℕ) → n ≡ 2 ^ l → a + 2 ^ l ≤ C → count_from B x a n ≡ n → whole C B x a l ≡ true
count_whole C B x a l n s h e =
    whole_intro C B x a l (λ i p q. (omega arith, subst (λ (j : ℕ). get_or B j 0 ≡ x) (let z : a + (i - a) ≡ i = omega arith in z) (count_all B x a n e (i - a) (omega arith))))

-- And none that none of them is idle.
pub count_taken : (C : ℕ) (B : List ℕ) (a l n : ℕ) → n ≡ 2 ^ l → count_from B 0 a n ≡ 0 → (i : ℕ) → a ≤ i → i < a + 2 ^ l → i < C → get_or B i 0 ≡ 0 → ⊥
count_taken C B a l n s e i p q c t = count_none B 0 a n e (i - a) (omega arith) (subst (λ (j : ℕ). get_or B j 0 ≡ 0) (let y : i ≡ a + (i - a) = omega arith in y) t)

-- The leaves from 0 on counted are the weight.
pub count_weight : (B : List ℕ) (x n : ℕ) → count_from B x 0 n ≡ weight n B x
unfolding count_from weight
count_weight B x zero = refl
count_weight B x (suc n) = rw (zero-add n, count_weight B x n) refl
