-- One step of tidying: the twin t of an idle piece k moves to an idle piece d of the same size, and becomes idle. Assumes nothing.
use mathlib.Core.Path.{◌≡◌, sym, ap, ◌∙◌, subst}
use mathlib.Core.Bool.{true}
use mathlib.Core.List.{List}
use mathlib.Core.Logic.{◌⊎◌, inl, inr, ⊎_elim}
use Prim.Native.Nat.{ℕ, zero, suc, ◌+◌, ◌-◌, ◌^◌, ◌≤◌, ◌<◌}
use native.Mathlib.Nat.{two-pow-succ, add_assoc}
use native.Mathlib.Omega.{arith}
use native.Mathlib.Decide.{dec_le, ℕ_discrete}
use lib.ListN.{get_or}
use lib.Pow.{pow_pos}
use Rattle.general.specs.Tests.{one}
use Rattle.general.proofs.Laws.{by_bool, never, clash}
use Rattle.pieces.specs.Board.{whole, pieces, sum}
use Rattle.pieces.proofs.Blocks.{runs, leaves, In, whole_elim, whole_intro, whole_join, whole_name, whole_end, runs_top, runs_split, runs_yes, runs_no, runs_above, pieces_runs}
use Rattle.pieces.proofs.Replace.{bounds, NoParent, Agree, Outside, whole_agree, whole_local, runs_local, runs_replace, runs_keep, runs_stay}
use Rattle.pieces.proofs.Weight.{leaves_runs, number_sum}
use Rattle.pieces.proofs.Piece.{in_cases, in_trans, apart, Twin, twin_of, whole_sub, Piece, pieces_counted}
use Rattle.pieces.proofs.Placed.{no_parent, no_parent_twin, one_parent, Filled}

-- ---- sums

sum_le : (g h : ℕ → ℕ) (n : ℕ) → ((f : ℕ) → g f ≤ h f) → sum g n ≤ sum h n
unfolding sum
sum_le g h zero k = omega arith
sum_le g h (suc n) k = omega (arith, sum_le g h n k, k n)

sum_lt : (g h : ℕ → ℕ) (n m : ℕ) → ((f : ℕ) → g f ≤ h f) → m < n → g m < h m → sum g n < sum h n
unfolding sum
sum_lt g h zero m k p q = absurd (omega arith)
sum_lt g h (suc n) m k p q =
    elim (ℕ_discrete m n) [
      | yes r ↦ omega (arith, sum_le g h n k, rw r at q)
      | no r ↦ omega (arith, sum_lt g h n m k (omega arith) q, k n)
    ]

-- ---- a block that has the leaves of another

module _ (C : ℕ) where
  whole_shift : (B B'' : List ℕ) (x t d l : ℕ) → ((i : ℕ) → i < 2 ^ l → get_or B'' (d + i) 0 ≡ get_or B (t + i) 0) → d + 2 ^ l ≤ C → whole C B x t l ≡ true → whole C B'' x d l ≡ true
  whole_shift B B'' x t d l s h w = whole_intro C B'' x d l (λ i p q.
      (omega arith, ap (λ (k : ℕ). get_or B'' k 0) (let e : i ≡ d + (i - d) = omega arith in e) ∙ s (i - d) (omega arith) ∙ (whole_elim C B x t l w (t + (i - d)) (omega arith) (omega arith)).1))

  whole_moved : (B B'' : List ℕ) (x t d l : ℕ) → ((i : ℕ) → i < 2 ^ l → get_or B'' (d + i) 0 ≡ get_or B (t + i) 0) → d + 2 ^ l ≤ C → t + 2 ^ l ≤ C → whole C B x t l ≡ whole C B'' x d l
  whole_moved B B'' x t d l s h g = by_bool (whole C B x t l) (λ w. w ∙ sym (whole_shift B B'' x t d l s h w))
      (λ f. by_bool (whole C B'' x d l) (λ w. clash (whole_shift B'' B x d t l (λ i p. sym (s i p)) g w) f) (λ k. f ∙ sym k))

  runs_moved : (B B'' : List ℕ) (x e t d l : ℕ) → ((i : ℕ) → i < 2 ^ l → get_or B'' (d + i) 0 ≡ get_or B (t + i) 0) → d + 2 ^ l ≤ C → t + 2 ^ l ≤ C → runs C B x e t l ≡ runs C B'' x e d l
  runs_moved B B'' x e t d zero s h g =
      elim (ℕ_discrete e zero) [
        | yes r ↦ rw r (runs_top C B x t zero ∙ ap one (whole_moved B B'' x t d zero s h g) ∙ sym (runs_top C B'' x d zero))
        | no r ↦ omega (arith, runs_above C B x e t zero (omega arith), runs_above C B'' x e d zero (omega arith))
      ]
  runs_moved B B'' x e t d (suc l) s h g =
      elim (ℕ_discrete e (suc l)) [
        | yes r ↦ rw r (runs_top C B x t (suc l) ∙ ap one (whole_moved B B'' x t d (suc l) s h g) ∙ sym (runs_top C B'' x d (suc l)))
        | no r ↦ omega (
          arith,
          runs_split C B x e t l r,
          runs_split C B'' x e d l r,
          runs_moved B B'' x e t d l (λ i p. s i (omega (arith, two-pow-succ l))) (omega (arith, two-pow-succ l)) (omega (arith, two-pow-succ l)),
          runs_moved B B'' x e (t + 2 ^ l) (d + 2 ^ l) l
              (λ i p. rw (add_assoc d (2 ^ l) i, add_assoc t (2 ^ l) i) (s (2 ^ l + i) (omega (arith, two-pow-succ l)))) (omega (arith, two-pow-succ l)) (omega (arith, two-pow-succ l)),
        )
      ]

pub half_cases : {k e q : ℕ} → In k e q (suc e) → (k ≡ q) ⊎ (k ≡ q + 2 ^ e)
half_cases i =
    ⊎_elim (λ r. absurd (omega arith)) (⊎_elim (λ j. let s = bounds j in inl (omega arith)) (λ j. let s = bounds j in inr (omega arith))) (in_cases i)

-- Two halves of a block, both runs of x.
pub halves_join : (C : ℕ) (B : List ℕ) (x : ℕ) {k t e q : ℕ} → In k e q (suc e) → In t e q (suc e) → (k ≡ t → ⊥) → whole C B x k e ≡ true → whole C B x t e ≡ true → whole C B x q (suc e) ≡ true
halves_join C B x {k} {t} {e} {q} i j n u v = go (half_cases i) (half_cases j)
  where
    at : (a b : ℕ) → a ≡ b → whole C B x a e ≡ true → whole C B x b e ≡ true
    at a b r w = subst (λ (m : ℕ). whole C B x m e ≡ true) r w

    go : (k ≡ q) ⊎ (k ≡ q + 2 ^ e) → (t ≡ q) ⊎ (t ≡ q + 2 ^ e) → whole C B x q (suc e) ≡ true
    go (inl r) (inl s) = absurd (n (r ∙ sym s))
    go (inl r) (inr s) = whole_join C B x q e (at k q r u) (at t (q + 2 ^ e) s v)
    go (inr r) (inl s) = whole_join C B x q e (at t q s v) (at k (q + 2 ^ e) r u)
    go (inr r) (inr s) = absurd (n (r ∙ sym s))

-- B₁ is B with the leaves of the block (t, e) written to (d, e) too.
pub record Copied (C : ℕ) (B B₁ : List ℕ) (t d e : ℕ) : Type 0 where
  pub inside : (i : ℕ) → i < 2 ^ e → get_or B₁ (d + i) 0 ≡ get_or B (t + i) 0
  pub outside : Outside C B B₁ d e

beside : (P d k t q : ℕ) → 0 < P → (d + P ≤ k) ⊎ (k + P ≤ d) → (d + P ≤ t) ⊎ (t + P ≤ d) → (k ≡ q) ⊎ (k ≡ q + P) → (t ≡ q) ⊎ (t ≡ q + P) → (k ≡ t → ⊥)
    → (d + P ≤ q) ⊎ (q + (P + P) ≤ d)
beside P d k t q h a b (inl c) (inl e) n = absurd (n (c ∙ sym e))
beside P d k t q h a b (inr c) (inr e) n = absurd (n (c ∙ sym e))
beside P d k t q h a b (inl c) (inr e) n =
    elim (dec_le (d + P) q) [
      | yes r ↦ inl r
      | no r ↦ inr (⊎_elim (λ i. absurd (omega arith)) (λ i. ⊎_elim (λ j. absurd (omega arith)) (λ j. omega arith) b) a)
    ]
beside P d k t q h a b (inr c) (inl e) n =
    elim (dec_le (d + P) q) [
      | yes r ↦ inl r
      | no r ↦ inr (⊎_elim (λ i. absurd (omega arith)) (λ i. ⊎_elim (λ j. absurd (omega arith)) (λ j. omega arith) a) b)
    ]

module _ (C : ℕ) (B B₁ B₂ : List ℕ) {t d k q e b l : ℕ} (keep : Piece C B 0 k e b l) (dest : Piece C B 0 d e b l) (differ : d ≡ k → ⊥)
    (k_in : In k e q (suc e)) (t_in : In t e q (suc e)) (q_in : In q (suc e) b l) (twins : k ≡ t → ⊥) (t_end : t + 2 ^ e ≤ C)
    (copied : Copied C B B₁ t d e) (filled : Filled C B₁ B₂ t e 0) where
  d_end : d + 2 ^ e ≤ C
  d_end = whole_end C B 0 d e dest.run

  not_t : d ≡ t → ⊥
  not_t r = clash (halves_join C B 0 k_in t_in twins keep.run (subst (λ (m : ℕ). whole C B 0 m e ≡ true) r dest.run)) (keep.top q k_in q_in)

  d_in : In d e b l
  d_in = dest.inside

  t_in' : In t e b l
  t_in' = in_trans t_in q_in

  -- d is apart from the block q, of which k and t are the halves.
  d_q : (d + 2 ^ e ≤ q) ⊎ (q + 2 ^ suc e ≤ d)
  d_q = rw (two-pow-succ e)
      (beside (2 ^ e) d k t q (pow_pos e)
      (⊎_elim (λ r. absurd (differ r)) (λ r. r) (apart d_in keep.inside)) (⊎_elim (λ r. absurd (not_t r)) (λ r. r) (apart d_in t_in'))
      (half_cases k_in) (half_cases t_in) twins)

  d_t : (d + 2 ^ e ≤ t) ⊎ (t + 2 ^ e ≤ d)
  d_t = let s = bounds t_in in ⊎_elim (λ r. inl (omega arith)) (λ r. inr (omega arith)) d_q

  q_same : Agree C B B₁ q (suc e)
  q_same i c p r = copied.outside i c (λ u v. ⊎_elim (λ s. omega arith) (λ s. omega arith) d_q)

  -- Runs no larger than the blocks stay.
  runs_small : (x f : ℕ) → f ≤ e → runs C B₂ x f b l ≡ runs C B x f b l
  runs_small x f h = omega (
    arith,
    runs_replace C B B₁ d e copied.outside x f h d_in,
    runs_replace C B₁ B₂ t e filled.outside x f h t_in',
    runs_moved C B B₁ x f t d e copied.inside d_end t_end,
    runs_local C B B₁ x f t e (λ i c p r. copied.outside i c (λ u v. ⊎_elim (λ s. omega arith) (λ s. omega arith) d_t)),
    runs_moved C B B₂ x f d t e (λ i p. filled.inside (t + i) (omega arith) (omega arith) (omega arith) ∙ sym (whole_elim C B 0 d e dest.run (d + i) (omega arith) (omega arith)).1) t_end d_end,
  )

  -- ---- the idle block k is still idle

  k_t : (k + 2 ^ e ≤ t) ⊎ (t + 2 ^ e ≤ k)
  k_t = ⊎_elim (λ r. absurd (twins r)) (λ r. r) (apart k_in t_in)

  k_mid : whole C B₁ 0 k e ≡ true
  k_mid = let s = bounds k_in in whole_agree C B B₁ 0 k e (λ i c p r. q_same i c (omega arith) (omega arith)) keep.run

  k_new : whole C B₂ 0 k e ≡ true
  k_new = whole_agree C B₁ B₂ 0 k e (λ i c p r. filled.outside i c (λ u v. ⊎_elim (λ s. omega arith) (λ s. omega arith) k_t)) k_mid

  t_new : whole C B₂ 0 t e ≡ true
  t_new = whole_intro C B₂ 0 t e (λ i p r. (omega arith, filled.inside i (omega arith) p r))

  q_new : whole C B₂ 0 q (suc e) ≡ true
  q_new = halves_join C B₂ 0 k_in t_in twins k_new t_new

  -- Larger runs of other names stay, where a name has no two pieces of the size 2^e.
  module _ (x : ℕ) (named : x ≡ 0 → ⊥) (lone : pieces C B x e b l ≤ 1) where
    no_join : NoParent C B₁ x d e b l
    no_join p i j = never (whole C B₁ x p (suc e)) (λ w. omega (arith, pieces_counted C B x (ps w) (pt w) other))
      where
        s : Twin d e p
        s = twin_of i

        pt : whole C B₁ x p (suc e) ≡ true → Piece C B x t e b l
        pt w =
            record {
              inside = t_in';
              run = whole_shift C B₁ B x d t e (λ c h. sym (copied.inside c h)) t_end (whole_sub C B₁ x i w);
              top = no_parent_twin C B x k_in q_in t_in (λ r. named (sym r ∙ whole_name C B 0 k e keep.run));
            }

        ps : whole C B₁ x p (suc e) ≡ true → Piece C B x s.other e b l
        ps w =
            record {
              inside = in_trans s.inside j;
              run = whole_agree C B₁ B x s.other e (λ c h u v. sym (copied.outside c h (λ m n. ⊎_elim (λ r. omega arith) (λ r. omega arith) s.apart))) (whole_sub C B₁ x s.inside w);
              top = no_parent_twin C B x i j s.inside (λ r. named (sym r ∙ whole_name C B 0 d e dest.run));
            }

        other : s.other ≡ t → ⊥
        other r =
            let m : q ≡ p = one_parent t_in q_in (subst (λ (c : ℕ). In c e p (suc e)) r s.inside) j in
            let v = bounds i in
            ⊎_elim (λ g. omega (arith, pow_pos e)) (λ g. omega (arith, pow_pos e)) d_q

    pub runs_large : (f : ℕ) → e < f → runs C B₂ x f b l ≡ runs C B x f b l
    runs_large f h = omega (
      arith,
      runs_stay C B B₁ d e copied.outside x f d_in (no_parent C B x d e b l (λ r. named (sym r ∙ whole_name C B 0 d e dest.run))) no_join h,
      runs_stay C B₁ B₂ t e filled.outside x f t_in'
          (no_parent_twin C B₁ x k_in q_in t_in (λ r. named (sym r ∙ whole_name C B₁ 0 k e k_mid)))
          (no_parent_twin C B₂ x k_in q_in t_in (λ r. named (sym r ∙ whole_name C B₂ 0 k e k_new))) h,
    )

    runs_all : (f : ℕ) → runs C B₂ x f b l ≡ runs C B x f b l
    runs_all f =
        elim (dec_le f e) [
          | yes r ↦ runs_small x f r
          | no r ↦ runs_large f (omega arith)
        ]

    pub pieces_kept : (f : ℕ) → pieces C B₂ x f b l ≡ pieces C B x f b l
    pieces_kept f = omega (arith, pieces_runs C B x f b l, pieces_runs C B₂ x f b l, runs_all f, runs_all (suc f))

  -- Larger idle runs stay, and there is one more.
  first_large : (f : ℕ) → e < f → runs C B 0 f b l ≤ runs C B₁ 0 f b l
  first_large f h = runs_keep C B B₁ d e copied.outside 0 f d_in (λ p i j w. clash w (dest.top p i j)) h

  idle_large : (f : ℕ) → e < f → runs C B 0 f b l ≤ runs C B₂ 0 f b l
  idle_large f h = omega (
    arith,
    first_large f h,
    runs_keep C B₁ B₂ t e filled.outside 0 f t_in' (λ p i j w. subst (λ (m : ℕ). whole C B₂ 0 m (suc e) ≡ true) (one_parent t_in q_in i j) q_new) h,
  )

  idle_more : runs C B 0 (suc e) b l < runs C B₂ 0 (suc e) b l
  idle_more =
      let s = bounds t_in in
      omega (
        arith,
        first_large (suc e) (omega arith),
        runs_replace C B₁ B₂ q (suc e) (λ i c n. filled.outside i c (λ u v. n (omega arith) (omega arith))) 0 (suc e) (omega arith) q_in,
        runs_yes C B₂ 0 q (suc e) q_new,
        runs_no C B₁ 0 q (suc e) (sym (whole_local C B B₁ 0 q (suc e) q_same) ∙ keep.top q k_in q_in),
      )

  idle_all : (f : ℕ) → runs C B 0 f b l ≤ runs C B₂ 0 f b l
  idle_all f =
      elim (dec_le f e) [
        | yes r ↦ omega (arith, runs_small 0 f r)
        | no r ↦ idle_large f (omega arith)
      ]

  -- So there are fewer idle pieces.
  pub fewer : sum (λ f. pieces C B₂ 0 f b l) (suc l) < sum (λ f. pieces C B 0 f b l) (suc l)
  fewer =
      let s = bounds q_in in
      omega (
        arith,
        number_sum C B 0 b l (suc l),
        number_sum C B₂ 0 b l (suc l),
        runs_above C B 0 (suc l) b l (omega arith),
        runs_above C B₂ 0 (suc l) b l (omega arith),
        runs_small 0 0 (omega arith),
        sum_lt (λ f. runs C B 0 (suc f) b l) (λ f. runs C B₂ 0 (suc f) b l) (suc l) e (λ f. idle_all (suc f)) (omega arith) idle_more,
      )

  -- And every name keeps its number of leaves.
  pub leaves_kept : (x : ℕ) → leaves C B₂ x b l ≡ leaves C B x b l
  leaves_kept x = omega (arith, leaves_runs C B x b l, leaves_runs C B₂ x b l, runs_small x 0 (omega arith))
