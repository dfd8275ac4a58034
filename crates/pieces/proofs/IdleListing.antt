-- The idle pieces of a board listed in one search: the two lowest of each size, and the smallest size that has two. Assumes nothing.
use mathlib.Core.Path.{◌≡◌, refl, sym, ap, ◌∙◌}
use mathlib.Core.Bool.{Bool, true, false, cond}
use mathlib.Core.List.{List}
use Prim.Native.Nat.{ℕ, zero, suc, ◌+◌, ◌-◌, ◌^◌, ◌≤◌, ◌<◌}
use native.Mathlib.Nat.{zero-add}
use native.Mathlib.Omega.{arith}
use native.Mathlib.Decide.{dec_lt, ℕ_discrete}
use lib.Dec.{leb, ltb, eqb}
use lib.ListN.{get_or, length}
use lib.Seq.{get_or-set_same, get_or-set_other}
use borrow.Author.Tests.{lt-ltb, ltb-true, ltb-false, lt-leb, leb-true, eq-eqb, ne_eqb}
use Rattle.general.proofs.Laws.{by_bool, never, clash}
use Rattle.std.specs.Prelude.{Option, None, Some}
use Rattle.pieces.specs.declared.tidying.Starts.{Starts}
use Rattle.pieces.specs.declared.tidying.Pair.{Pair}
use Rattle.pieces.specs.Board.{whole, pieces, nth}
use Rattle.pieces.specs.Placing.{first}
use Rattle.pieces.specs.Tidying.{pair}
use Rattle.pieces.specs.Halving.{inner, entered, MetIdle, Listed, no_starts, starts_at, are_two, is_paired, pair_of, smallest_pair, Paired}
use Rattle.pieces.proofs.Blocks.{whole_intro, whole_low, whole_high, whole_join, whole_name, no_whole, beyond, past, runs_none, pieces_past, pieces_yes, pieces_no, pieces_runs, pieces_own}
use Rattle.pieces.proofs.Piece.{pieces_apart, pieces_none, nth_low, nth_high, nth_whole}
use Rattle.pieces.proofs.Adding.{first_le, first_hit, first_before}
use Rattle.pieces.proofs.LoopSteps.{first_here, first_last}

-- ---- the first two starts of a size: k pieces, the first at x and the next at y, come before A and then D

abbrev front : ℕ → Option ℕ → Option ℕ → Option ℕ
front k x A = cond (ltb 0 k) x A

abbrev next : ℕ → Option ℕ → Option ℕ → Option ℕ → Option ℕ
next k y A D = cond (ltb 1 k) y (cond (ltb 0 k) A D)

-- Those of a left half before those of a right half.
front_both : (k j : ℕ) (x y z A : Option ℕ) → (0 < k → z ≡ x) → (k ≡ 0 → z ≡ y) → front k x (front j y A) ≡ front (k + j) z A
front_both zero zero x y z A p q = refl
front_both zero (suc j) x y z A p q = rw (zero-add (suc j), lt-ltb 0 (suc j) (omega arith)) (sym (q refl))
front_both (suc k) j x y z A p q = rw (lt-ltb 0 (suc k) (omega arith), lt-ltb 0 (suc k + j) (omega arith)) (sym (p (omega arith)))

next_both : (k j : ℕ) (x' y y' z' A D : Option ℕ) → (1 < k → z' ≡ x') → (k ≡ 1 → z' ≡ y) → (k ≡ 0 → z' ≡ y') → next k x' (front j y A) (next j y' A D) ≡ next (k + j) z' A D
next_both zero zero x' y y' z' A D p q r = refl
next_both zero (suc zero) x' y y' z' A D p q r = refl
next_both zero (suc (suc j)) x' y y' z' A D p q r = rw (zero-add (suc (suc j)), lt-ltb 1 (suc (suc j)) (omega arith)) (sym (r refl))
next_both (suc zero) zero x' y y' z' A D p q r = refl
next_both (suc zero) (suc j) x' y y' z' A D p q r = rw (lt-ltb 0 (suc j) (omega arith), lt-ltb 1 (1 + suc j) (omega arith)) (sym (q refl))
next_both (suc (suc k)) j x' y y' z' A D p q r = rw (lt-ltb 1 (suc (suc k)) (omega arith), lt-ltb 1 (suc (suc k) + j) (omega arith)) (sym (p (omega arith)))

-- ---- one start entered

module _ (S : List Starts) (h s : ℕ) (long : length S ≡ 12) (l : h < 12) where
  entered_here : starts_at (entered S h s) h ≡ record { first = Some s; second = (starts_at S h).first }
  unfolding entered
  entered_here = get_or-set_same S h _ no_starts (omega arith)

  entered_first : (starts_at (entered S h s) h).first ≡ Some s
  entered_first = ap (λ (r : Starts). r.first) entered_here

  entered_second : (starts_at (entered S h s) h).second ≡ (starts_at S h).first
  entered_second = ap (λ (r : Starts). r.second) entered_here

  entered_other : (i : ℕ) → (i ≡ h → ⊥) → starts_at (entered S h s) i ≡ starts_at S i
  unfolding entered
  entered_other i p = get_or-set_other S h i _ no_starts p

-- ---- a block by its halves

module _ (C : ℕ) (B : List ℕ) where
  abbrev start : ℕ → ℕ → ℕ → ℕ → Option ℕ
  start e k a l = Some (nth C B 0 e k a l)

  inner_idle : (e a l : ℕ) → whole C B 0 a l ≡ true → inner C B e a l ≡ 0
  unfolding inner
  inner_idle e a l t = rw t refl

  inner_not : (e a l : ℕ) → whole C B 0 a l ≡ false → inner C B e a l ≡ pieces C B 0 e a l
  unfolding inner
  inner_not e a l f = rw f refl

  -- Nothing is listed of a block with no idle piece inside.
  still : (a l : ℕ) (S : List Starts) (r : Bool) → r ≡ whole C B 0 a l → ((e : ℕ) → inner C B e a l ≡ 0) → Listed C B a l S S r
  still a l S r p n = record { answer = p; first = λ e _. rw (n e) refl; second = λ e _. rw (n e) refl }

  pub listed_past : (a l : ℕ) (S : List Starts) → C ≤ a → Listed C B a l S S false
  listed_past a l S h = let f = past C B 0 a l h in still a l S false (sym f) (λ e. inner_not e a l f ∙ pieces_past C B 0 e a l h)

  -- A block with no idle leaf, and one that is idle.
  pub listed_none : (a l : ℕ) (S : List Starts) → ((i : ℕ) → a ≤ i → i < a + 2 ^ l → i < C → get_or B i 0 ≡ 0 → ⊥) → Listed C B a l S S false
  listed_none a l S h =
      let f = no_whole C B 0 l a h in
      still a l S false (sym f) (λ e. inner_not e a l f ∙ omega (arith, pieces_runs C B 0 e a l, runs_none C B 0 e l a h))

  pub listed_run : (a l : ℕ) (S : List Starts) → whole C B 0 a l ≡ true → Listed C B a l S S true
  listed_run a l S t = still a l S true (sym t) (λ e. inner_idle e a l t)

  pub listed_leaf : (a l : ℕ) (S : List Starts) → l ≡ 0 → a < C → Listed C B a l S S (eqb (get_or B a 0) 0)
  listed_leaf a l S z h =
      elim (ℕ_discrete (get_or B a 0) 0) [
        | yes r ↦ rw (eq-eqb (get_or B a 0) 0 r) (
            let t : whole C B 0 a l ≡ true = rw z (whole_intro C B 0 a 0 (λ i p q. let s : i ≡ a = omega arith in rw s (h, r))) in
            still a l S true (sym t) (λ e. inner_idle e a l t))
        | no r ↦ rw (ne_eqb (get_or B a 0) 0 r) (
            let f : whole C B 0 a l ≡ false = never (whole C B 0 a l) (λ t. r (whole_name C B 0 a l t)) in
            still a l S false (sym f) (λ e. inner_not e a l f ∙ rw z (pieces_none C B 0 e a (rw z at f))))
      ]

  module _ (a h : ℕ) (S S₁ S₂ : List Starts) (l : h < 12) (long : length S₂ ≡ 12) where
    abbrev m : ℕ
    m = a + 2 ^ h

    -- What the halves have before a block that is not idle.
    module _ (v : whole C B 0 a (suc h) ≡ false) (S₃ : List Starts)
        (lowest : (e : ℕ) → e < 12 → (starts_at S₃ e).first ≡ front (pieces C B 0 e a h) (start e 0 a h) (front (pieces C B 0 e m h) (start e 0 m h) (starts_at S e).first))
        (second : (e : ℕ) → e < 12 → (starts_at S₃ e).second ≡ next (pieces C B 0 e a h) (start e 1 a h) (front (pieces C B 0 e m h) (start e 0 m h) (starts_at S e).first) (next (pieces C B 0 e m h) (start e 1 m h) (starts_at S e).first (starts_at S e).second))
      where
        count : (e : ℕ) → inner C B e a (suc h) ≡ pieces C B 0 e a h + pieces C B 0 e m h
        count e = inner_not e a (suc h) v ∙ pieces_apart C B 0 e a h v

        from_high : (e k : ℕ) → pieces C B 0 e a h ≤ k → (i : ℕ) → i ≡ k - pieces C B 0 e a h → nth C B 0 e k a (suc h) ≡ nth C B 0 e i m h
        from_high e k p i s = nth_high C B 0 e k a h v p ∙ ap (λ (j : ℕ). nth C B 0 e j m h) (sym s)

        together : (r : Bool) → r ≡ false → Listed C B a (suc h) S S₃ r
        together r p =
            record {
              answer = p ∙ sym v;
              first = λ e q. lowest e q ∙ front_both (pieces C B 0 e a h) (pieces C B 0 e m h) (start e 0 a h) (start e 0 m h) (start e 0 a (suc h)) (starts_at S e).first
                  (λ t. ap (λ (n : ℕ). Some n) (nth_low C B 0 e 0 a h v t))
                  (λ t. ap (λ (n : ℕ). Some n) (from_high e 0 (omega arith) 0 (omega arith)))
                  ∙ ap (λ (k : ℕ). front k (start e 0 a (suc h)) (starts_at S e).first) (sym (count e));
              second = λ e q. second e q ∙ next_both (pieces C B 0 e a h) (pieces C B 0 e m h) (start e 1 a h) (start e 0 m h) (start e 1 m h) (start e 1 a (suc h)) (starts_at S e).first (starts_at S e).second
                  (λ t. ap (λ (n : ℕ). Some n) (nth_low C B 0 e 1 a h v t))
                  (λ t. ap (λ (n : ℕ). Some n) (from_high e 1 (omega arith) 0 (omega arith)))
                  (λ t. ap (λ (n : ℕ). Some n) (from_high e 1 (omega arith) 1 (omega arith)))
                  ∙ ap (λ (k : ℕ). next k (start e 1 a (suc h)) (starts_at S e).first (starts_at S e).second) (sym (count e));
            }

    -- An idle half has one piece, itself.
    whole_other : (e b : ℕ) → whole C B 0 b h ≡ true → (e ≡ h → ⊥) → pieces C B 0 e b h ≡ 0
    whole_other e b t n = pieces_no C B 0 0 e b h t (λ _ s. n s)

    module _ (f g : Bool) (u : Listed C B m h S S₁ g) (w : Listed C B a h S₁ S₂ f) where
      both_idle : f ≡ true → g ≡ true → Listed C B a (suc h) S S₂ true
      both_idle p q =
          let s = sym w.answer ∙ p in
          let t = sym u.answer ∙ q in
          let y = whole_join C B 0 a h s t in
          record {
            answer = sym y;
            first = λ e i. rw (inner_idle e a (suc h) y) (rw (inner_idle e a h s) at (w.first e i) ∙ rw (inner_idle e m h t) at (u.first e i));
            second = λ e i. rw (inner_idle e a (suc h) y) (rw (inner_idle e a h s) at (w.second e i) ∙ rw (inner_idle e m h t) at (u.second e i));
          }

      not_low : f ≡ false → whole C B 0 a (suc h) ≡ false
      not_low p = never (whole C B 0 a (suc h)) (λ t. clash (w.answer ∙ whole_low C B 0 a h t) p)

      not_high : g ≡ false → whole C B 0 a (suc h) ≡ false
      not_high q = never (whole C B 0 a (suc h)) (λ t. clash (u.answer ∙ whole_high C B 0 a h t) q)

      neither : f ≡ false → g ≡ false → Listed C B a (suc h) S S₂ false
      neither p q =
          let s = sym w.answer ∙ p in
          let t = sym u.answer ∙ q in
          together (not_low p) S₂
          (λ e i. rw (inner_not e a h s) at (w.first e i) ∙ ap (λ (k : Option ℕ). front (pieces C B 0 e a h) (start e 0 a h) k) (rw (inner_not e m h t) at (u.first e i)))
          (λ e i. rw (inner_not e a h s, u.first e i, u.second e i, inner_not e m h t) at (w.second e i))
          false refl

      low_idle : f ≡ true → g ≡ false → Listed C B a (suc h) S (entered S₂ h a) false
      low_idle p q =
          let s = sym w.answer ∙ p in
          let t = sym u.answer ∙ q in
          together (not_high q) (entered S₂ h a)
          (λ e i. elim (ℕ_discrete e h) [
            | yes r ↦ rw (r, pieces_yes C B 0 a h s, nth_whole C B 0 h 0 a h s) (entered_first S₂ h a long l)
            | no r ↦ rw (whole_other e a s r, entered_other S₂ h a long l e r, ← inner_not e m h t) (rw (inner_idle e a h s) at (w.first e i) ∙ u.first e i)
          ])
          (λ e i. elim (ℕ_discrete e h) [
            | yes r ↦ rw (r, pieces_yes C B 0 a h s, pieces_own C B 0 m h t) (entered_second S₂ h a long l ∙ rw (inner_idle h a h s) at (w.first h l) ∙ rw (inner_not h m h t, pieces_own C B 0 m h t) at (u.first h l))
            | no r ↦ rw (whole_other e a s r, entered_other S₂ h a long l e r, ← inner_not e m h t) (rw (inner_idle e a h s) at (w.second e i) ∙ u.second e i)
          ])
          false refl

      high_idle : f ≡ false → g ≡ true → Listed C B a (suc h) S (entered S₂ h m) false
      high_idle p q =
          let s = sym w.answer ∙ p in
          let t = sym u.answer ∙ q in
          together (not_low p) (entered S₂ h m)
          (λ e i. elim (ℕ_discrete e h) [
            | yes r ↦ rw (r, pieces_own C B 0 a h s, pieces_yes C B 0 m h t, nth_whole C B 0 h 0 m h t) (entered_first S₂ h m long l)
            | no r ↦ rw (whole_other e m t r, entered_other S₂ h m long l e r, ← inner_not e a h s) (w.first e i ∙ ap (λ (k : Option ℕ). front (inner C B e a h) (start e 0 a h) k) (rw (inner_idle e m h t) at (u.first e i)))
          ])
          (λ e i. elim (ℕ_discrete e h) [
            | yes r ↦ rw (r, pieces_own C B 0 a h s, pieces_yes C B 0 m h t) (entered_second S₂ h m long l ∙ rw (inner_not h a h s, pieces_own C B 0 a h s) at (w.first h l) ∙ rw (inner_idle h m h t) at (u.first h l))
            | no r ↦ rw (whole_other e m t r, entered_other S₂ h m long l e r, ← inner_not e a h s) (rw (u.first e i, u.second e i, inner_idle e m h t) at (w.second e i))
          ])
          false refl

      met_halves : (S₃ : List Starts) (r : Bool) → MetIdle f g a m h S₂ S₃ r → Listed C B a (suc h) S S₃ r
      met_halves S₃ r y = rw (y.answer, y.entries)
          (by_bool f
          (λ p. by_bool g (λ q. rw (p, q) (both_idle p q)) (λ q. rw (p, q) (low_idle p q)))
          (λ p. by_bool g (λ q. rw (p, q) (high_idle p q)) (λ q. rw (p, q) (neither p q))))

  -- The high half is listed first, then the low one.
  pub listed_halves : (a b h k : ℕ) (S S₁ S₂ S₃ : List Starts) (f g r : Bool) → b ≡ a + 2 ^ h → k ≡ suc h → h < 12 → length S₂ ≡ 12
      → Listed C B b h S S₁ g → Listed C B a h S₁ S₂ f → MetIdle f g a b h S₂ S₃ r → Listed C B a k S S₃ r
  listed_halves a b h k S S₁ S₂ S₃ f g r e z l long u w y = rw z (met_halves a h S S₁ S₂ l long f g (rw e at u) w S₃ r (rw e at y))

-- ---- the smallest size that has two

-- The search up to 12 and the one up to 13, of tests that agree, where the second fails at 12.
module _ (p q : ℕ → Bool) (same : (e : ℕ) → e < 12 → p e ≡ q e) (last : q 12 ≡ false) where
  first_some : first p 0 12 < 12 → first q 0 13 ≡ first p 0 12
  first_some h =
      let hit = sym (same (first p 0 12) h) ∙ first_hit p 0 12 (omega arith) in
      elim (dec_lt (first q 0 13) (first p 0 12)) [
        | yes r ↦ clash (first_hit q 0 13 (omega arith)) (sym (same (first q 0 13) (omega arith)) ∙ first_before p 0 12 (first q 0 13) (omega arith) r)
        | no r ↦ elim (dec_lt (first p 0 12) (first q 0 13)) [
          | yes s ↦ clash hit (first_before q 0 13 (first p 0 12) (omega arith) s)
          | no s ↦ omega arith
        ]
      ]

  first_none : first p 0 12 ≡ 12 → 13 ≤ first q 0 13
  first_none h =
      elim (dec_lt (first q 0 13) 13) [
        | yes r ↦ elim (ℕ_discrete (first q 0 13) 12) [
          | yes s ↦ clash (first_hit q 0 13 (omega arith)) (rw s last)
          | no s ↦ clash (first_hit q 0 13 (omega arith)) (sym (same (first q 0 13) (omega arith)) ∙ first_before p 0 12 (first q 0 13) (omega arith) (omega arith))
        ]
        | no r ↦ omega arith
      ]

-- The search for it, from the exponent e on.
module _ (S : List Starts) (e : ℕ) where
  -- Two starts, or not.
  pub two_starts : (x y : Option ℕ) (p : Pair) → pair_of e x y ≡ Some p → are_two x y ≡ true
  two_starts (Some u) (Some v) p q = refl
  two_starts (Some u) None p q = absurd (grind arith)
  two_starts None y p q = absurd (grind arith)

  pub few_starts : (x y : Option ℕ) → pair_of e x y ≡ None → are_two x y ≡ false
  few_starts (Some u) (Some v) q = absurd (grind arith)
  few_starts (Some u) None q = refl
  few_starts None y q = refl

  pub pair_here : e < 12 → first (is_paired S) e (12 - e) ≡ first (is_paired S) 0 12 → (p : Pair) → pair_of e (starts_at S e).first (starts_at S e).second ≡ Some p → Some p ≡ smallest_pair S
  unfolding smallest_pair
  pair_here h i p q =
      let x : first (is_paired S) 0 12 ≡ e = sym i ∙ first_here (is_paired S) e 12 h (two_starts (starts_at S e).first (starts_at S e).second p q) in
      rw (x, lt-ltb e 12 h, q) refl

  pub pair_none : e ≡ 12 → first (is_paired S) e (12 - e) ≡ first (is_paired S) 0 12 → None ≡ smallest_pair S
  unfolding smallest_pair
  pair_none z i = let x : first (is_paired S) 0 12 ≡ 12 = sym i ∙ first_last (is_paired S) e 12 z in rw x refl

module _ (C : ℕ) (B : List ℕ) (S S' : List Starts) (r : Bool) (few : C ≤ 4095) (clear : (i : ℕ) → i < 12 → starts_at S i ≡ no_starts) (u : Listed C B 0 12 S S' r) where
  parts : whole C B 0 0 12 ≡ false
  parts = beyond C B 0 0 12 (omega arith)

  -- A second start is there exactly where the size has two.
  second_two : (e : ℕ) → e < 12 → is_paired S' e ≡ leb 2 (pieces C B 0 e 0 12)
  second_two e h = rw (u.first e h, u.second e h, inner_not C B e 0 12 parts, clear e h) (counted (pieces C B 0 e 0 12))
    where
      counted : (k : ℕ) → are_two (cond (ltb 0 k) (Some (nth C B 0 e 0 0 12)) None) (cond (ltb 1 k) (Some (nth C B 0 e 1 0 12)) (cond (ltb 0 k) None None)) ≡ leb 2 k
      counted zero = refl
      counted (suc zero) = refl
      counted (suc (suc k)) = rw (lt-ltb 0 (suc (suc k)) (omega arith), lt-ltb 1 (suc (suc k)) (omega arith)) refl

  abbrev two : ℕ → Bool
  two e = leb 2 (pieces C B 0 e 0 12)

  abbrev exponent : ℕ
  exponent = first (is_paired S') 0 12

  last : two 12 ≡ false
  last = lt-leb 2 (pieces C B 0 12 0 12) (omega (arith, pieces_own C B 0 0 12 parts))

  unpaired : 12 ≤ exponent → 13 ≤ pair C B
  unfolding pair
  unpaired h = first_none (is_paired S') two second_two last (omega (arith, first_le (is_paired S') 0 12))

  lowest_two : exponent < 12 → Paired C B (pair_of exponent (starts_at S' exponent).first (starts_at S' exponent).second)
  unfolding pair
  lowest_two l =
      let e = exponent in
      let s : first two 0 13 ≡ e = first_some (is_paired S') two second_two last l in
      let k : 2 ≤ pieces C B 0 e 0 12 = leb-true 2 (pieces C B 0 e 0 12) (sym (second_two e l) ∙ first_hit (is_paired S') 0 12 l) in
      rw (u.first e l, u.second e l, inner_not C B e 0 12 parts, lt-ltb 0 (pieces C B 0 e 0 12) (omega arith), lt-ltb 1 (pieces C B 0 e 0 12) (omega arith)) (record {
        two = omega arith;
        size = sym s;
        low = rw s refl;
        next = rw s refl;
      })

  pub listed_pair : Paired C B (smallest_pair S')
  unfolding smallest_pair
  listed_pair = by_bool (ltb exponent 12) (λ t. rw t (lowest_two (ltb-true exponent 12 t))) (λ f. rw f (unpaired (omega (arith, ltb-false exponent 12 f))))
