-- The search by halves finds the smallest idle piece that is large enough. Assumes nothing.
use mathlib.Core.Path.{◌≡◌, refl, sym, ap, ◌∙◌}
use mathlib.Core.Bool.{true, false, ◌&&◌}
use mathlib.Core.List.{List}
use Prim.Native.Nat.{ℕ, suc, ◌+◌, ◌^◌, ◌≤◌, ◌<◌}
use native.Mathlib.Numerals.{add-one}
use native.Mathlib.Omega.{arith}
use native.Mathlib.Decide.{dec_lt}
use lib.Dec.{ltb, eqb}
use lib.ListN.{get_or}
use lib.Pow.{pow_mono}
use borrow.Author.Tests.{le-ltb, ltb-true, ltb-false, eq-eqb, eqb-true}
use Rattle.general.proofs.Laws.{by_bool, never, clash, and_left, and_right}
use Rattle.pieces.specs.declared.placing.Spot.{Spot}
use Rattle.std.specs.Prelude.{Option, None, Some}
use Rattle.pieces.specs.Board.{whole, pieces, nth}
use Rattle.pieces.specs.Placing.{fit, spot}
use Rattle.pieces.specs.Halving.{Smallest, Sought, Spotted, is_whole, is_enough, large_enough, smaller, joined, spot_at}
use Rattle.pieces.proofs.Blocks.{whole_intro, whole_low, whole_high, whole_join, whole_name, whole_end, no_whole, beyond, past, runs_none, pieces_past, pieces_yes, pieces_no, pieces_runs, pieces_top, pieces_own}
use Rattle.pieces.proofs.Piece.{pieces_apart, pieces_none, nth_low, nth_high, nth_whole}
use Rattle.pieces.proofs.Adding.{fit_least, fit_large, spot_piece}

module _ (C : ℕ) (B : List ℕ) where
  module _ (n : ℕ) where
    pub spotted_past : (a l : ℕ) → C ≤ a → Spotted C B n a l None
    spotted_past a l h = record { run = λ t. clash t (past C B 0 a l h); part = λ f e p. pieces_past C B 0 e a l h }

    -- A block with no idle leaf, and one that is idle.
    pub spotted_none : (a l : ℕ) → ((i : ℕ) → a ≤ i → i < a + 2 ^ l → i < C → get_or B i 0 ≡ 0 → ⊥) → Spotted C B n a l None
    spotted_none a l h =
        record { run = λ t. clash t (no_whole C B 0 l a h); part = λ f e p. omega (arith, pieces_runs C B 0 e a l, runs_none C B 0 e l a h) }

    pub spotted_run : (a l : ℕ) → whole C B 0 a l ≡ true → Spotted C B n a l (spot_at l a)
    spotted_run a l t = record { run = λ _. refl; part = λ f. clash t f }

    pub spotted_leaf : (a : ℕ) → a < C → get_or B a 0 ≡ 0 → Spotted C B n a 0 (spot_at 0 a)
    spotted_leaf a h e = spotted_run a 0 (whole_intro C B 0 a 0 (λ i p q. let r : i ≡ a = omega arith in rw r (h, e)))

    pub spotted_taken : (a : ℕ) → (get_or B a 0 ≡ 0 → ⊥) → Spotted C B n a 0 None
    spotted_taken a h = record { run = λ t. absurd (h (whole_name C B 0 a 0 t)); part = λ f e p. pieces_none C B 0 e a f }

    -- A block whose own exponent is answered is idle, and no other.
    top_whole : (a l : ℕ) (f : Option Spot) → Spotted C B n a l f → is_whole f l ≡ true → whole C B 0 a l ≡ true
    top_whole a l None u e = clash e refl
    top_whole a l (Some s) u e = by_bool (whole C B 0 a l) (λ w. w)
        (λ w. absurd (omega (arith, (u.part w).some, ap (λ (i : ℕ). pieces C B 0 i a l) (eqb-true s.exponent l e), pieces_own C B 0 a l w)))

    low_parts : (a h : ℕ) (f : Option Spot) → Spotted C B n a h f → is_whole f h ≡ false → whole C B 0 a h ≡ false
    low_parts a h f u m = never (whole C B 0 a h) (λ t. clash (ap (λ (s : Option Spot). is_whole s h) (u.run t) ∙ eq-eqb h h refl) m)

    half_parts : (a h : ℕ) → whole C B 0 a h ≡ false → whole C B 0 a (suc h) ≡ false
    half_parts a h w = never (whole C B 0 a (suc h)) (λ t. clash (whole_low C B 0 a h t) w)

    -- ---- a block that is not idle, by its halves

    module _ (a h : ℕ) (v : whole C B 0 a (suc h) ≡ false) where
      -- The left half's piece, where the right half has none that is smaller; and the right half's, where the left has none as small.
      from_low : (s t : ℕ) → Smallest C B n a h s t → ((e : ℕ) → n ≤ e → e < s → pieces C B 0 e (a + 2 ^ h) h ≡ 0) → Smallest C B n a (suc h) s t
      from_low s t u w =
          record {
            least = λ e p q. omega (arith, pieces_apart C B 0 e a h v, u.least e p q, w e p q);
            some = omega (arith, pieces_apart C B 0 s a h v, u.some);
            large = u.large;
            start = u.start ∙ sym (nth_low C B 0 s 0 a h v u.some);
          }

      from_high : (s t : ℕ) → Smallest C B n (a + 2 ^ h) h s t → ((e : ℕ) → n ≤ e → e ≤ s → pieces C B 0 e a h ≡ 0) → Smallest C B n a (suc h) s t
      from_high s t u w =
          let z = w s u.large (omega arith) in
          record {
            least = λ e p q. omega (arith, pieces_apart C B 0 e a h v, u.least e p q, w e p (omega arith));
            some = omega (arith, pieces_apart C B 0 s a h v, u.some);
            large = u.large;
            start = u.start ∙ sym (nth_high C B 0 s 0 a h v (omega arith) ∙ ap (λ (i : ℕ). nth C B 0 s i (a + 2 ^ h) h) (omega arith));
          }

      -- The smaller of the halves' pieces is the block's.
      smaller_sought : (f g : Option Spot) → Sought C B n a h f → Sought C B n (a + 2 ^ h) h g → Sought C B n a (suc h) (smaller f g)
      smaller_sought None None u w = λ e p. omega (arith, pieces_apart C B 0 e a h v, u e p, w e p)
      smaller_sought None (Some t) u w = from_high t.exponent t.start w (λ e p q. u e p)
      smaller_sought (Some s) None u w = from_low s.exponent s.start u (λ e p q. w e p)
      smaller_sought (Some s) (Some t) u w = by_bool (ltb t.exponent s.exponent)
          (λ k. rw k (from_high t.exponent t.start w (λ e p q. u.least e p (omega (arith, ltb-true t.exponent s.exponent k)))))
          (λ k. rw k (from_low s.exponent s.start u (λ e p q. w.least e p (omega (arith, ltb-false t.exponent s.exponent k)))))

    -- The left half is enough.
    pub spotted_enough : (a l h : ℕ) (f : Option Spot) → l ≡ suc h → Spotted C B n a h f → is_enough f h n ≡ true → Spotted C B n a l f
    spotted_enough a l h None z u e =
        let v = half_parts a h (low_parts a h None u refl) in
        rw z (record {
          run = λ t. clash t v;
          part = λ _ d p. omega (arith, ltb-true h n e, pieces_apart C B 0 d a h v, pieces_top C B 0 d a h (omega (arith, ltb-true h n e)), pieces_top C B 0 d (a + 2 ^ h) h (omega (arith, ltb-true h n e)));
        })
    spotted_enough a l h (Some s) z u e =
        rw z (by_bool (eqb s.exponent h) (λ m. clash (rw m at e) refl) (λ m. by_bool (eqb s.exponent n) (λ k. exact m (eqb-true s.exponent n k)) (λ k. few m (ltb-true h n (rw (m, k) at e)))))
      where
        -- It has a piece of just the right size.
        exact : eqb s.exponent h ≡ false → s.exponent ≡ n → Spotted C B n a (suc h) (Some s)
        exact m k =
            let w = low_parts a h (Some s) u m in
            let v = half_parts a h w in
            record { run = λ q. clash q v; part = λ _. from_low a h v s.exponent s.start (u.part w) (λ d p q. absurd (omega arith)) }

        -- Only the two halves together could be large enough.
        few : eqb s.exponent h ≡ false → h < n → Spotted C B n a (suc h) (Some s)
        few m k =
            let y = u.part (low_parts a h (Some s) u m) in
            absurd (omega (arith, y.some, y.large, pieces_top C B 0 s.exponent a h (omega (arith, y.large))))

    -- A half that lies in no larger idle run.
    enough_sought : (a h : ℕ) (f : Option Spot) → Spotted C B n a h f → Sought C B n a h (large_enough f n)
    enough_sought a h None u = u.part (low_parts a h None u refl)
    enough_sought a h (Some s) u = by_bool (whole C B 0 a h)
        (λ w.
        let r : Some s ≡ spot_at h a = u.run w in
        let p : s.exponent ≡ h = cc in
        let q : s.start ≡ a = cc in
        by_bool (ltb s.exponent n)
        (λ k. rw k (λ e i. pieces_no C B 0 0 e a h w (λ _ j. omega (arith, ltb-true s.exponent n k))))
        (λ k. rw k (record {
          least = λ e i j. pieces_no C B 0 0 e a h w (λ _ m. omega arith);
          some = omega (arith, pieces_yes C B 0 a h w, ap (λ (i : ℕ). pieces C B 0 i a h) p);
          large = omega (arith, ltb-false s.exponent n k);
          start = q ∙ sym (nth_whole C B 0 s.exponent 0 a h w);
        })))
        (λ w. rw (le-ltb s.exponent n (u.part w).large) (u.part w))

    pub spotted_join : (a l h : ℕ) (f g : Option Spot) → l ≡ suc h → Spotted C B n a h f → Spotted C B n (a + 2 ^ h) h g → Spotted C B n a l (joined f g a h n)
    spotted_join a l h f g z u w = rw z (by_bool (is_whole f h && is_whole g h)
        (λ t. rw t (record {
          run = λ _. ap (λ (e : ℕ). spot_at e a) (add-one h);
          part = λ v. clash (whole_join C B 0 a h
              (top_whole a h f u (and_left (is_whole f h) (is_whole g h) t))
              (top_whole (a + 2 ^ h) h g w (and_right (is_whole f h) (is_whole g h) t))) v;
        }))
        (λ t. rw t (record {
          run = λ v. clash (rw (u.run (whole_low C B 0 a h v), w.run (whole_high C B 0 a h v), eq-eqb h h refl) refl) t;
          part = λ v. smaller_sought a h v (large_enough f n) (large_enough g n) (enough_sought a h f u) (enough_sought (a + 2 ^ h) h g w);
        })))

    -- ---- the whole board

    module _ (few : C ≤ 4095) (h : 0 < pieces C B 0 (fit C B n) 0 12) where
      -- Where a piece is large enough, the search finds the place that placing names.
      pub spotted_nowhere : Spotted C B n 0 12 None → ⊥
      spotted_nowhere u = omega (arith, u.part (beyond C B 0 0 12 (omega arith)) (fit C B n) (fit_large C B n))

      pub spotted_spot : (s : Spot) → Spotted C B n 0 12 (Some s) → s.start ≡ spot C B n
      unfolding spot
      spotted_spot s u =
          let w = u.part (beyond C B 0 0 12 (omega arith)) in
          w.start ∙ ap (λ (i : ℕ). nth C B 0 i 0 0 12) (elim (dec_lt s.exponent (fit C B n)) [
            | yes p ↦ absurd (omega (arith, w.some, fit_least C B n s.exponent w.large p))
            | no p ↦ elim (dec_lt (fit C B n) s.exponent) [
              | yes q ↦ absurd (omega (arith, w.least (fit C B n) (fit_large C B n) q))
              | no q ↦ omega arith
            ]
          ])

      -- And that place ends on the board.
      pub spot_ends : spot C B n + 2 ^ n ≤ C
      spot_ends =
          let p = spot_piece C B n h in
          omega (arith, whole_end C B 0 (spot C B n) (fit C B n) p.run, pow_mono (fit_large C B n))
