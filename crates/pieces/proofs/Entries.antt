-- The pieces of a block that streams own: a run entered in a list, and a block's list by its halves. Assumes nothing.
use mathlib.Core.Path.{◌≡◌, refl, sym, ◌∙◌}
use mathlib.Core.Bool.{true, false}
use mathlib.Core.List.{List, [], ◌∷◌, ◌++◌}
use Prim.Native.Nat.{ℕ, zero, suc, ◌+◌, ◌-◌, ◌*◌, ◌^◌, ◌≤◌, ◌<◌}
use native.Mathlib.Nat.{two-pow-succ}
use native.Mathlib.Omega.{arith}
use native.Mathlib.Decide.{dec_lt}
use lib.Dec.{eqb}
use lib.ListN.{length, get_or, length-append}
use lib.Pow.{pow_pos}
use borrow.Author.Tests.{lt-ltb, le-ltb, eq-eqb, ne_eqb}
use Rattle.general.proofs.Laws.{by_bool, never, clash}
use Rattle.pieces.specs.Board.{whole}
use Rattle.pieces.specs.Halving.{count_from}
use Rattle.pieces.specs.Listing.{entry, named}
use Rattle.pieces.proofs.Blocks.{whole_elim, whole_intro}
use Rattle.pieces.proofs.Replace.{whole_local}
use Rattle.pieces.proofs.LoopSteps.{count_whole}

-- ---- the test of a run by a count

count_full : (B : List ℕ) (x a n : ℕ) → ((i : ℕ) → i < n → get_or B (a + i) 0 ≡ x) → count_from B x a n ≡ n
unfolding count_from
count_full B x a zero h = refl
count_full B x a (suc n) h =
    rw (eq-eqb (get_or B (a + n) 0) x (h n (omega arith))) (omega (arith, count_full B x a n (λ i l. h i (omega arith))))

-- A block whose last leaf holds another name is no run.
pub whole_last : (C : ℕ) (B : List ℕ) (x a l z : ℕ) → z ≡ 2 ^ l → (get_or B (a + z - 1) 0 ≡ x → ⊥) → whole C B x a l ≡ false
whole_last C B x a l z e n = never (whole C B x a l) (λ t. n (whole_elim C B x a l t (a + z - 1) (omega (arith, pow_pos l)) (omega (arith, pow_pos l))).1)

pub whole_counted : (C : ℕ) (B : List ℕ) (x a l z n : ℕ) → z ≡ 2 ^ l → a + z ≤ C → n ≡ count_from B x a z → eqb n z ≡ whole C B x a l
whole_counted C B x a l z n e h c = by_bool (whole C B x a l)
    (λ t.
    let f : n ≡ z = c ∙ count_full B x a z (λ i p. (whole_elim C B x a l t (a + i) (omega arith) (omega arith)).1) in
    eq-eqb n z f ∙ sym t)
    (λ f. ne_eqb n z (λ q. clash (count_whole C B x a l z e (omega arith) (sym c ∙ q)) f) ∙ sym f)

-- ---- a block listed

module _ (C : ℕ) (B : List ℕ) where
  pub leaf_whole : (a : ℕ) → a < C → whole C B (get_or B a 0) a 0 ≡ true
  leaf_whole a h = whole_intro C B (get_or B a 0) a 0 (λ i p q. let r : i ≡ a = omega arith in rw r (h, refl))

  pub named_past : (a l : ℕ) → C ≤ a → named C B a l ≡ []
  unfolding named
  named_past a zero h = rw (le-ltb a C h)
  named_past a (suc l) h = rw (le-ltb a C h)

  pub named_run : (a l : ℕ) → a < C → whole C B (get_or B a 0) a l ≡ true → named C B a l ≡ entry (get_or B a 0) a l
  unfolding named
  named_run a zero h t = rw (lt-ltb a C h)
  named_run a (suc l) h t = rw (lt-ltb a C h, t)

  pub named_halves : (a l : ℕ) → whole C B (get_or B a 0) a (suc l) ≡ false → named C B a (suc l) ≡ named C B a l ++ named C B (a + 2 ^ l) l
  unfolding named
  named_halves a l f =
      elim (dec_lt a C) [
        | yes h ↦ rw (lt-ltb a C h, f)
        | no h ↦ rw (named_past a (suc l) (omega arith), named_past a l (omega arith), named_past (a + 2 ^ l) l (omega arith))
      ]

-- ---- what a list of pieces is made of

-- It hangs on the leaves alone.
pub named_same : (C : ℕ) (B D : List ℕ) → ((i : ℕ) → i < C → get_or B i 0 ≡ get_or D i 0) → (a l : ℕ) → named C B a l ≡ named C D a l
unfolding named
named_same C B D s a zero =
    elim (dec_lt a C) [
      | yes h ↦ rw (lt-ltb a C h, s a h) refl
      | no h ↦ rw (le-ltb a C (omega arith)) refl
    ]
named_same C B D s a (suc l) =
    elim (dec_lt a C) [
      | yes h ↦ rw (lt-ltb a C h, s a h, whole_local C B D (get_or D a 0) a (suc l) (λ i c p q. s i c), named_same C B D s a l, named_same C B D s (a + 2 ^ l) l) refl
      | no h ↦ rw (le-ltb a C (omega arith)) refl
    ]

entry_length : (x a l : ℕ) → length (entry x a l) ≤ 3
entry_length zero a l = omega arith
entry_length (suc x) a l = omega arith

entry_words : (x a l k : ℕ) → x < k → a < k → l < k → (i : ℕ) → get_or (entry x a l) i 0 < k
entry_words zero a l k h p q i = omega arith
entry_words (suc x) a l k h p q zero = h
entry_words (suc x) a l k h p q (suc zero) = p
entry_words (suc x) a l k h p q (suc (suc zero)) = q
entry_words (suc x) a l k h p q (suc (suc (suc i))) = omega arith

append_words : (L M : List ℕ) (k : ℕ) → ((i : ℕ) → get_or L i 0 < k) → ((i : ℕ) → get_or M i 0 < k) → (i : ℕ) → get_or (L ++ M) i 0 < k
append_words [] M k h m i = m i
append_words (x ∷ L) M k h m zero = h 0
append_words (x ∷ L) M k h m (suc i) = append_words L M k (λ j. h (suc j)) m i

module _ (C : ℕ) (B : List ℕ) where
  -- At most three numbers for each leaf,
  pub named_few : (l a : ℕ) → length (named C B a l) ≤ 3 * 2 ^ l
  named_few zero a =
      elim (dec_lt a C) [
        | yes h ↦ rw (named_run C B a 0 h (leaf_whole C B a h)) (omega (arith, entry_length (get_or B a 0) a 0))
        | no h ↦ rw (named_past C B a 0 (omega arith)) (omega arith)
      ]
  named_few (suc l) a =
      elim (dec_lt a C) [
        | yes h ↦ by_bool (whole C B (get_or B a 0) a (suc l))
            (λ t. rw (named_run C B a (suc l) h t) (omega (arith, entry_length (get_or B a 0) a (suc l), pow_pos (suc l))))
            (λ f. rw (named_halves C B a l f, length-append) (omega (arith, named_few l a, named_few l (a + 2 ^ l), two-pow-succ l)))
        | no h ↦ rw (named_past C B a (suc l) (omega arith)) (omega arith)
      ]

  -- and each of them a sixteen-bit number.
  module _ (words : (i : ℕ) → get_or B i 0 < 65536) (small : C ≤ 4095) where
    pub named_words : (l a : ℕ) → l ≤ 12 → (i : ℕ) → get_or (named C B a l) i 0 < 65536
    named_words zero a k i =
        elim (dec_lt a C) [
          | yes h ↦ rw (named_run C B a 0 h (leaf_whole C B a h)) (entry_words (get_or B a 0) a 0 65536 (words a) (omega arith) (omega arith) i)
          | no h ↦ rw (named_past C B a 0 (omega arith)) (omega arith)
        ]
    named_words (suc l) a k i =
        elim (dec_lt a C) [
          | yes h ↦ by_bool (whole C B (get_or B a 0) a (suc l))
              (λ t. rw (named_run C B a (suc l) h t) (entry_words (get_or B a 0) a (suc l) 65536 (words a) (omega arith) (omega arith) i))
              (λ f. rw (named_halves C B a l f) (append_words (named C B a l) (named C B (a + 2 ^ l) l) 65536 (named_words l a (omega arith)) (named_words l (a + 2 ^ l) (omega arith)) i))
          | no h ↦ rw (named_past C B a (suc l) (omega arith)) (omega arith)
        ]
