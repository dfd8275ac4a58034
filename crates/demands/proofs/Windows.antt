-- Slots in a row of a round, told by the leaves that they serve: how many leaves of a run are among them, and how many slots they are.
-- Assumes nothing.
use mathlib.Core.Path.{◌≡◌, refl, sym, ap, ◌∙◌}
use mathlib.Core.Bool.{Bool}
use mathlib.Core.List.{List, ◌∷◌}
use Prim.Native.Nat.{ℕ, zero, suc, ◌+◌, ◌*◌, ◌%◌, ◌^◌, ◌≤◌, ◌<◌}
use native.Mathlib.Omega.{arith}
use native.Mathlib.Decide.{dec_le}
use lib.Count.{ones}
use lib.ListN.{drop}
use borrow.Author.Tests.{lt-ltb, eqb-true}
use Rattle.sequences.specs.SlotOrder.{digits, bit, column, leaf_at, served_from, next_from, position_after, Position}
use Rattle.sequences.specs.Serving.{in_run, left, leaves_from, after_slots, count_list}
use Rattle.sequences.proofs.Laws.{first_position, next_position, leaf_below_lem, after_slots_valid, left_first, left_after, passed_one, served_serves, after_more_slots, walk, run_window, slots_spread}

-- The leaves L of n slots in a row go over some positions. Of these a run of 2 ^ l leaves has its share, up to less than one leaf, and the board its share, up to
-- less than the ones of C.
pub record Window (C n : ℕ) (L : List ℕ) : Type 0 where
  pub over : ℕ
  pub runs : (a l : ℕ) → a % 2 ^ l ≡ 0 → a + 2 ^ l ≤ C
      → (2 ^ digits C * count_list (in_run a l) L < 2 ^ l * over + 2 ^ digits C) × (2 ^ l * over < 2 ^ digits C * count_list (in_run a l) L + 2 ^ digits C)
  pub slots : (2 ^ digits C * n < C * over + ones C * 2 ^ digits C) × (C * over < 2 ^ digits C * n + ones C * 2 ^ digits C)

window : (C p n : ℕ) → Position C p → n ≤ left C p → Window C n (leaves_from C p n)
window C p n at h =
    let w = walk C n p at h in
    let T = w.over in
    record {
      over = T;
      runs = λ a l multiple fits. rw (w.leaves (in_run a l)) (run_window C a l p T at.some at.few multiple fits at.first w.within);
      slots = rw w.slots at (slots_spread C p T at.some at.few at.first w.within);
    }

module _ (C : ℕ) (some : zero < C) (few : C < 4096) where
  -- after i of the slots of a round the others are left
  round_left : (i : ℕ) → i < C → left C (after_slots C 1 i) + i ≡ C
  round_left i h =
      let f = left_first C some few in
      let a = left_after C 1 i (first_position C some few) (omega arith) in
      omega arith

  -- within a round the position is not the first
  pub round_away : (i : ℕ) → zero < i → i < C → after_slots C 1 i ≡ 1 → ⊥
  round_away i away h e =
      let a = round_left i h in
      let b = left_first C some few in
      let c : left C (after_slots C 1 i) ≡ left C 1 = ap (left C) e in
      omega arith

  -- n slots in a row of a round, from slot i on
  pub round_window : (i n : ℕ) → i + n ≤ C → Window C n (leaves_from C (after_slots C 1 i) n)
  round_window i zero h = window C (after_slots C 1 i) 0 (after_slots_valid C 1 i (first_position C some few)) (omega arith)
  round_window i (suc n) h =
      let e = round_left i (omega arith) in
      window C (after_slots C 1 i) (suc n) (after_slots_valid C 1 i (first_position C some few)) (omega arith)

-- two tests that agree on the leaves of the board count the same of the leaves served
pub leaves_within : (C p n : ℕ) (f g : ℕ → Bool) → Position C p → ((y : ℕ) → y < C → f y ≡ g y) → count_list f (leaves_from C p n) ≡ count_list g (leaves_from C p n)
unfolding leaves_from count_list
leaves_within C p zero f g at h = refl
leaves_within C p (suc n) f g at h =
    rw (h (leaf_at C (served_from C p)) (leaf_below_lem C p at), leaves_within C (next_from C p) n f g (next_position C p at) h)

-- ---- slots from any position serve what slots of a round serve

-- from a term that is passed over, what they serve from the next one
clear_leaves : (C p : ℕ) → Position C p → served_from C p ≡ suc p → (n : ℕ) → leaves_from C (suc p) n ≡ leaves_from C p n
unfolding leaves_from served_from next_from
clear_leaves C p at e zero = refl
clear_leaves C p at e (suc n) =
    let b = eqb-true (bit C (column C (suc p))) 1 (rw e at (served_serves C p at)) in
    let same : served_from C (suc p) ≡ served_from C p = omega arith in
    ap (λ (q : ℕ). leaf_at C q ∷ leaves_from C (position_after (digits C) q) n) same

-- from the term after one that serves, the others
set_leaves : (C p q : ℕ) → suc p < 2 ^ digits C → served_from C p ≡ p → ((n : ℕ) → leaves_from C p n ≡ leaves_from C q n) → (n : ℕ) → leaves_from C (suc p) n ≡ leaves_from C (next_from C q) n
unfolding leaves_from next_from
set_leaves C p q l e same n =
    let next : next_from C p ≡ suc p = rw (e, lt-ltb (suc p) (2 ^ digits C) l) refl in
    ap (λ (r : ℕ). leaves_from C r n) (sym next) ∙ ap (λ (L : List ℕ). drop 1 L) (same (suc n))

pub of_round : (C p : ℕ) → Position C p → (i : ℕ) × ((n : ℕ) → leaves_from C p n ≡ leaves_from C (after_slots C 1 i) n)
unfolding after_slots served_from
of_round C zero at = let f = at.first in absurd (omega arith)
of_round C (suc zero) at = (0, λ n. refl)
of_round C (suc (suc p)) at = go (of_round C (suc p) here) (dec_le (served_from C (suc p)) (suc p))
  where
    here : Position C (suc p)
    here = record { some = at.some; few = at.few; first = omega arith; last = let l = at.last in omega arith }

    go : (i : ℕ) × ((n : ℕ) → leaves_from C (suc p) n ≡ leaves_from C (after_slots C 1 i) n) → Dec (served_from C (suc p) ≤ suc p)
        → (i : ℕ) × ((n : ℕ) → leaves_from C (suc (suc p)) n ≡ leaves_from C (after_slots C 1 i) n)
    go (i, same) (yes h) = (suc i, λ n. rw (after_more_slots C 1 i) (set_leaves C (suc p) (after_slots C 1 i) at.last (omega arith) same n))
    go (i, same) (no h) = (i, λ n. clear_leaves C (suc p) here (let o = passed_one C (suc p) here in omega arith) n ∙ same n)
