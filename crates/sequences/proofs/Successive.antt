-- Slots in a row: their number, one more at the end (what a loop goes by), and some after others. Assumes nothing.
use mathlib.Core.Path.{◌≡◌, refl, ap, ◌∙◌}
use mathlib.Core.List.{List, [], ◌∷◌, ◌++◌}
use Prim.Native.Nat.{ℕ, zero, suc, ◌+◌, ◌<◌}
use native.Mathlib.Nat.{not-suc-le-zero, le_of_suc-le-suc, zero-add, suc-add}
use lib.ListN.{length, get_or}
use Rattle.sequences.specs.SlotOrder.{leaf_at, served_from, next_from, Position}
use Rattle.sequences.specs.Serving.{leaves_from, after_slots}
use Rattle.sequences.proofs.Stepping.{served}

pub leaves_length : (C p n : ℕ) → length (leaves_from C p n) ≡ n
unfolding leaves_from
leaves_length C p zero = refl
leaves_length C p (suc n) = ap suc (leaves_length C (next_from C p) n)

-- The position after one slot more.
pub after_more_slots : (C p n : ℕ) → after_slots C p (suc n) ≡ next_from C (after_slots C p n)
unfolding after_slots
after_more_slots C p zero = refl
after_more_slots C p (suc n) = after_more_slots C (next_from C p) n

pub after_slots_valid : (C p n : ℕ) → Position C p → Position C (after_slots C p n)
unfolding after_slots
after_slots_valid C p zero at = at
after_slots_valid C p (suc n) at = after_slots_valid C (next_from C p) n (served C p at).next

-- The leaf of slot i, counted from 0.
pub leaves_at : (C p n i : ℕ) → i < n → get_or (leaves_from C p n) i 0 ≡ leaf_at C (served_from C (after_slots C p i))
unfolding leaves_from after_slots
leaves_at C p zero i h = absurd (not-suc-le-zero h)
leaves_at C p (suc n) zero h = refl
leaves_at C p (suc n) (suc i) h = leaves_at C (next_from C p) n i (le_of_suc-le-suc h)

-- One slot more is one leaf more at the end.
pub leaves_more : (C p n : ℕ) → leaves_from C p (suc n) ≡ leaves_from C p n ++ (leaf_at C (served_from C (after_slots C p n)) ∷ [])
unfolding leaves_from after_slots
leaves_more C p zero = refl
leaves_more C p (suc n) = rw (leaves_more C (next_from C p) n)

-- Slots after m others.
pub after_append : (C p m n : ℕ) → after_slots C p (m + n) ≡ after_slots C (after_slots C p m) n
unfolding after_slots
after_append C p zero n = ap (after_slots C p) (zero-add n)
after_append C p (suc m) n = ap (after_slots C p) (suc-add m n) ∙ after_append C (next_from C p) m n

pub leaves_append : (C p m n : ℕ) → leaves_from C p (m + n) ≡ leaves_from C p m ++ leaves_from C (after_slots C p m) n
unfolding leaves_from after_slots
leaves_append C p zero n = ap (leaves_from C p) (zero-add n)
leaves_append C p (suc m) n =
    ap (leaves_from C p) (suc-add m n) ∙ ap (λ (xs : List ℕ). leaf_at C (served_from C p) ∷ xs) (leaves_append C (next_from C p) m n)
