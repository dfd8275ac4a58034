-- An order of leaves worked by hand, for the slots in a row and for the scan of the two lists; and what source document 001 writes out of its sequences and of RB.
-- P1 to P10 stand in the table of `calls`. Assumes nothing.
use mathlib.Core.Path.{◌≡◌, refl}
use mathlib.Core.List.{List, [], ◌∷◌}
use Prim.Native.Nat.{ℕ}
use Rattle.sequences.specs.Sequences.{wss, tss, rb}
use Rattle.sequences.specs.SlotOrder.{leaf_at, next_from}
use Rattle.sequences.specs.Serving.{leaves_from, count_list}
use Rattle.sequences.specs.Scanning.{round_leaves}

-- C = 11: term 2 is passed over.
order : List ℕ
order = 0 ∷ 4 ∷ 8 ∷ 2 ∷ 6 ∷ 10 ∷ 1 ∷ 5 ∷ 9 ∷ 3 ∷ 7 ∷ []

worked : (leaves_from 11 1 11 ≡ order) × (round_leaves 11 ≡ order)
unfolding order leaves_from leaf_at next_from round_leaves count_list wss tss
worked = (refl, refl)

written :
    (wss 1 ≡ 1 ∷ [])
    × (wss 4 ≡ 1 ∷ 2 ∷ 1 ∷ 3 ∷ 1 ∷ 2 ∷ 1 ∷ 4 ∷ 1 ∷ 2 ∷ 1 ∷ 3 ∷ 1 ∷ 2 ∷ 1 ∷ [])
    × (tss 3 ≡ 0 ∷ 4 ∷ 2 ∷ 6 ∷ 1 ∷ 5 ∷ 3 ∷ 7 ∷ [])
    × (tss 4 ≡ 0 ∷ 8 ∷ 4 ∷ 12 ∷ 2 ∷ 10 ∷ 6 ∷ 14 ∷ 1 ∷ 9 ∷ 5 ∷ 13 ∷ 3 ∷ 11 ∷ 7 ∷ 15 ∷ [])
    × (rb 3 3 ≡ 6)
    × (rb 1 4 ≡ 8)
unfolding wss tss rb
written = (refl, refl, refl, refl, refl, refl)
