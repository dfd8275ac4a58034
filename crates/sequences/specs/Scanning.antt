-- The round of G-3 (source document 001, section III): its weight spread sequence scanned as a list, term by term, with a time-slot sequence for each tree.
-- Assumes nothing.
use Rattle.std.specs.Prelude.{cond, List, [], ◌∷◌, ℕ, ◌+◌, ◌-◌, eqb, get_or}
use Rattle.sequences.specs.Sequences.{wss, tss}
use Rattle.sequences.specs.SlotOrder.{digits, bit, start}
use Rattle.sequences.specs.Serving.{count_list}

-- How often v stands in a list, of terms or of names.
abbrev pub occurrences : ℕ → List ℕ → ℕ
occurrences v list = count_list (λ (x : ℕ). eqb x v) list

-- The leaves of terms scanned one after the other. The term v selects column j = k - v; a clear column is passed over. A set one serves entry i of the
-- time-slot sequence of order j, from the start of tree j, where v has stood i times among the terms scanned before (`done`, the last one first).
unfoldable pub scanned : ℕ → List ℕ → List ℕ → List ℕ
scanned C done [] = []
scanned C done (v ∷ terms) =
    cond (eqb (bit C (digits C - v)) 1)
    ((start C (digits C - v) + get_or (tss (digits C - v)) (occurrences v done) 0) ∷ scanned C (v ∷ done) terms)
    (scanned C (v ∷ done) terms)

-- The leaves of one round, in their order.
unfoldable pub round_leaves : ℕ → List ℕ
unfolding scanned
round_leaves C = scanned C [] (wss (digits C))
