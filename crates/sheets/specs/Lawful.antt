-- What holds of each form of sheet, as the code that is common to both relies on it: what its blocks hold has 253 numbers, and save asks for a slot,
-- then a position that the form is written at, then a good board, then room. Assumes nothing.
use Rattle.std.proofs.Common.{◌≡◌, refl, ap, ◌∙◌, Bool, true, List, [], ◌∷◌, ℕ, zero, suc, ◌+◌, ◌*◌, length}
use Rattle.calls.specs.Refusals.{and_then, asked_output, slot_may, change_may, slot_check, good_check}
use Rattle.calls.specs.declared.Drive.{Drive}
use Rattle.calls.specs.declared.Refusal.TheVariants.{Capacity, Short, Position, Midround, Damaged, Output}
use Rattle.calls.specs.Types.{Check}
use Rattle.calls.proofs.Laws.{first_next}
use Rattle.sheets.specs.Blocks.{values_from}
use Rattle.sheets.specs.Sheet.{blocks, leaf_or_zero, laid}
use Rattle.sheets.specs.Forms.{room_check, saving_check, size_of}
use Rattle.sheets.specs.Results.{leaf_form, piece_form}
use Rattle.sheets.specs.Conversions.{at_start, anywhere}

pub values_length : (f : ℕ → ℕ) (a n : ℕ) → length (values_from f a n) ≡ n
unfolding values_from
values_length f a zero = refl
values_length f a (suc n) = ap suc (values_length f (suc a) n)

-- the number of block b, and what it holds of a list L, at p
abbrev pub leaf_number : ℕ → ℕ
leaf_number b = b

abbrev pub leaves_held : ℕ → List ℕ → ℕ → List ℕ
leaves_held p L b = values_from (leaf_or_zero (length L) L) (253 * b) 253

abbrev pub entry_number : ℕ → ℕ
entry_number b = 32768 + b

abbrev pub entries_held : ℕ → List ℕ → ℕ → List ℕ
entries_held p L b = p ∷ values_from (leaf_or_zero (length L) L) (252 * b) 252

pub leaves_full : (p : ℕ) (L : List ℕ) (b : ℕ) → length (leaves_held p L b) ≡ 253
leaves_full p L b = values_length (leaf_or_zero (length L) L) (253 * b) 253

pub entries_full : (p : ℕ) (L : List ℕ) (b : ℕ) → length (entries_held p L b) ≡ 253
entries_full p L b = ap suc (values_length (leaf_or_zero (length L) L) (252 * b) 252)

-- what is seen of the layout before the leaves are read: of a sheet of leaves all of it, of one of pieces nothing; a layout that is kept shows no fault
pub leaves_show : (c : ℕ) (S : List ℕ) → leaf_form.laid c S ≡ true → laid c S ≡ true
leaves_show c S e = e

abbrev pub entries_seen : ℕ → List ℕ → Bool
entries_seen c S = true

pub entries_show : (c : ℕ) (S : List ℕ) → piece_form.laid c S ≡ true → entries_seen c S ≡ true
entries_show c S e = refl

-- what save asks before the output
abbrev pub standing : (ℕ → Check) → Drive → List ℕ → Check
standing at d B = and_then (slot_check d B) (and_then (at d.position) (good_check d.capacity B))

module _ (d : Drive) (B : List ℕ) (n : ℕ) where
  pub leaves_ask : saving_check leaf_form d B n ≡ and_then (standing at_start d B) (room_check n (512 * blocks d.capacity))
  unfolding saving_check slot_check good_check
  leaves_ask =
      let a = asked_output d B n (512 * blocks d.capacity) in
      first_next change_may (Output ∷ []) a
      ∙ ap (λ (k : Check). and_then k (room_check n (512 * blocks d.capacity)))
      (first_next slot_may (Midround ∷ Damaged ∷ []) a ∙ ap (and_then (slot_check d B)) (first_next (Midround ∷ []) (Damaged ∷ []) a))

  pub entries_ask : saving_check piece_form d B n ≡ and_then (standing anywhere d B) (room_check n (size_of piece_form d B))
  unfolding saving_check slot_check good_check
  entries_ask =
      let a = asked_output d B n (size_of piece_form d B) in
      first_next (Capacity ∷ Short ∷ Position ∷ Damaged ∷ []) (Output ∷ []) a
      ∙ ap (λ (k : Check). and_then k (room_check n (size_of piece_form d B))) (first_next slot_may (Damaged ∷ []) a)
