-- A record and a board that slot takes: the checks 1 to 3 pass. Assumes nothing.
use mathlib.Core.Path.{◌≡◌, refl, ◌∙◌}
use mathlib.Core.List.{List, [], ◌∷◌}
use Prim.Native.Nat.{ℕ, ◌-◌, ◌^◌, ◌≤◌}
use native.Mathlib.Omega.{arith}
use lib.ListN.{length}
use borrow.Author.Tests.{ne_eqb, le-ltb}
use Rattle.sequences.specs.SlotOrder as board
use Rattle.sequences.specs.SlotOrder.{digits}
use Rattle.sequences.proofs.Laws.{next_position}
use Rattle.calls.specs.declared.Drive.{Drive}
use Rattle.calls.specs.declared.Refusal.TheVariants.{Capacity, Short, Position, Midround, Damaged, Name, Weight, Taken, Absent, Room}
use Rattle.std.specs.Prelude.{Ok, Err}
use Rattle.calls.specs.Refusals.{applies, asked, asked_add, asked_name, slot_may, add_check, remove_check, slot_check, change_check}
use Rattle.calls.specs.Results.{moved_on}
use Rattle.calls.proofs.Laws.{slot_sized, slot_position}
use Rattle.demands.specs.Histories.{Slot, State, does}
use Rattle.demands.proofs.Checks.{none_applies, first_after}

-- The record and the board.
abbrev pub state_at : Drive → List ℕ → State
state_at d B = record { drive = d; board = B }

pub record Valid (s : State) : Type 0 where
  pub at : board.Position s.drive.capacity s.drive.position
  pub long : s.drive.capacity ≤ length s.board

module _ (s : State) where
  pub slot_clear : Valid s → slot_check s.drive s.board ≡ Ok tt
  unfolding slot_check applies
  slot_clear is =
      let C = s.drive.capacity in
      let p = s.drive.position in
      let a = is.at.some in
      let b = is.at.few in
      let c = is.at.first in
      let d = is.at.last in
      let q = asked s.drive s.board in
      none_applies q Capacity (Short ∷ Position ∷ []) (rw (ne_eqb C 0 (λ e. omega arith), le-ltb 4095 C (omega arith)) refl)
      (none_applies q Short (Position ∷ []) (le-ltb (length s.board) C is.long)
      (none_applies q Position [] (rw (ne_eqb p 0 (λ e. omega arith), le-ltb (2 ^ digits C - 1) p (omega arith)) refl) refl))

  pub clear_valid : slot_check s.drive s.board ≡ Ok tt → Valid s
  clear_valid e = record { at = slot_position s.drive s.board e; long = (slot_sized s.drive s.board e).long }

  -- a slot moves the record on, to one that slot takes
  pub slot_moves : Valid s → does Slot s ≡ state_at (moved_on s.drive) s.board
  slot_moves is = rw (slot_clear is) refl

  pub valid_next : Valid s → Valid (state_at (moved_on s.drive) s.board)
  valid_next is = record { at = next_position s.drive.capacity s.drive.position is.at; long = is.long }

  -- away from position 1 an add, a remove and a fresh layout are refused for MIDROUND
  pub add_midround : Valid s → (s.drive.position ≡ 1 → ⊥) → (x w : ℕ) → add_check s.drive s.board x w ≡ Err Midround
  unfolding add_check slot_check applies
  add_midround is away x w =
      first_after (asked_add s.drive s.board x w) slot_may (Midround ∷ Damaged ∷ Name ∷ Weight ∷ Taken ∷ Room ∷ []) (slot_clear is)
      ∙ rw (ne_eqb s.drive.position 1 away) refl

  pub remove_midround : Valid s → (s.drive.position ≡ 1 → ⊥) → (x : ℕ) → remove_check s.drive s.board x ≡ Err Midround
  unfolding remove_check slot_check applies
  remove_midround is away x =
      first_after (asked_name s.drive s.board x) slot_may (Midround ∷ Damaged ∷ Name ∷ Absent ∷ []) (slot_clear is)
      ∙ rw (ne_eqb s.drive.position 1 away) refl

  pub fresh_midround : Valid s → (s.drive.position ≡ 1 → ⊥) → change_check s.drive s.board ≡ Err Midround
  unfolding change_check slot_check applies
  fresh_midround is away = first_after (asked s.drive s.board) slot_may (Midround ∷ Damaged ∷ []) (slot_clear is)
      ∙ rw (ne_eqb s.drive.position 1 away) refl
