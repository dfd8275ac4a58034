-- What holds of a good board that has on it what is held: what the calls answer there, and what a full round serves. Assumes nothing.
use mathlib.Core.Path.{◌≡◌, refl, sym, ap, ◌∙◌}
use mathlib.Core.Bool.{true, false, not, cond}
use mathlib.Core.List.{List, [], ◌∷◌}
use Prim.Native.Nat.{ℕ, zero, ◌+◌, ◌-◌, ◌*◌, ◌≤◌, ◌<◌}
use native.Mathlib.Nat.{le_refl}
use native.Mathlib.Omega.{arith}
use lib.Dec.{ltb}
use lib.ListN.{length}
use borrow.Author.Tests.{ne_eqb, le-ltb}
use Rattle.general.proofs.Laws.{clash}
use Rattle.sequences.specs.Serving.{leaves_from, after_slots}
use Rattle.sequences.specs.Scanning.{occurrences}
use Rattle.pieces.specs.Board.{good, weight}
use Rattle.calls.specs.declared.Drive.{Drive}
use Rattle.calls.specs.declared.Refusal.TheVariants.{Midround, Damaged, Name, Weight, Taken, Room}
use Rattle.std.specs.Prelude.{Ok}
use Rattle.calls.specs.Refusals.{first_of, applies, asked, asked_add, asked_name, asked_output, add_may, admit_may, remove_may, slot_may, round_may, report_may, change_may, add_check, remove_check, slot_check, round_check, report_check, change_check}
use Rattle.calls.specs.Results.{added_idle}
use Rattle.calls.proofs.Laws.{change_start, admit_change, admit_clear, add_full}
use Rattle.demands.specs.Histories.{Act, Add, Remove, Slot, Round, Report, Fresh, State, does, says}
use Rattle.pieces.specs.Streams.{Stream, held_of, total}
use Rattle.demands.specs.Holdings.{changes_board}
use Rattle.demands.specs.Rounds.{names_from, FullRound, in_a_row, Near, bound}
use Rattle.demands.proofs.Checks.{none_applies, first_after}
use Rattle.demands.proofs.Answering.{undamaged, room_number, room_says}
use Rattle.demands.proofs.Valid.{slot_clear, add_midround, remove_midround, fresh_midround}
use Rattle.demands.proofs.Reached.{Sound}
use Rattle.demands.proofs.ServedNames.{full_names, row, times_on}
use Rattle.demands.proofs.Streams.{stream_fair, stream_round}

module _ (s : State) (hs : List Stream) (is : Sound s hs) where
  abbrev C : ℕ
  C = s.drive.capacity

  abbrev B : List ℕ
  B = s.board

  -- no answer is DAMAGED
  pub never_damaged : (a : Act) → (says a s).number ≡ 5 → ⊥
  unfolding add_check remove_check slot_check round_check report_check change_check
  never_damaged a = go a
    where
      d : Drive
      d = s.drive

      fine : not (good C B) ≡ false
      fine = ap not is.fine

      go : (a : Act) → (says a s).number ≡ 5 → ⊥
      go (Add x w) = undamaged add_may (asked_add d B x w) fine
      go (Remove x) = undamaged remove_may (asked_name d B x) fine
      go Slot = undamaged slot_may (asked d B) fine
      go (Round O) = undamaged round_may (asked_output d B (length O) C) fine
      go (Report x) = undamaged report_may (asked_name d B x) fine
      go Fresh = undamaged change_may (asked d B) fine

  -- away from position 1 a change and a fresh layout are refused for MIDROUND
  pub midround : (a : Act) → changes_board a ≡ true → (s.drive.position ≡ 1 → ⊥) → ((says a s).number ≡ 4) × (does a s ≡ s)
  midround (Add x w) e away = rw (add_midround s is.valid away x w) (refl, refl)
  midround (Remove x) e away = rw (remove_midround s is.valid away x) (refl, refl)
  midround Slot e away = clash e refl
  midround (Round O) e away = clash e refl
  midround (Report x) e away = clash e refl
  midround Fresh e away = rw (fresh_midround s is.valid away) (refl, refl)

  -- at position 1 a fresh layout passes its checks
  pub fresh_passes : s.drive.position ≡ 1 → change_check s.drive s.board ≡ Ok tt
  unfolding change_check slot_check applies
  fresh_passes start =
      let q = asked s.drive B in
      first_after q slot_may (Midround ∷ Damaged ∷ []) (slot_clear s is.valid)
      ∙ none_applies q Midround (Damaged ∷ []) (rw start refl) (none_applies q Damaged [] (ap not is.fine) refl)

  -- at position 1 an add of a new name passes the checks beside ROOM
  pub others_pass : (x w : ℕ) → s.drive.position ≡ 1 → (x ≡ 0 → ⊥) → (w ≡ 0 → ⊥) → held_of x hs ≡ 0 → first_of admit_may (asked_add s.drive s.board x w) ≡ Ok tt
  unfolding slot_check applies
  others_pass x w start named some free =
      let q = asked_add s.drive B x w in
      let z : weight C B x ≡ 0 = is.names x named ∙ free in
      first_after q slot_may (Midround ∷ Damaged ∷ Name ∷ Weight ∷ Taken ∷ []) (slot_clear s is.valid)
      ∙ none_applies q Midround (Damaged ∷ Name ∷ Weight ∷ Taken ∷ []) (rw start refl)
      (none_applies q Damaged (Name ∷ Weight ∷ Taken ∷ []) (ap not is.fine)
      (none_applies q Name (Weight ∷ Taken ∷ []) (ne_eqb x 0 named)
      (none_applies q Weight (Taken ∷ []) (ne_eqb w 0 some)
      (none_applies q Taken [] (rw z refl) refl))))

  -- and then ROOM goes by what is held
  pub room : (x w : ℕ) → first_of admit_may (asked_add s.drive s.board x w) ≡ Ok tt → (says (Add x w) s).number ≡ cond (ltb (s.drive.capacity - total hs) w) 10 0
  unfolding add_check
  room x w e =
      let i : C - total hs ≡ weight C B 0 = let j = is.idle in omega arith in
      rw (first_after (asked_add s.drive B x w) admit_may (Room ∷ []) e, i) (room_number (ltb (weight C B 0) w))

  -- which it says,
  pub room_told : (x w : ℕ) → (says (Add x w) s).number ≡ 10 → (says (Add x w) s).values ≡ (s.drive.capacity - total hs) ∷ []
  room_told x w e =
      let i : weight C B 0 ≡ C - total hs = let j = is.idle in omega arith in
      room_says (add_check s.drive B x w) (added_idle s.drive B x w ∷ []) (weight C B 0) e ∙ ap (λ (n : ℕ). n ∷ []) i

  -- and which can be asked for
  pub room_asked : (x w : ℕ) → (says (Add x w) s).number ≡ 10 → zero < s.drive.capacity - total hs → (says (Add x (s.drive.capacity - total hs)) s).number ≡ 0
  room_asked x w e some =
      let clear = add_full s.drive B x w e in
      let may = admit_clear s.drive B x w clear in
      let start = change_start s.drive B (admit_change s.drive B x w clear) in
      let n = C - total hs in
      let others = others_pass x n start may.named (λ z. omega arith) (sym (is.names x may.named) ∙ may.absent) in
      room x n others ∙ rw (le-ltb n n (le_refl n)) refl

  -- what holds something has as many leaves
  pub held_weight : (x w : ℕ) → held_of x hs ≡ w → zero < w → weight s.drive.capacity s.board x ≡ w
  held_weight x w holds some =
      let named : x ≡ 0 → ⊥ = λ e. let z : held_of x hs ≡ 0 = ap (λ (y : ℕ). held_of y hs) e ∙ is.nameless in omega arith in
      is.names x named ∙ holds

  module _ (rest : List Act) (full : FullRound s rest) where
    -- a full round serves a name as often as it holds
    pub served_round_lem : (x : ℕ) → (x ≡ 0 → ⊥) → occurrences x (names_from s rest) ≡ held_of x hs
    served_round_lem x named = rw (full_names s rest is.valid full)
        (times_on B x (leaves_from C 1 C) ∙ stream_round C B x is.valid.at.some is.valid.at.few ∙ is.names x named)

    -- and slots in a row of it serve the name its share
    pub served_fair : (x w i t : ℕ) → held_of x hs ≡ w → zero < w → i + t ≤ s.drive.capacity
        → Near (s.drive.capacity * occurrences x (in_a_row i t (names_from s rest))) (w * t) (bound s.drive.capacity w)
    served_fair x w i t holds some within =
        let e = held_weight x w holds some in
        let f = rw e at (stream_fair C B x is.valid.at.some is.valid.at.few i t within is.fine (omega arith)) in
        rw (full_names s rest is.valid full, row C 1 C i t B within, times_on B x (leaves_from C (after_slots C 1 i) t)) (omega arith)
