-- Calls among which nothing is changed: over any number of rounds, and from any position, their slots serve the leaves of one board in turn, and a stream its share.
-- Assumes nothing.
use mathlib.Core.Path.{◌≡◌, refl, sym, ap, subst, ◌∙◌}
use mathlib.Core.Bool.{Bool, true, false, not, ◌&&◌}
use mathlib.Core.List.{List, [], ◌∷◌}
use Prim.Native.Nat.{ℕ, zero, suc, ◌+◌, ◌*◌, ◌≤◌, ◌<◌}
use native.Mathlib.Omega.{arith}
use lib.Dec.{eqb}
use lib.ListN.{length, replicate}
use borrow.Author.Tests.{eq-eqb}
use Rattle.general.proofs.Laws.{clash}
use Rattle.sequences.specs.SlotOrder.{Position}
use Rattle.sequences.specs.Serving.{leaves_from, after_slots, count_list}
use Rattle.sequences.proofs.Laws.{after_slots_valid}
use Rattle.sequences.specs.Scanning.{occurrences}
use Rattle.pieces.specs.Board.{weight, piece_count}
use Rattle.calls.specs.Refusals.{add_check, remove_check, change_check}
use Rattle.calls.specs.Results.{served_name, moved_on}
use Rattle.calls.proofs.Laws.{refusal}
use Rattle.demands.specs.Histories.{Act, Add, Remove, Slot, Round, Report, Fresh, State, does, says, after, log}
use Rattle.pieces.specs.Streams.{Stream, held_of}
use Rattle.demands.specs.Holdings.{changes_board}
use Rattle.demands.specs.Rounds.{names, in_a_row, names_on, Near, bound, power_bound}
use Rattle.demands.specs.Stretches.{none_done, Still, PowerOfTwo, PowerFair, StillFair}
use Rattle.demands.proofs.Streams.{holds}
use Rattle.demands.proofs.Valid.{Valid, state_at, slot_moves, valid_next}
use Rattle.demands.proofs.Reached.{Sound}
use Rattle.demands.proofs.ServedNames.{slot_names, row, times_on}
use Rattle.demands.proofs.Standing.{held_weight}
use Rattle.demands.proofs.Powers.{stream_power, stream_still}

-- ---- such calls

-- the first of them is no change that is done, and neither is one of the others
parts : (b c later : Bool) → (not (b && c) && later) ≡ true → (b ≡ true → c ≡ true → ⊥) × (later ≡ true)
parts true true later e = clash e refl
parts true false later e = (λ f g. clash g refl, e)
parts false c later e = (λ f g. clash f refl, e)

still_parts : (a : Act) (s : State) (acts : List Act) → Still s (a ∷ acts) → (changes_board a ≡ true → (says a s).number ≡ 0 → ⊥) × Still (does a s) acts
unfolding none_done log
still_parts a s acts still =
    let p = parts (changes_board a) (eqb (says a s).number 0) (none_done (log (does a s) acts)) still in
    (λ change done. p.0 change (eq-eqb (says a s).number 0 done), p.1)

-- a slot before such calls
pub slot_still : (s : State) (acts : List Act) → Still (does Slot s) acts → Still s (Slot ∷ acts)
unfolding none_done log
slot_still s acts still = still

-- any number of slots
pub slots_still : (s : State) (n : ℕ) → Still s (replicate n Slot)
unfolding none_done log
slots_still s zero = refl
slots_still s (suc n) = slot_still s (replicate n Slot) (slots_still (does Slot s) n)

-- ---- what they leave and serve

-- a call that is no change, and a refused one, leaves the board,
kept : (a : Act) (s : State) → (changes_board a ≡ true → (says a s).number ≡ 0 → ⊥) → (does a s).board ≡ s.board
kept (Add x w) s refused = rw (refusal (add_check s.drive s.board x w) (refused refl)).1 refl
kept (Remove x) s refused = rw (refusal (remove_check s.drive s.board x) (refused refl)).1 refl
kept Slot s refused = refl
kept (Round O) s refused = refl
kept (Report x) s refused = refl
kept Fresh s refused = rw (refusal (change_check s.drive s.board) (refused refl)).1 refl

-- and so do all of them
pub still_board : (s : State) (acts : List Act) → Still s acts → (after s acts).board ≡ s.board
unfolding after
still_board s [] still = refl
still_board s (a ∷ acts) still = let p = still_parts a s acts still in still_board (does a s) acts p.1 ∙ kept a s p.0

-- the slots serve the names on its leaves, in the order that goes on from round to round
still_names : (s : State) (acts : List Act) → Valid s → Still s acts
    → names (log s acts) ≡ names_on s.board (leaves_from s.drive.capacity s.drive.position (length (names (log s acts))))
unfolding names log leaves_from
still_names s [] is still = refl
still_names s (Add x w ∷ acts) is still =
    let p = still_parts (Add x w) s acts still in
    let e = (refusal (add_check s.drive s.board x w) (p.0 refl)).1 in
    rw e (still_names s acts is (rw e at p.1))
still_names s (Remove x ∷ acts) is still =
    let p = still_parts (Remove x) s acts still in
    let e = (refusal (remove_check s.drive s.board x) (p.0 refl)).1 in
    rw e (still_names s acts is (rw e at p.1))
still_names s (Slot ∷ acts) is still =
    let later = (still_parts Slot s acts still).1 in
    let ih = still_names (state_at (moved_on s.drive) s.board) acts (valid_next s is) (subst (λ (t : State). Still t acts) (slot_moves s is) later) in
    subst (λ (L : List ℕ). L ≡ names_on s.board (leaves_from s.drive.capacity s.drive.position (length L))) (sym (slot_names s acts is))
    (ap (λ (L : List ℕ). served_name s.drive s.board ∷ L) ih)
still_names s (Round O ∷ acts) is still = still_names s acts is (still_parts (Round O) s acts still).1
still_names s (Report x ∷ acts) is still = still_names s acts is (still_parts (Report x) s acts still).1
still_names s (Fresh ∷ acts) is still =
    let p = still_parts Fresh s acts still in
    let e = (refusal (change_check s.drive s.board) (p.0 refl)).1 in
    rw e (still_names s acts is (rw e at p.1))

-- ---- where the board is good, and has on it what is held

module _ (s : State) (hs : List Stream) (is : Sound s hs) (rest : List Act) (still : Still s rest) where
  abbrev C : ℕ
  C = s.drive.capacity

  abbrev B : List ℕ
  B = s.board

  -- t slots in a row, from slot i on, serve what slots from a position serve
  in_a_row_lem : (x i t : ℕ) → i + t ≤ length (names (log s rest))
      → occurrences x (in_a_row i t (names (log s rest))) ≡ count_list (holds B x) (leaves_from C (after_slots C s.drive.position i) t)
  in_a_row_lem x i t h = ap (λ (L : List ℕ). occurrences x (in_a_row i t L)) (still_names s rest is.valid still)
      ∙ ap (occurrences x) (row C s.drive.position (length (names (log s rest))) i t B h)
      ∙ times_on B x (leaves_from C (after_slots C s.drive.position i) t)

  module _ (x w i t : ℕ) (holds : held_of x hs ≡ w) (some : zero < w) (within : i + t ≤ length (names (log s rest))) where
    e : weight C B x ≡ w
    e = held_weight s hs is x w holds some

    at : Position C (after_slots C s.drive.position i)
    at = after_slots_valid C s.drive.position i is.valid.at

    power_row : PowerOfTwo C → (m : ℕ) → piece_count C B x ≡ m → Near (C * occurrences x (in_a_row i t (names (log s rest)))) (w * t) (power_bound C m)
    power_row power m pieces = rw (in_a_row_lem x i t within) (rw (e, pieces) at (stream_power C B x (after_slots C s.drive.position i) t at power (omega (arith, e))))

    still_row : Near (C * occurrences x (in_a_row i t (names (log s rest)))) (w * t) (bound C w)
    still_row = rw (in_a_row_lem x i t within) (rw e at (stream_still C B x at.some at.few is.fine (omega (arith, e)) (after_slots C s.drive.position i) t at))

  -- where C is a power of two, a stream its share up to less than m C,
  pub served_power : PowerOfTwo s.drive.capacity → PowerFair s.drive.capacity s.board hs (names (log s rest))
  served_power power x w m i t holds some pieces within = power_row x w i t holds some within power m pieces

  -- and always up to less than m C + w h
  pub served_still : StillFair s.drive.capacity hs (names (log s rest))
  served_still = still_row
