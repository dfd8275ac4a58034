-- Full rounds of calls with the list: C slots make one, and it serves what a plain round serves on the board that the list has left. Assumes nothing.
use mathlib.Core.Path.{◌≡◌, refl, sym, ap, subst, ◌∙◌}
use mathlib.Core.Bool.{false}
use mathlib.Core.List.{List, [], ◌∷◌, ◌++◌}
use Prim.Native.Nat.{ℕ, suc, ◌-◌}
use native.Mathlib.Omega.{arith}
use lib.ListN.{length, replicate}
use Rattle.calls.specs.Types.{Check}
use Rattle.std.specs.Prelude.{Ok}
use Rattle.demands.specs.Histories.{Act, Slot, State}
use Rattle.pieces.specs.Streams.{Stream}
use Rattle.demands.specs.Rounds.{names_from}
use Rattle.demands.specs.Rounds as rounds
use Rattle.demands.proofs.Laws.{Sound, reached, slot_clear}
use Rattle.orders.proofs.Laws.{bounds_clear}
use Rattle.amended.specs.Histories.{Each}
use Rattle.amended.specs.Carried.{acts_of}
use Rattle.amended.specs.Deeds.{Deed, Slots, Desk, first_checks, answers, leaves, restarts, Unbroken, due, slot_by, stands_for, plain, name_served, names_served, FullRound}
use Rattle.amended.specs.Holding.{held_next, held_then}
use Rattle.amended.proofs.Carrying.{acts_names}
use Rattle.amended.proofs.Projection.{ran_state, due_state, projected_one, names_one}
use Rattle.amended.proofs.Projecting as projecting
use Rattle.amended.proofs.Sounding.{Standing, standing_next}

module _ (hs : List Stream) (s : Desk) (is : Standing hs s) where
  -- the first checks find nothing
  pub first_clear : first_checks s ≡ Ok tt
  first_clear = bounds_clear s.state.drive s.state.board (length s.list) (slot_clear s.state is.sound.valid) is.long

  pub slot_served : (answers Slots s).number ≡ 0
  slot_served = rw first_clear refl

  -- what is held once the list has run stands on the board that it leaves
  pub ran_sound : Sound (ran_state s) (held_then hs s)
  ran_sound = subst (λ (t : State). Sound t (held_then hs s)) (due_state s) (reached s.state hs is.sound (acts_of (due s)))

-- ---- C slots

pub slots_whole : (n : ℕ) (s : Desk) → Unbroken s (replicate n Slots)
slots_whole = projecting.row_whole leaves (λ a t. restarts a t ≡ false) Slots (λ t. refl)

pub slots_many : (n : ℕ) (hs : List Stream) (s : Desk) → Standing hs s → length (names_served s (replicate n Slots)) ≡ n
slots_many = projecting.row_many leaves held_next Standing standing_next name_served Slots (λ gs t st. rw (slot_served gs t st) refl)

pub slots_full : (hs : List Stream) (s : Desk) → Standing hs s → s.state.drive.position ≡ 1 → FullRound s (replicate (s.state.drive.capacity - 1) Slots)
slots_full hs s is first =
    let C = s.state.drive.capacity in
    let n : suc (C - 1) ≡ C = let z = is.sound.valid.at.some in omega arith in
    record { first = first; whole = slots_whole (C - 1) (leaves Slots s); slots = slots_many (suc (C - 1)) hs s is ∙ n }

-- ---- a full round is a plain full round from where the list has run

pub clear_served : (k : Check) (before : List Act) → k ≡ Ok tt → slot_by k before ≡ before ++ (Slot ∷ [])
clear_served k before e = rw e refl

module _ (hs : List Stream) (s : Desk) (is : Standing hs s) (rest : List Deed) where
  -- the plain calls after the first slot
  abbrev later : List Act
  later = plain (leaves Slots s) rest

  -- a slot and the calls that follow serve what plain calls serve from where the list has run
  pub first_names : Unbroken (leaves Slots s) rest → names_served s (Slots ∷ rest) ≡ names_from (ran_state s) (plain (leaves Slots s) rest)
  unfolding Each
  first_names whole = projecting.names_from_slot leaves (λ t. t.state) stands_for (λ a t. restarts a t ≡ false) projected_one
      Slots s rest (acts_of (due s)) (clear_served (first_checks s) (acts_of (due s)) (first_clear hs s is)) (refl, whole)
      name_served names_one (acts_names s.state (due s))
      ∙ rw (due_state s) refl

  module _ (full : FullRound s rest) where
    pub round_names_lem : names_served s (Slots ∷ rest) ≡ names_from (ran_state s) later
    round_names_lem = first_names full.whole

    pub plain_round : rounds.FullRound (ran_state s) later
    plain_round = record { first = full.first; slots = ap length (sym round_names_lem) ∙ full.slots }
