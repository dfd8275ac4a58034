-- Calls of two drives in which nothing is changed: any number of slots of one are such calls where nothing waits, and what they serve it.
-- Assumes nothing.
use mathlib.Core.Path.{◌≡◌, refl, ap, ◌∙◌}
use mathlib.Core.List.{List, [], ◌∷◌, ◌++◌}
use Prim.Native.Nat.{ℕ}
use lib.ListN.{length, replicate}
use Rattle.general.proofs.Laws.{by_bool}
use Rattle.demands.specs.Histories.{Act, Slot}
use Rattle.pieces.specs.Streams.{Stream}
use Rattle.demands.specs.Stretches.{PowerOfTwo, PowerFair, StillFair}
use Rattle.waiting.specs.Layout.{waiting}
use Rattle.drives.specs.Checks.{both_start}
use Rattle.drives.specs.Results.{list_then}
use Rattle.amended.specs.Carried.{acts_of}
use Rattle.amended.specs.Deeds.{Slots}
use Rattle.amended.specs.Turns.{Pair, shown, first_checks, Turn, Own, leaves, leaves_all, restarts, due, stands_for, name_served, names_served}
use Rattle.amended.specs.Sharing.{held_next, held_then}
use Rattle.amended.specs.Stretches.{StillTurns}
use Rattle.amended.proofs.Carrying.{acts_names}
use Rattle.amended.proofs.Turning.{ran_state, due_state, projected_one, names_one}
use Rattle.amended.proofs.Sharing.{Standing, standing_next}
use Rattle.amended.proofs.TurnRounds.{first_clear, ran_sound, slot_runs, slots_whole, slots_many, clear_stands}
use Rattle.amended.proofs.Stretching as stretching

-- ---- any number of slots, where nothing waits

abbrev Quiet : List Stream → Pair → Type 0
Quiet hs s = Standing hs s × (waiting s.list ≡ [])

quiet_slot : (hs : List Stream) (s : Pair) → Quiet hs s → stands_for (Own Slots) s ≡ Slot ∷ []
unfolding due acts_of
quiet_slot hs s (is, none) =
    let nothing : acts_of (due s) ≡ [] = by_bool (both_start s.own s.other) (λ t. rw (t, none) refl) (λ f. rw f refl) in
    clear_stands s (first_checks s) (first_clear hs s is) ∙ ap (λ (acts : List Act). acts ++ (Slot ∷ [])) nothing

quiet_next : (hs : List Stream) (s : Pair) → Quiet hs s → Quiet (held_next hs (Own Slots) s) (leaves (Own Slots) s)
unfolding list_then
quiet_next hs s (is, none) = (standing_next hs (Own Slots) s is, by_bool (both_start s.own s.other) (slot_runs hs s is) (λ f. rw (first_clear hs s is, f) none))

pub slots_still : (n : ℕ) (hs : List Stream) (s : Pair) → Standing hs s → waiting s.list ≡ []
    → StillTurns s (replicate n (Own Slots)) × (length (names_served s (replicate n (Own Slots))) ≡ n)
slots_still n hs s is none = (
  record {
    whole = slots_whole n s;
    kept = stretching.row_kept leaves shown stands_for restarts projected_one (λ gs t. held_next gs (Own Slots) t) Quiet (Own Slots) (λ t. refl)
        quiet_slot quiet_next n hs s (is, none);
  },
  slots_many n hs s is,
)

-- ---- what such calls leave and serve

module _ (hs : List Stream) (s : Pair) (is : Standing hs s) (rest : List Turn) where
  module _ (still : StillTurns s rest) where
    pub kept : (leaves_all s rest).board ≡ s.board
    kept = stretching.kept_board leaves shown stands_for restarts projected_one s rest still

    pub power : PowerOfTwo s.own.capacity → PowerFair s.own.capacity s.board hs (names_served s rest)
    power = stretching.power leaves shown stands_for restarts projected_one name_served names_one hs s rest is.own still

    pub fair : StillFair s.own.capacity hs (names_served s rest)
    fair = stretching.fair leaves shown stands_for restarts projected_one name_served names_one hs s rest is.own still

  -- from a slot on that carries out what waits, if it does, before it is picked
  module _ (still : StillTurns (leaves (Own Slots) s) rest) where
    pub power_then : PowerOfTwo s.own.capacity → PowerFair s.own.capacity (ran_state s).board (held_then hs s) (names_served s (Own Slots ∷ rest))
    power_then = stretching.power_then leaves shown stands_for restarts projected_one name_served names_one (held_then hs s) s rest
        (Own Slots) (acts_of (due s)) (clear_stands s (first_checks s) (first_clear hs s is)) refl
        (acts_names (shown s) (due s)) (ran_state s) (due_state s) (ran_sound hs s is) still

    pub fair_then : StillFair s.own.capacity (held_then hs s) (names_served s (Own Slots ∷ rest))
    fair_then = stretching.fair_then leaves shown stands_for restarts projected_one name_served names_one (held_then hs s) s rest
        (Own Slots) (acts_of (due s)) (clear_stands s (first_checks s) (first_clear hs s is)) refl
        (acts_names (shown s) (due s)) (ran_state s) (due_state s) (ran_sound hs s is) still
