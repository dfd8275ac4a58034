-- Calls of one drive with the list in which nothing is changed: any number of slots are such calls where nothing waits, and what they serve.
-- Assumes nothing.
use mathlib.Core.Path.{◌≡◌, refl, ap, ◌∙◌}
use mathlib.Core.List.{List, [], ◌∷◌, ◌++◌}
use Prim.Native.Nat.{ℕ}
use lib.Dec.{eqb}
use lib.ListN.{length, replicate}
use Rattle.general.proofs.Laws.{by_bool}
use Rattle.demands.specs.Histories.{Act, Slot}
use Rattle.pieces.specs.Streams.{Stream}
use Rattle.demands.specs.Stretches.{PowerOfTwo, PowerFair, StillFair}
use Rattle.waiting.specs.Layout.{waiting}
use Rattle.waiting.proofs.Laws.{none_waits}
use Rattle.orders.specs.Results.{doing, saying, ran_list, list_then}
use Rattle.amended.specs.Carried.{acts_of}
use Rattle.amended.specs.Deeds.{Deed, Slots, Desk, first_checks, leaves, leaves_all, restarts, due, stands_for, name_served, names_served}
use Rattle.amended.specs.Holding.{held_next, held_then}
use Rattle.amended.specs.Stretches.{Still}
use Rattle.amended.proofs.Carrying.{acts_names}
use Rattle.amended.proofs.Projection.{ran_state, due_state, projected_one, names_one}
use Rattle.amended.proofs.Sounding.{Standing, standing_next}
use Rattle.amended.proofs.Rounding.{first_clear, ran_sound, slots_whole, slots_many, clear_served}
use Rattle.amended.proofs.Stretching as stretching

-- ---- any number of slots, where nothing waits

abbrev Quiet : List Stream → Desk → Type 0
Quiet hs s = Standing hs s × (waiting s.list ≡ [])

quiet_slot : (hs : List Stream) (s : Desk) → Quiet hs s → stands_for Slots s ≡ Slot ∷ []
unfolding due acts_of
quiet_slot hs s (is, none) =
    let nothing : acts_of (due s) ≡ [] = by_bool (eqb s.state.drive.position 1) (λ t. rw (t, none) refl) (λ f. rw f refl) in
    clear_served (first_checks s) (acts_of (due s)) (first_clear hs s is) ∙ ap (λ (acts : List Act). acts ++ (Slot ∷ [])) nothing

quiet_next : (hs : List Stream) (s : Desk) → Quiet hs s → Quiet (held_next hs Slots s) (leaves Slots s)
unfolding list_then ran_list
quiet_next hs s (is, none) = (
  standing_next hs Slots s is,
  rw (first_clear hs s is)
      (by_bool (eqb s.state.drive.position 1)
      (λ t. rw t (none_waits (doing s.state.drive) (saying s.state.drive) s.state.board s.list is.long))
      (λ f. rw f none)),
)

pub slots_still : (n : ℕ) (hs : List Stream) (s : Desk) → Standing hs s → waiting s.list ≡ []
    → Still s (replicate n Slots) × (length (names_served s (replicate n Slots)) ≡ n)
slots_still n hs s is none = (
  record {
    whole = slots_whole n s;
    kept = stretching.row_kept leaves (λ t. t.state) stands_for restarts projected_one (λ gs t. held_next gs Slots t) Quiet Slots (λ t. refl)
        quiet_slot quiet_next n hs s (is, none);
  },
  slots_many n hs s is,
)

-- ---- what such calls leave and serve

module _ (hs : List Stream) (s : Desk) (is : Standing hs s) (rest : List Deed) where
  module _ (still : Still s rest) where
    pub kept : (leaves_all s rest).state.board ≡ s.state.board
    kept = stretching.kept_board leaves (λ t. t.state) stands_for restarts projected_one s rest still

    pub power : PowerOfTwo s.state.drive.capacity → PowerFair s.state.drive.capacity s.state.board hs (names_served s rest)
    power = stretching.power leaves (λ t. t.state) stands_for restarts projected_one name_served names_one hs s rest is.sound still

    pub fair : StillFair s.state.drive.capacity hs (names_served s rest)
    fair = stretching.fair leaves (λ t. t.state) stands_for restarts projected_one name_served names_one hs s rest is.sound still

  -- from a slot on that carries out what waits before it is picked
  module _ (still : Still (leaves Slots s) rest) where
    pub power_then : PowerOfTwo s.state.drive.capacity → PowerFair s.state.drive.capacity (ran_state s).board (held_then hs s) (names_served s (Slots ∷ rest))
    power_then = stretching.power_then leaves (λ t. t.state) stands_for restarts projected_one name_served names_one (held_then hs s) s rest
        Slots (acts_of (due s)) (clear_served (first_checks s) (acts_of (due s)) (first_clear hs s is)) refl
        (acts_names s.state (due s)) (ran_state s) (due_state s) (ran_sound hs s is) still

    pub fair_then : StillFair s.state.drive.capacity (held_then hs s) (names_served s (Slots ∷ rest))
    fair_then = stretching.fair_then leaves (λ t. t.state) stands_for restarts projected_one name_served names_one (held_then hs s) s rest
        Slots (acts_of (due s)) (clear_served (first_checks s) (acts_of (due s)) (first_clear hs s is)) refl
        (acts_names s.state (due s)) (ran_state s) (due_state s) (ran_sound hs s is) still
