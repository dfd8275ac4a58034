-- Every history of calls with tables for two drives leaves a drive's record and the board, and gives it the leaves, of the plain history of that drive that it
-- stands for; and holds what that holds. Shown for the own drive; the other's is the same history with the records and the deficits exchanged.
-- Assumes nothing.
use mathlib.Core.Path.{◌≡◌, refl, sym, ap, ◌∙◌}
use mathlib.Core.Bool.{true}
use mathlib.Core.List.{List, [], ◌∷◌, map}
use Prim.Native.Nat.{ℕ}
use native.Mathlib.Omega.{arith}
use lib.Dec.{eqb}
use lib.ListN.{length}
use Rattle.general.proofs.Laws.{by_bool}
use Rattle.calls.specs.declared.Drive.{Drive}
use Rattle.calls.specs.Types.{Check}
use Rattle.std.specs.Prelude.{Ok, Err}
use Rattle.calls.specs.Refusals.{slot_check}
use Rattle.calls.specs.Results.{if_clear, moved_on}
use Rattle.calls.proofs.Laws.{number_some}
use Rattle.demands.specs.Histories.{Slot, says, after, log}
use Rattle.demands.specs.Histories as plainly
use Rattle.pieces.specs.Streams.{Stream}
use Rattle.demands.specs.Holdings.{held_from}
use Rattle.demands.specs.Rounds.{names}
use Rattle.demands.proofs.Laws.{state_at, slot_clear, clear_valid, same_either, after_append, names_append, held_append}
use Rattle.waiting.specs.declared.Order.{Order}
use Rattle.waiting.specs.Layout.{waiting}
use Rattle.waiting.specs.Carrying.{carried_all}
use Rattle.orders.specs.Types.{Way}
use Rattle.orders.specs.declared.Moment.TheVariants as moment
use Rattle.orders.specs.Results as orders
use Rattle.orders.proofs.Laws.{all_length}
use Rattle.drives.specs.Checks.{both_start}
use Rattle.drives.proofs.Laws.{start_both, all_alike}
use Rattle.shares.specs.States.{BoardTables}
use Rattle.shares.specs.Results.{board_order, carried_state, doing, ran_state, state_by, state_then, turn_state, served_answer_by}
use Rattle.amended.specs.Histories.{through, following, Each}
use Rattle.amended.specs.Carried.{acts_of}
use Rattle.amended.proofs.Laws as amended
use Rattle.shared_demands.specs.Turns.{Pair, exchanged, shown, first_checks, way_at, Deed, Changes, Slots, Fetches, leaves_own, Turn, Own, Other, leaves, leaves_all, turned_all, due, if_now, carries_out, acts_for, shared, alone, stands_for, plain, on_leaf, given_own, leaf_given, leaves_given}
use Rattle.shared_demands.specs.Holding.{held_own, held_next, held_through}
use Rattle.shared_demands.proofs.Checking.{share_lent, now_both}

-- ---- the other drive's history

pub turned_leaves : (s : Pair) (turns : List Turn) → leaves_all (exchanged s) (turned_all turns) ≡ exchanged (leaves_all s turns)
unfolding through
turned_leaves s [] = refl
turned_leaves s (Own a ∷ turns) = turned_leaves (leaves (Own a) s) turns
turned_leaves s (Other a ∷ turns) = turned_leaves (leaves (Other a) s) turns

-- ---- what a call carries out is all that it does to the board

-- the board that orders leave
carried_board : (d : Drive) (t : BoardTables) (os : List Order) → (carried_all (doing d) t os).board ≡ carried_all (orders.doing d) t.board (map board_order os)
unfolding carried_all
carried_board d t [] = refl
carried_board d t (o ∷ os) = carried_board d (carried_state d t o) os

-- the board and the tables once the list has run, if it runs
abbrev pub ran_state' : Pair → BoardTables
ran_state' s = state_then s.own s.other s.state s.list

pub due_ran : (s : Pair) → ran_state' s ≡ carried_all (doing s.own) s.state (due s)
unfolding due state_then ran_state carried_all
due_ran s = by_bool (both_start s.own s.other) (λ t. rw t refl) (λ f. rw f refl)

pub way_state : (d : Drive) (t : BoardTables) (o : Order) (k : Way) → state_by k (carried_state d t o) t ≡ carried_all (doing d) t (if_now k o)
unfolding carried_all
way_state d t o (Err r) = refl
way_state d t o (Ok moment.Later) = refl
way_state d t o (Ok moment.Now) = refl

slot_board : (s : Pair) (k : Check) → (if_clear k (turn_state s.own (ran_state' s)) s.state).board ≡ (carried_all (doing s.own) s.state (if_clear k (due s) [])).board
unfolding carried_all
slot_board s (Ok tt) = ap (λ (t : BoardTables). t.board) (due_ran s)
slot_board s (Err r) = refl

own_board : (a : Deed) (s : Pair) → (leaves_own a s).state.board ≡ carried_all (orders.doing s.own) s.state.board (map board_order (carries_out a s))
unfolding carried_all
own_board (Changes o) s = ap (λ (t : BoardTables). t.board) (way_state s.own s.state o (way_at o s)) ∙ carried_board s.own s.state (carries_out (Changes o) s)
own_board Slots s = slot_board s (first_checks s) ∙ carried_board s.own s.state (carries_out Slots s)
own_board (Fetches t) s = refl

-- ---- a call carries orders out only where the two records have equal C and p: what hangs on these alone is the same at both

module _ {X : Type 0} (f : Drive → List Order → X) (none : (a b : Drive) → f a [] ≡ f b [])
    (some : (a b : Drive) → a.capacity ≡ b.capacity → a.position ≡ b.position → (os : List Order) → f a os ≡ f b os) where
  both : (s : Pair) → first_checks s ≡ Ok tt → both_start s.own s.other ≡ true → (s.own.capacity ≡ s.other.capacity) × (s.own.position ≡ s.other.position)
  both s e t =
      let p = start_both s.own s.other t in
      ((share_lent s.own s.other s.state (length s.list) e).same, p.0 ∙ sym p.1)

  pub carries_alike : (a : Deed) (s : Pair) → f s.own (carries_out a s) ≡ f s.other (carries_out a s)
  unfolding due
  carries_alike (Changes o) s = amended.way_alike f none some s.own s.other o (way_at o s) (λ e.
      let n = now_both s.own s.other s.state s.list o e in
      both s n.0 n.1)
  carries_alike Slots s = amended.run_alike f none some s.own s.other (first_checks s) (both_start s.own s.other) (waiting s.list) (both s)
  carries_alike (Fetches t) s = none s.own s.other

none_board : (B : List ℕ) (a b : Drive) → carried_all (orders.doing a) B (map board_order []) ≡ carried_all (orders.doing b) B (map board_order [])
unfolding carried_all
none_board B a b = refl

-- the acts of both drives leave the board that the call leaves, in either drive's history
own_shared : (a : Deed) (s : Pair) → after (shown s) (shared a s) ≡ state_at s.own (leaves_own a s).state.board
own_shared a s = amended.carry_all s.own s.state.board (map board_order (carries_out a s)) ∙ ap (state_at s.own) (sym (own_board a s))

other_shared : (a : Deed) (s : Pair) → after (shown (exchanged s)) (shared a s) ≡ state_at s.other (leaves_own a s).state.board
other_shared a s =
    let B = s.state.board in
    amended.carry_all s.other B (map board_order (carries_out a s))
    ∙ ap (state_at s.other) (sym (own_board a s
    ∙ carries_alike (λ (d : Drive) (os : List Order). carried_all (orders.doing d) B (map board_order os)) (none_board B)
    (λ c d ec ep os. all_alike c d ec ep B (map board_order os)) a s))

abbrev pub ran_plain : Pair → plainly.State
ran_plain s = state_at s.own (ran_state' s).board

pub due_state : (s : Pair) → after (shown s) (acts_for (due s)) ≡ ran_plain s
due_state s = amended.carry_all s.own s.state.board (map board_order (due s))
    ∙ ap (state_at s.own) (sym (ap (λ (t : BoardTables). t.board) (due_ran s) ∙ carried_board s.own s.state (due s)))

-- ---- what a call is beside: a slot of its own drive

then_slot : (s : Pair) → first_checks s ≡ Ok tt → slot_check s.own (ran_state' s).board ≡ Ok tt
then_slot s e =
    let v = clear_valid (shown s) (share_lent s.own s.other s.state (length s.list) e).own in
    let long = v.long in
    let q = ap (λ (t : BoardTables). length t.board) (due_ran s) in
    let l = ap (λ (B : List ℕ). length B) (carried_board s.own s.state (due s)) in
    let m = all_length s.own s.state.board (map board_order (due s)) in
    slot_clear (ran_plain s) (record { at = v.at; long = omega arith })

slot_alone : (s : Pair) (k : Check) → first_checks s ≡ k
    → after (state_at s.own (if_clear k (turn_state s.own (ran_state' s)) s.state).board) (if_clear k (Slot ∷ []) [])
    ≡ state_at (if_clear k (moved_on s.own) s.own) (if_clear k (turn_state s.own (ran_state' s)) s.state).board
unfolding after
slot_alone s (Ok tt) e = rw (then_slot s e) refl
slot_alone s (Err r) e = refl

own_alone : (a : Deed) (s : Pair) → after (state_at s.own (leaves_own a s).state.board) (alone a s) ≡ shown (leaves_own a s)
unfolding after
own_alone (Changes o) s = refl
own_alone Slots s = slot_alone s (first_checks s) refl
own_alone (Fetches t) s = refl

-- ---- the record and the board

pub projected_one : (t : Turn) (s : Pair) → shown (leaves t s) ≡ after (shown s) (stands_for t s)
projected_one (Own a) s = sym (after_append (shown s) (shared a s) (alone a s)
    ∙ ap (λ (u : plainly.State). after u (alone a s)) (own_shared a s)
    ∙ own_alone a s)
projected_one (Other a) s = sym (other_shared a (exchanged s))

-- every call is one that may stand in such a history
pub all_so : (s : Pair) (turns : List Turn) → Each leaves (λ t u. Unit {0}) s turns
unfolding Each
all_so s [] = tt
all_so s (t ∷ turns) = (tt, all_so (leaves t s) turns)

-- The record of the own drive and the board after any calls of both are those after the plain calls that they stand for.
pub projected : (s : Pair) (turns : List Turn) → shown (leaves_all s turns) ≡ after (shown s) (plain s turns)
projected s turns = amended.projected leaves shown stands_for (λ t u. Unit {0}) (λ t u ok. projected_one t u) s turns (all_so s turns)

-- ---- the leaves given

slot_given : (s : Pair) (k : Check) → first_checks s ≡ k
    → on_leaf (served_answer_by k s.own (ran_state' s)) (if_clear k (turn_state s.own (ran_state' s)) s.state).board
    ≡ names (log (state_at s.own (if_clear k (turn_state s.own (ran_state' s)) s.state).board) (if_clear k (Slot ∷ []) []))
unfolding names log
slot_given s (Err r) e = rw (number_some r) refl
slot_given s (Ok tt) e = rw (then_slot s e) refl

own_given : (a : Deed) (s : Pair) → given_own a s ≡ names (log (state_at s.own (leaves_own a s).state.board) (alone a s))
unfolding names log
own_given (Changes o) s = refl
own_given Slots s = slot_given s (first_checks s) refl
own_given (Fetches t) s = refl

pub given_one : (t : Turn) (s : Pair) → leaf_given t s ≡ names (log (shown s) (stands_for t s))
given_one (Own a) s = own_given a s
    ∙ ap (λ (u : plainly.State). names (log u (alone a s))) (sym (own_shared a s))
    ∙ sym (names_append (shown s) (shared a s) (alone a s) ∙ rw (amended.acts_names (shown s) (map board_order (carries_out a s))) refl)
given_one (Other a) s = sym (amended.acts_names (shown s) (map board_order (carries_out a (exchanged s))))

-- The names on the leaves that the own drive's slots give are those that the plain calls serve.
pub given_same : (s : Pair) (turns : List Turn) → leaves_given s turns ≡ names (log (shown s) (plain s turns))
given_same s turns = amended.names_projected leaves shown stands_for (λ t u. Unit {0}) (λ t u ok. projected_one t u) leaf_given (λ t u ok. given_one t u) s turns (all_so s turns)

-- ---- what is held

look_held : (hs : List Stream) (u : plainly.State) (k : Check) → held_from hs (log u (if_clear k (Slot ∷ []) [])) ≡ hs
unfolding held_from log
look_held hs u (Ok tt) = same_either (eqb (says Slot u).number 0) hs
look_held hs u (Err r) = refl

alone_held : (hs : List Stream) (u : plainly.State) (a : Deed) (s : Pair) → held_from hs (log u (alone a s)) ≡ hs
unfolding held_from log
alone_held hs u (Changes o) s = refl
alone_held hs u Slots s = look_held hs u (first_checks s)
alone_held hs u (Fetches t) s = refl

none_held : (B : List ℕ) (hs : List Stream) (a b : Drive) → held_from hs (log (state_at a B) (acts_for [])) ≡ held_from hs (log (state_at b B) (acts_for []))
unfolding acts_of held_from log
none_held B hs a b = refl

-- the orders that a call carries out are answered alike in either drive's history
pub shared_held : (hs : List Stream) (a : Deed) (s : Pair) → held_from hs (log (shown s) (shared a s)) ≡ held_from hs (log (shown (exchanged s)) (shared a s))
shared_held hs a s =
    let B = s.state.board in
    carries_alike (λ (d : Drive) (os : List Order). held_from hs (log (state_at d B) (acts_for os))) (none_held B hs)
    (λ c d ec ep os. amended.held_alike c d ec ep B hs (map board_order os)) a s

pub own_held : (hs : List Stream) (a : Deed) (s : Pair) → held_from hs (log (shown s) (stands_for (Own a) s)) ≡ held_from hs (log (shown s) (shared a s))
own_held hs a s = held_append hs (shown s) (shared a s) (alone a s)
    ∙ alone_held (held_from hs (log (shown s) (shared a s))) (after (shown s) (shared a s)) a s

held_one : (hs : List Stream) (t : Turn) (s : Pair) → held_next hs t s ≡ held_from hs (log (shown s) (stands_for t s))
held_one hs (Own a) s = sym (own_held hs a s)
held_one hs (Other a) s = shared_held hs a (exchanged s)

pub held_plain : (hs : List Stream) (s : Pair) (turns : List Turn) → held_through hs s turns ≡ held_from hs (log (shown s) (plain s turns))
held_plain hs s turns = amended.held_projected leaves shown stands_for (λ t u. Unit {0}) (λ t u ok. projected_one t u) held_next (λ gs t u ok. held_one gs t u) hs s turns (all_so s turns)

-- and the other drive sees the same held.
pub held_turned : (hs : List Stream) (s : Pair) (turns : List Turn) → held_through hs (exchanged s) (turned_all turns) ≡ held_through hs s turns
unfolding following
held_turned hs s [] = refl
held_turned hs s (Own a ∷ rest) = held_turned (held_own hs a s) (leaves (Own a) s) rest
held_turned hs s (Other a ∷ rest) = held_turned (held_own hs a (exchanged s)) (leaves (Other a) s) rest
