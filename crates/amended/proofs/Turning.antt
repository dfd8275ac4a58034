-- Every history of calls for two drives, up to an open or a read that is done, leaves a drive's record and the board, and serves the names at its slots, of the
-- plain history of that drive that it stands for. Shown for the own drive; the other's is the same history with the records exchanged.
-- Assumes nothing.
use mathlib.Core.Path.{◌≡◌, refl, sym, ap, ◌∙◌}
use mathlib.Core.Bool.{true, false}
use mathlib.Core.List.{List, [], ◌∷◌}
use Prim.Native.Nat.{ℕ}
use lib.ListN.{length}
use Rattle.general.proofs.Laws.{clash, by_bool}
use Rattle.calls.specs.declared.Drive.{Drive}
use Rattle.calls.specs.Types.{Check}
use Rattle.std.specs.Prelude.{Ok, Err}
use Rattle.calls.specs.Refusals.{slot_check}
use Rattle.calls.specs.Answers.{answered}
use Rattle.calls.specs.Results.{if_clear, moved_on, served_name, served_leaf, served_passed, served_round, refreshed_board}
use Rattle.calls.proofs.Laws.{number_some, is_clear_lem, not_clear}
use Rattle.demands.specs.Histories.{Act, Slot, Round, Report, State, does, after, log}
use Rattle.demands.specs.Rounds.{names}
use Rattle.demands.proofs.Laws.{state_at, after_append, names_append}
use Rattle.waiting.specs.declared.Order.{Order}
use Rattle.waiting.specs.Layout.{too_short, waiting}
use Rattle.waiting.specs.Carrying.{carried_all}
use Rattle.orders.specs.Types.{Way}
use Rattle.orders.specs.declared.Moment.TheVariants as moment
use Rattle.orders.specs.Results.{add_order, remove_order, carried_board, doing, ran_board, board_by}
use Rattle.orders.proofs.Laws.{if_slot}
use Rattle.drives.specs.Checks.{both_start}
use Rattle.drives.specs.Results.{board_then}
use Rattle.drives.proofs.Laws.{pair_clear, pair_vouch, now_both, both_alike, all_alike, fresh_swap, fresh_one_drive}
use Rattle.amended.specs.Histories.{through}
use Rattle.amended.specs.Carried.{acts_of}
use Rattle.amended.specs.Deeds as one
use Rattle.amended.specs.Deeds.{Deed, Opens, Reads, Adds, Removes, Slots, Rounds, Reports, Saves, Fetches, Refreshes, open_checks, read_checks}
use Rattle.amended.specs.Turns.{Pair, exchanged, seen, shown, first_checks, look_checks, fresh_checks, way_at, leaves_own, Turn, Own, Other, leaves, leaves_all, turned_all, restarts, Unbroken, due, if_now, carries_out, lays_out, shared, alone, stands_for, plain, name_in, name_own, name_served, names_served}
use Rattle.amended.proofs.Carrying.{carry_all, acts_names, way_alike, run_alike}
use Rattle.amended.proofs.Projecting as projecting

-- ---- the other drive's history

pub turned_leaves : (s : Pair) (turns : List Turn) → leaves_all (exchanged s) (turned_all turns) ≡ exchanged (leaves_all s turns)
unfolding through
turned_leaves s [] = refl
turned_leaves s (Own a ∷ turns) = turned_leaves (leaves (Own a) s) turns
turned_leaves s (Other a ∷ turns) = turned_leaves (leaves (Other a) s) turns

-- Neither drive's calls move the other's record, but for an open or a read that is done.
pub other_stays : (a : Deed) (s : Pair) → one.restarts a (seen s) ≡ false → (leaves_own a s).other ≡ s.other
other_stays (Opens C) s e = rw (not_clear (open_checks (seen s) C) e).1 refl
other_stays (Reads form S) s e = rw (not_clear (read_checks (seen s) form S) e).1 refl
other_stays (Adds x w) s e = refl
other_stays (Removes x) s e = refl
other_stays Slots s e = refl
other_stays (Rounds O) s e = refl
other_stays (Reports x) s e = refl
other_stays (Saves form O) s e = refl
other_stays (Fetches t) s e = refl
other_stays Refreshes s e = refl

-- ---- what a call carries out is all that it does to the board

-- the board once the list has run, if it runs
abbrev pub ran_board_of : Pair → List ℕ
ran_board_of s = board_then s.own s.other s.board s.list

abbrev pub ran_state : Pair → State
ran_state s = state_at s.own (ran_board_of s)

way_board : (d : Drive) (B : List ℕ) (o : Order) (k : Way) → board_by k (carried_board d B o) B ≡ carried_all (doing d) B (if_now k o)
unfolding carried_all
way_board d B o (Err r) = refl
way_board d B o (Ok moment.Later) = refl
way_board d B o (Ok moment.Now) = refl

due_board : (s : Pair) → carried_all (doing s.own) s.board (due s) ≡ ran_board_of s
unfolding due board_then ran_board carried_all
due_board s = by_bool (both_start s.own s.other) (λ t. rw t refl) (λ f. rw f refl)

slot_board : (s : Pair) (k : Check) → if_clear k (ran_board_of s) s.board ≡ carried_all (doing s.own) s.board (if_clear k (due s) [])
unfolding carried_all
slot_board s (Ok tt) = sym (due_board s)
slot_board s (Err r) = refl

own_board : (a : Deed) (s : Pair) → one.restarts a (seen s) ≡ false → lays_out a s ≡ false → (leaves_own a s).board ≡ carried_all (doing s.own) s.board (carries_out a s)
unfolding carried_all
own_board (Opens C) s e f = rw (not_clear (open_checks (seen s) C) e).1 refl
own_board (Reads form S) s e f = rw (not_clear (read_checks (seen s) form S) e).1 refl
own_board (Adds x w) s e f = way_board s.own s.board (add_order x w) (way_at (add_order x w) s)
own_board (Removes x) s e f = way_board s.own s.board (remove_order x) (way_at (remove_order x) s)
own_board Slots s e f = slot_board s (first_checks s)
own_board (Rounds O) s e f = refl
own_board (Reports x) s e f = refl
own_board (Saves form O) s e f = refl
own_board (Fetches t) s e f = refl
own_board Refreshes s e f = rw (not_clear (fresh_checks s) f).1 refl

-- ---- a call carries orders out only where the two records have equal C and p: what hangs on these alone is the same at both

module _ {X : Type 0} (f : Drive → List Order → X) (none : (a b : Drive) → f a [] ≡ f b [])
    (some : (a b : Drive) → a.capacity ≡ b.capacity → a.position ≡ b.position → (os : List Order) → f a os ≡ f b os) where
  change_alike : (s : Pair) (o : Order) → f s.own (if_now (way_at o s) o) ≡ f s.other (if_now (way_at o s) o)
  change_alike s o = way_alike f none some s.own s.other o (way_at o s) (λ e.
      let n = now_both s.own s.other s.board s.list o e in
      ((pair_clear s.own s.other s.board (too_short (length s.list)) n.clear).same, n.own ∙ sym n.other))

  pub carries_alike : (a : Deed) (s : Pair) → f s.own (carries_out a s) ≡ f s.other (carries_out a s)
  unfolding due
  carries_alike (Opens C) s = none s.own s.other
  carries_alike (Reads form S) s = none s.own s.other
  carries_alike (Adds x w) s = change_alike s (add_order x w)
  carries_alike (Removes x) s = change_alike s (remove_order x)
  carries_alike Slots s =
      run_alike f none some s.own s.other (first_checks s) (both_start s.own s.other) (waiting s.list) (both_alike s.own s.other s.board (length s.list))
  carries_alike (Rounds O) s = none s.own s.other
  carries_alike (Reports x) s = none s.own s.other
  carries_alike (Saves form O) s = none s.own s.other
  carries_alike (Fetches t) s = none s.own s.other
  carries_alike Refreshes s = none s.own s.other

other_board : (a : Deed) (s : Pair) → carried_all (doing s.own) s.board (carries_out a s) ≡ carried_all (doing s.other) s.board (carries_out a s)
unfolding carried_all
other_board a s =
    carries_alike (λ (d : Drive) (os : List Order). carried_all (doing d) s.board os) (λ c d. refl) (λ c d ec ep os. all_alike c d ec ep s.board os) a s

-- a fresh layout leaves the board that the plain one leaves, at either record
lays_board : (a : Deed) (s : Pair) → lays_out a s ≡ true
    → (refreshed_board s.own s.board ≡ (leaves_own a s).board) × (refreshed_board s.other s.board ≡ (leaves_own a s).board)
lays_board (Opens C) s t = clash t refl
lays_board (Reads form S) s t = clash t refl
lays_board (Adds x w) s t = clash t refl
lays_board (Removes x) s t = clash t refl
lays_board Slots s t = clash t refl
lays_board (Rounds O) s t = clash t refl
lays_board (Reports x) s t = clash t refl
lays_board (Saves form O) s t = clash t refl
lays_board (Fetches u) s t = clash t refl
lays_board Refreshes s t =
    let e = is_clear_lem (fresh_checks s) t in
    let w = fresh_swap s.own s.other s.board in
    let o = fresh_one_drive s.other s.own s.board (sym w.0 ∙ e) in
    (sym (fresh_one_drive s.own s.other s.board e).1, sym (w.1 ∙ o.1))

-- the acts of both drives leave the board that the call leaves, in either drive's history
own_shared : (a : Deed) (s : Pair) → one.restarts a (seen s) ≡ false → after (shown s) (shared a s) ≡ state_at s.own (leaves_own a s).board
unfolding after
own_shared a s e = by_bool (lays_out a s)
    (λ t. rw t (ap (state_at s.own) (lays_board a s t).0))
    (λ f. rw f (carry_all s.own s.board (carries_out a s) ∙ ap (state_at s.own) (sym (own_board a s e f))))

other_shared : (a : Deed) (s : Pair) → one.restarts a (seen s) ≡ false → after (shown (exchanged s)) (shared a s) ≡ state_at s.other (leaves_own a s).board
unfolding after
other_shared a s e = by_bool (lays_out a s)
    (λ t. rw t (ap (state_at s.other) (lays_board a s t).1))
    (λ f. rw f (carry_all s.other s.board (carries_out a s) ∙ ap (state_at s.other) (sym (own_board a s e f ∙ other_board a s))))

pub due_state : (s : Pair) → after (shown s) (acts_of (due s)) ≡ ran_state s
due_state s = carry_all s.own s.board (due s) ∙ ap (state_at s.own) (due_board s)

-- ---- what a call is beside: an act of its own drive

then_slot : (s : Pair) → first_checks s ≡ Ok tt → slot_check s.own (ran_board_of s) ≡ Ok tt
unfolding board_then
then_slot s e = if_slot (both_start s.own s.other) s.own s.board s.list (pair_vouch s.own s.other s.board (length s.list) e).0

slot_alone : (s : Pair) (k : Check) → first_checks s ≡ k
    → after (state_at s.own (if_clear k (ran_board_of s) s.board)) (if_clear k (Slot ∷ []) []) ≡ state_at (if_clear k (moved_on s.own) s.own) (if_clear k (ran_board_of s) s.board)
unfolding after
slot_alone s (Ok tt) e = rw (then_slot s e) refl
slot_alone s (Err r) e = refl

look_alone : (u : State) (x : Act) (k : Check) → does x u ≡ u → after u (if_clear k (x ∷ []) []) ≡ u
unfolding after
look_alone u x (Ok tt) e = e
look_alone u x (Err r) e = refl

own_alone : (a : Deed) (s : Pair) → one.restarts a (seen s) ≡ false → after (state_at s.own (leaves_own a s).board) (alone a s) ≡ shown (leaves_own a s)
unfolding after
own_alone (Opens C) s e = rw (not_clear (open_checks (seen s) C) e).1 refl
own_alone (Reads form S) s e = rw (not_clear (read_checks (seen s) form S) e).1 refl
own_alone (Adds x w) s e = refl
own_alone (Removes x) s e = refl
own_alone Slots s e = slot_alone s (first_checks s) refl
own_alone (Rounds O) s e = look_alone (shown s) (Round O) (look_checks s) refl
own_alone (Reports x) s e = look_alone (shown s) (Report x) (look_checks s) refl
own_alone (Saves form O) s e = refl
own_alone (Fetches t) s e = refl
own_alone Refreshes s e = refl

-- ---- the record and the board

pub projected_one : (t : Turn) (s : Pair) → restarts t s ≡ false → shown (leaves t s) ≡ after (shown s) (stands_for t s)
projected_one (Own a) s e = sym (after_append (shown s) (shared a s) (alone a s)
    ∙ ap (λ (u : State). after u (alone a s)) (own_shared a s e)
    ∙ own_alone a s e)
projected_one (Other a) s e =
    ap (λ (d : Drive). state_at d (leaves_own a (exchanged s)).board) (other_stays a (exchanged s) e) ∙ sym (other_shared a (exchanged s) e)

-- The record of the own drive and the board after any calls of both are those after the plain calls that they stand for.
pub projected : (s : Pair) (turns : List Turn) → Unbroken s turns → shown (leaves_all s turns) ≡ after (shown s) (plain s turns)
projected = projecting.projected leaves shown stands_for (λ t s. restarts t s ≡ false) projected_one

-- ---- the names served

slot_names : (s : Pair) (k : Check) → first_checks s ≡ k
    → name_in (answered k (served_name s.own (ran_board_of s) ∷ served_leaf s.own ∷ served_passed s.own ∷ served_round s.own ∷ []))
    ≡ names (log (state_at s.own (if_clear k (ran_board_of s) s.board)) (if_clear k (Slot ∷ []) []))
unfolding names log
slot_names s (Err r) e = rw (number_some r) refl
slot_names s (Ok tt) e = rw (then_slot s e) refl

look_names : (u : State) (x : Act) (k : Check) → names (log u (x ∷ [])) ≡ [] → [] ≡ names (log u (if_clear k (x ∷ []) []))
unfolding names log
look_names u x (Ok tt) e = sym e
look_names u x (Err r) e = refl

own_names : (a : Deed) (s : Pair) → name_own a s ≡ names (log (state_at s.own (leaves_own a s).board) (alone a s))
unfolding names log
own_names (Opens C) s = refl
own_names (Reads form S) s = refl
own_names (Adds x w) s = refl
own_names (Removes x) s = refl
own_names Slots s = slot_names s (first_checks s) refl
own_names (Rounds O) s = look_names (shown s) (Round O) (look_checks s) refl
own_names (Reports x) s = look_names (shown s) (Report x) (look_checks s) refl
own_names (Saves form O) s = refl
own_names (Fetches t) s = refl
own_names Refreshes s = refl

shared_names : (u : State) (a : Deed) (s : Pair) → names (log u (shared a s)) ≡ []
unfolding names log
shared_names u a s = by_bool (lays_out a s) (λ t. rw t refl) (λ f. rw f (acts_names u (carries_out a s)))

pub names_one : (t : Turn) (s : Pair) → restarts t s ≡ false → name_served t s ≡ names (log (shown s) (stands_for t s))
names_one (Own a) s e = own_names a s
    ∙ ap (λ (u : State). names (log u (alone a s))) (sym (own_shared a s e))
    ∙ sym (names_append (shown s) (shared a s) (alone a s) ∙ rw (shared_names (shown s) a s) refl)
names_one (Other a) s e = sym (shared_names (shown s) a (exchanged s))

-- The names that the own drive's slots serve are those that the plain calls serve.
pub names_same : (s : Pair) (turns : List Turn) → Unbroken s turns → names_served s turns ≡ names (log (shown s) (plain s turns))
names_same = projecting.names_projected leaves shown stands_for (λ t s. restarts t s ≡ false) projected_one name_served names_one
