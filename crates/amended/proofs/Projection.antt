-- Every history of calls with the list, up to an open or a read that is done, leaves the record and the board, and serves the names, of the plain history that it
-- stands for; and what its calls answer at once is what the plain calls say. Assumes nothing.
use mathlib.Core.Path.{◌≡◌, refl, sym, ap, ◌∙◌}
use mathlib.Core.Bool.{false, cond}
use mathlib.Core.List.{List, [], ◌∷◌}
use Prim.Native.Nat.{ℕ}
use lib.Dec.{eqb}
use lib.ListN.{length, get_or}
use Rattle.general.proofs.Laws.{by_bool}
use Rattle.calls.specs.Types.{Check}
use Rattle.std.specs.Prelude.{Ok, Err}
use Rattle.calls.specs.Answers.{answered}
use Rattle.calls.specs.Results.{if_clear, moved_on, served_name, served_leaf, served_passed, served_round}
use Rattle.calls.proofs.Laws.{number_some, not_clear}
use Rattle.demands.specs.Histories.{Add, Slot, State, does, says, after, log}
use Rattle.demands.specs.Rounds.{names}
use Rattle.demands.proofs.Laws.{state_at, after_append, names_append}
use Rattle.waiting.specs.declared.Order.{Order}
use Rattle.waiting.specs.Layout.{waiting}
use Rattle.orders.specs.Types.{Way}
use Rattle.orders.specs.declared.Moment.TheVariants as moment
use Rattle.orders.specs.Results.{add_order, remove_order, carried_board, ran_board, board_by, board_then}
use Rattle.orders.proofs.Laws.{then_slot}
use Rattle.amended.specs.Carried.{acts_of}
use Rattle.amended.specs.Deeds.{Deed, Opens, Reads, Adds, Removes, Slots, Rounds, Reports, Saves, Fetches, Refreshes, Desk, open_checks, read_checks, first_checks, way_at, answers, leaves, leaves_all, restarts, Unbroken, due, made_by, slot_by, stands_for, plain, name_served}
use Rattle.amended.proofs.Carrying.{carry_one, carry_all, act_names, acts_names, add_says}
use Rattle.amended.proofs.Projecting as projecting

-- the record and the board once the list has run
abbrev pub ran_state : Desk → State
ran_state s = state_at s.state.drive (board_then s.state.drive s.state.board s.list)

pub due_state : (s : Desk) → after s.state (acts_of (due s)) ≡ ran_state s
unfolding due board_then ran_board acts_of after
due_state s = by_bool (eqb s.state.drive.position 1)
    (λ t. rw t (carry_all s.state.drive s.state.board (waiting s.list)))
    (λ f. rw f refl)

-- ---- the record and the board

order_same : (s : State) (o : Order) (k : Way) → state_at s.drive (board_by k (carried_board s.drive s.board o) s.board) ≡ after s (made_by k o)
unfolding after
order_same s o (Err r) = refl
order_same s o (Ok moment.Later) = refl
order_same s o (Ok moment.Now) = sym (carry_one s.drive s.board o)

slot_same : (s : Desk) (k : Check) → first_checks s ≡ k
    → state_at (if_clear k (moved_on s.state.drive) s.state.drive) (if_clear k (board_then s.state.drive s.state.board s.list) s.state.board)
    ≡ after s.state (slot_by k (acts_of (due s)))
unfolding after
slot_same s (Err r) e = refl
slot_same s (Ok tt) e =
    let c = then_slot s.state.drive s.state.board s.list (length s.list) e in
    sym (after_append s.state (acts_of (due s)) (Slot ∷ [])
    ∙ ap (λ (t : State). does Slot t) (due_state s)
    ∙ rw c refl)

pub projected_one : (a : Deed) (s : Desk) → restarts a s ≡ false → (leaves a s).state ≡ after s.state (stands_for a s)
unfolding after
projected_one (Opens C) s e = rw (not_clear (open_checks s C) e).1 refl
projected_one (Reads form S) s e = rw (not_clear (read_checks s form S) e).1 refl
projected_one (Adds x w) s e = order_same s.state (add_order x w) (way_at (add_order x w) s)
projected_one (Removes x) s e = order_same s.state (remove_order x) (way_at (remove_order x) s)
projected_one Slots s e = slot_same s (first_checks s) refl
projected_one (Rounds O) s e = refl
projected_one (Reports x) s e = refl
projected_one (Saves form O) s e = refl
projected_one (Fetches t) s e = refl
projected_one Refreshes s e = refl

-- The record and the board after any calls with the list are those after the plain calls that they stand for.
pub projected : (s : Desk) (rest : List Deed) → Unbroken s rest → (leaves_all s rest).state ≡ after s.state (plain s rest)
projected = projecting.projected leaves (λ s. s.state) stands_for (λ a s. restarts a s ≡ false) projected_one

-- ---- the names served

order_names : (s : State) (o : Order) (k : Way) → [] ≡ names (log s (made_by k o))
unfolding names log
order_names s o (Err r) = refl
order_names s o (Ok moment.Later) = refl
order_names s o (Ok moment.Now) = sym (act_names s o)

-- the slot that follows the list's orders says what the plain slot says
slot_names : (s : Desk) (k : Check) → first_checks s ≡ k
    → cond (eqb (answered k (served_name s.state.drive (ran_state s).board ∷ served_leaf s.state.drive ∷ served_passed s.state.drive ∷ served_round s.state.drive ∷ [])).number 0)
    (get_or (answered k (served_name s.state.drive (ran_state s).board ∷ served_leaf s.state.drive ∷ served_passed s.state.drive ∷ served_round s.state.drive ∷ [])).values 0 0 ∷ []) []
    ≡ names (log s.state (slot_by k (acts_of (due s))))
unfolding names log
slot_names s (Err r) e = rw (number_some r) refl
slot_names s (Ok tt) e =
    let c = then_slot s.state.drive s.state.board s.list (length s.list) e in
    sym (names_append s.state (acts_of (due s)) (Slot ∷ [])
    ∙ rw (acts_names s.state (due s), due_state s, c) refl)

pub names_one : (a : Deed) (s : Desk) → restarts a s ≡ false → name_served a s ≡ names (log s.state (stands_for a s))
unfolding names log
names_one (Opens C) s e = refl
names_one (Reads form S) s e = refl
names_one (Adds x w) s e = order_names s.state (add_order x w) (way_at (add_order x w) s)
names_one (Removes x) s e = order_names s.state (remove_order x) (way_at (remove_order x) s)
names_one Slots s e = slot_names s (first_checks s) refl
names_one (Rounds O) s e = refl
names_one (Reports x) s e = refl
names_one (Saves form O) s e = refl
names_one (Fetches t) s e = refl
names_one Refreshes s e = refl

-- ---- the answers

-- a change that is made at once is answered what the plain call says
pub add_made : (s : Desk) (x w : ℕ) → way_at (add_order x w) s ≡ Ok moment.Now → answers (Adds x w) s ≡ says (Add x w) s.state
add_made s x w e = rw e (add_says s.state x w)
