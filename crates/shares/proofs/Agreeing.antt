-- Two is shared: where the board is good, the tables are zero and long enough, and no over-allocated order is given or waits, a change and a slot with tables are
-- those without, and the tables stay as they are. Assumes nothing.
use mathlib.Core.Path.{◌≡◌, refl, sym, ap, ap₂, ◌∙◌}
use mathlib.Core.Bool.{Bool, true, false}
use mathlib.Core.List.{List, [], ◌∷◌}
use Prim.Native.Nat.{ℕ, max, ◌<◌}
use native.Mathlib.Decide.{ℕ_discrete}
use lib.ListN.{length}
use Rattle.general.proofs.Laws.{or_false}
use Rattle.pieces.specs.Board.{good}
use Rattle.sequences.proofs.Laws.{leaf_below_lem}
use Rattle.tables.proofs.Laws.{Zero, plain_fits, plain_settled, plain_turn}
use Rattle.calls.specs.declared.Drive.{Drive}
use Rattle.calls.specs.Types.{Check}
use Rattle.std.specs.Prelude.{Ok, Err}
use Rattle.calls.specs.Refusals.{remove_check}
use Rattle.calls.specs.Results.{if_clear, removed_board, served_leaf}
use Rattle.calls.proofs.Laws.{slot_position, then_none}
use Rattle.pieces.specs.Tidying as tidying
use Rattle.waiting.specs.declared.Order.{Order}
use Rattle.waiting.specs.declared.Outcome.{Outcome}
use Rattle.waiting.specs.Layout.{too_short, waiting, settled, taken_list}
use Rattle.waiting.specs.Carrying.{carried_all, outcomes}
use Rattle.orders.specs.Types.{Way}
use Rattle.orders.specs.declared.Moment.TheVariants as moment
use Rattle.orders.specs.Checks.{order_check, waits_if, way_by}
use Rattle.orders.specs.Results as plain
use Rattle.drives.specs.Checks as pair
use Rattle.drives.specs.Checks.{pair_check, both_start}
use Rattle.drives.specs.Results as drives
use Rattle.drives.proofs.Laws.{pair_clear}
use Rattle.shares.specs.States.{BoardTables, lent}
use Rattle.shares.specs.Checks.{too_few, share_check, list_check, way_of}
use Rattle.shares.specs.Results.{table_after, carried_state, doing, saying, ran_state, ran_list, state_by, changed, changed_answer, changed_state, changed_list, state_if, list_if, state_then, list_then, turn_state, served_by, served_answer_by, served, served_answer, served_state, served_list}
use Rattle.shares.proofs.Doings.{same_lent, on_plain, remove_state, plain_state}

-- No order of the list is an over-allocated add.
unfoldable pub Plainly : List Order → Type 0
Plainly [] = Unit {0}
Plainly (o ∷ os) = (o.kind ≡ 3 → ⊥) × Plainly os

-- ---- tables of zeros

module _ (d : Drive) (T E F : List ℕ) (t : Zero d.capacity T) (e : Zero d.capacity E) (f : Zero d.capacity F) where
  after_zero : (B : List ℕ) (x : ℕ) (S : List ℕ) → Zero d.capacity S → table_after d B x S ≡ S
  unfolding table_after
  after_zero B x S z = rw (plain_settled d.capacity S z B (tidying.removed d.capacity B x)) (either (remove_check d B x))
    where
      either : (k : Check) → if_clear k S S ≡ S
      either (Ok tt) = refl
      either (Err r) = refl

  removes : (B : List ℕ) (o : Order) → o.kind ≡ 2 → plain.carried_board d B o ≡ removed_board d B o.name
  unfolding plain.carried_board
  removes B o r = rw r refl

  -- an order that is no over-allocated add
  one_state : (B : List ℕ) (o : Order) → (o.kind ≡ 3 → ⊥) → carried_state d (lent B T E F) o ≡ lent (plain.carried_board d B o) T E F
  one_state B o n = elim (ℕ_discrete o.kind 2) [
    | yes r ↦ remove_state d (lent B T E F) o r ∙ same_lent (sym (removes B o r)) (after_zero B o.name T t) (after_zero B o.name E e) (after_zero B o.name F f)
    | no m ↦ plain_state d (lent B T E F) o m n
  ]

  all_state : (B : List ℕ) (os : List Order) → Plainly os → carried_all (doing d) (lent B T E F) os ≡ lent (carried_all (plain.doing d) B os) T E F
  unfolding carried_all Plainly
  all_state B [] p = refl
  all_state B (o ∷ os) p = ap (λ (s : BoardTables). carried_all (doing d) s os) (one_state B o p.0) ∙ all_state (plain.carried_board d B o) os p.1

  all_said : (B : List ℕ) (os : List Order) → Plainly os → outcomes (doing d) (saying d) (lent B T E F) os ≡ outcomes (plain.doing d) (plain.saying d) B os
  unfolding outcomes Plainly
  all_said B [] p = refl
  all_said B (o ∷ os) p = ap₂ (λ (r : Outcome) (rs : List Outcome). r ∷ rs) (ap (λ (q : Order). plain.saying d q B) (on_plain o p.0))
      (ap (λ (s : BoardTables). outcomes (doing d) (saying d) s os) (one_state B o p.0) ∙ all_said (plain.carried_board d B o) os p.1)

  -- a turn
  turn_served : (k : Check) (D : List ℕ) → (k ≡ Ok tt → served_leaf d < d.capacity)
      → (served_by k d (lent D T E F) ≡ plain.served_by k d D) × (served_answer_by k d (lent D T E F) ≡ plain.served_answer_by k d D)
  turn_served (Err r) D h = (refl, refl)
  turn_served (Ok tt) D h = let p = plain_turn d.capacity D T t E (served_leaf d) (h refl) in (rw p.0 refl, rw p.0 refl)

  turn_left : (k : Check) (D B : List ℕ) → (k ≡ Ok tt → served_leaf d < d.capacity)
      → if_clear k (turn_state d (lent D T E F)) (lent B T E F) ≡ lent (if_clear k D B) T E F
  turn_left (Err r) D B h = refl
  turn_left (Ok tt) D B h = let p = plain_turn d.capacity D T t E (served_leaf d) (h refl) in rw p.1 refl

-- ---- the calls

module _ (a b : Drive) (B T E F L : List ℕ) (t : Zero a.capacity T) (e : Zero a.capacity E) (f : Zero a.capacity F)
    (long : too_few (max a.capacity b.capacity) (lent B T E F) ≡ false) (sound : good a.capacity B ≡ true) where
  -- The checks are those without tables,
  pub check_agrees : (short : Bool) → share_check a b (lent B T E F) short ≡ pair_check a b B short
  unfolding share_check
  check_agrees short = rw (long, or_false short, plain_fits a.capacity B T E F t e f, sound) (then_none (pair_check a b B short))

  pub way_agrees : (o : Order) → way_of a b (lent B T E F) L o ≡ pair.way_of a b B L o
  unfolding way_of pair.way_of
  way_agrees o = ap (λ (k : Check). way_by k (waits_if (both_start a b) L) (order_check a.capacity B o)) (check_agrees (too_short (length L)))

  state_by_lem : (k : Way) (o : Order) → (o.kind ≡ 3 → ⊥)
      → state_by k (carried_state a (lent B T E F) o) (lent B T E F) ≡ lent (plain.board_by k (plain.carried_board a B o) B) T E F
  state_by_lem (Err r) o n = refl
  state_by_lem (Ok moment.Later) o n = refl
  state_by_lem (Ok moment.Now) o n = one_state a T E F t e f B o n

  -- and so is a change that is no over-allocated add,
  pub change_two_is_shared : (o : Order) → (o.kind ≡ 3 → ⊥)
      → (changed a b (lent B T E F) L o ≡ drives.changed a b B L o) × (changed_answer a b (lent B T E F) L o ≡ drives.changed_answer a b B L o)
      × (changed_state a b (lent B T E F) L o ≡ lent (drives.changed_board a b B L o) T E F) × (changed_list a b (lent B T E F) L o ≡ drives.changed_list a b B L o)
  change_two_is_shared o n =
      let w = way_agrees o in
      let q = on_plain o n in (
        ap₂ (λ (k : Way) (p : Order). plain.changed_by k a B L p) w q,
        ap₂ (λ (k : Way) (p : Order). plain.changed_answer_by k a B L p) w q,
        ap (λ (k : Way). state_by k (carried_state a (lent B T E F) o) (lent B T E F)) w ∙ state_by_lem (pair.way_of a b B L o) o n,
        ap (λ (k : Way). plain.list_by k (taken_list L o) L) w,
      )

  state_if_lem : (begins : Bool) → Plainly (waiting L) → state_if begins a (lent B T E F) L ≡ lent (plain.board_if begins a B L) T E F
  unfolding ran_state plain.ran_board
  state_if_lem true p = all_state a T E F t e f B (waiting L) p
  state_if_lem false p = refl

  list_if_lem : (begins : Bool) → Plainly (waiting L) → list_if begins a (lent B T E F) L ≡ plain.list_if begins a B L
  unfolding ran_list plain.ran_list
  list_if_lem true p = ap (λ (rs : List Outcome). settled L rs) (all_said a T E F t e f B (waiting L) p)
  list_if_lem false p = refl

  state_then_lem : Plainly (waiting L) → state_then a b (lent B T E F) L ≡ lent (drives.board_then a b B L) T E F
  unfolding state_then drives.board_then
  state_then_lem p = state_if_lem (both_start a b) p

  list_then_lem : Plainly (waiting L) → list_then a b (lent B T E F) L ≡ drives.list_then a b B L
  unfolding list_then drives.list_then
  list_then_lem p = list_if_lem (both_start a b) p

  -- and a slot, where none waits.
  pub slot_two_is_shared : Plainly (waiting L)
      → (served a b (lent B T E F) L ≡ drives.served a b B L) × (served_answer a b (lent B T E F) L ≡ drives.served_answer a b B L)
      × (served_state a b (lent B T E F) L ≡ lent (drives.served_board a b B L) T E F) × (served_list a b (lent B T E F) L ≡ drives.served_list a b B L)
  slot_two_is_shared p =
      let k = pair.list_check a b B (length L) in
      let c : list_check a b (lent B T E F) (length L) ≡ pair.list_check a b B (length L) = check_agrees (too_short (length L)) in
      let z = state_then_lem p in
      let below : pair.list_check a b B (length L) ≡ Ok tt → served_leaf a < a.capacity = λ h. leaf_below_lem a.capacity a.position (slot_position a B (pair_clear a b B (too_short (length L)) h).own) in
      let s = turn_served a T E F t e f k (drives.board_then a b B L) below in (
        ap₂ (λ (j : Check) (u : BoardTables). served_by j a u) c z ∙ s.0,
        ap₂ (λ (j : Check) (u : BoardTables). served_answer_by j a u) c z ∙ s.1,
        ap₂ (λ (j : Check) (u : BoardTables). if_clear j (turn_state a u) (lent B T E F)) c z ∙ turn_left a T E F t e f k (drives.board_then a b B L) B below,
        ap₂ (λ (j : Check) (M : List ℕ). if_clear j M L) c (list_then_lem p),
      )
