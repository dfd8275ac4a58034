-- The laws of the calls with tables that upper crates cite: no second answer fits; what a refusal and a wait leave as it was; that every call keeps the tables
-- fitting the board; what is known once the checks are clear; and that without over-allocated streams the calls are those without tables.
-- Assumes nothing.
use mathlib.Core.Path.{◌≡◌, refl, ap, ◌∙◌}
use mathlib.Core.Bool.{true}
use mathlib.Core.List.{List, [], ◌∷◌}
use Prim.Native.Nat.{ℕ, ◌≤◌}
use lib.ListN.{get_or, length}
use Rattle.general.proofs.Laws.{unique}
use Rattle.tables.specs.Sharing.{lowest}
use Rattle.tables.proofs.Laws.{lowest_held, turn_fits}
use Rattle.calls.specs.declared.Drive.{Drive}
use Rattle.calls.specs.declared.Refusal.{Refusal}
use Rattle.calls.specs.declared.Refusal.TheVariants.{Damaged}
use Rattle.calls.specs.Types.{Check, Served}
use Rattle.std.specs.Prelude.{Ok, Err}
use Rattle.calls.specs.Refusals.{zero_or}
use Rattle.calls.specs.Answers.{Answer, serving_answer}
use Rattle.calls.specs.Results.{served_leaf}
use Rattle.calls.proofs.Laws.{Refuses, refuses, refusal, leaf_held}
use Rattle.waiting.specs.declared.Order.{Order}
use Rattle.waiting.specs.Layout.{too_short, taken, taken_list}
use Rattle.orders.specs.Types.{Ordered, Way}
use Rattle.orders.specs.declared.Declined.TheVariants as declined
use Rattle.orders.specs.declared.Moment.TheVariants as moment
use Rattle.orders.specs.Answers.{ordering_answer, listed}
use Rattle.orders.specs.Results.{add_order, remove_order}
use Rattle.shares.specs.States.{BoardTables, fitting}
use Rattle.shares.specs.Checks.{list_check, way_of, Ready}
use Rattle.shares.specs.Results.{over_order, changed, changed_state, changed_list, state_then, turn_state, served, served_state, served_list}
use Rattle.shares.specs.Promises.{Orders, Serves}
use Rattle.shares.proofs.Readying as readying
use Rattle.shares.proofs.Doings as doings
use Rattle.shares.proofs.Running as running
use Rattle.shares.proofs.Turning as turning
use Rattle.shares.proofs.Answering as answering
-- ---- the checks: what they may answer; once they find nothing both records pass those of slot, have one C, every table is long enough, and the tables fit the board

pub use Rattle.shares.proofs.Answering.{share_within, placed_within, change_still}
pub use Rattle.shares.proofs.Readying.{few_long, placed_there, placed_look, share_paired, share_long, share_ready, list_long, ready_good, ready_change, way_clear, now_ready}
-- ---- what an order of each kind does; every order leaves the lengths, and what a record is ready for

pub use Rattle.shares.proofs.Doings.{same_lent, remove_said, remove_state, over_said, over_state, plain_said, plain_state, carried_rates_length, carried_owed_length, carried_fits, carried_ready, all_ready}
pub use Rattle.shares.proofs.Running.{if_ready, then_ready}
-- ---- two is shared: without over-allocated streams the calls are those of two drives without tables

unfoldable pub use Rattle.shares.proofs.Agreeing.{Plainly}
pub use Rattle.shares.proofs.Agreeing.{check_agrees, way_agrees, change_two_is_shared, slot_two_is_shared}

-- ---- add, over-allocated add, remove

module _ (a b : Drive) (s : BoardTables) (L : List ℕ) (o : Order) where
  pub change_unique : {r q : Ordered} {t u : BoardTables} {F G : List ℕ} → Orders a b s L o r t F → Orders a b s L o q u G → (r ≡ q) × (t ≡ u) × (F ≡ G)
  change_unique p q = (unique p.0 q.0, unique p.2 q.2, unique p.3 q.3)

  -- A refusal of the first checks, or of an order that would wait, changes nothing,
  pub refused_nothing : (r : Refusal) → way_of a b s L o ≡ Err r
      → (changed a b s L o ≡ record { drive = a; answer = Err (declined.Refused r) }) × (changed_state a b s L o ≡ s) × (changed_list a b s L o ≡ L)
  refused_nothing r e = (rw e refl, rw e refl, rw e refl)

  -- and an order that waits the list alone.
  pub waits_list : way_of a b s L o ≡ Ok moment.Later
      → (changed a b s L o ≡ record { drive = a; answer = listed (taken L) }) × (changed_state a b s L o ≡ s) × (changed_list a b s L o ≡ taken_list L o)
  waits_list e = (rw e refl, rw e refl, rw e refl)

  -- What is not done leaves the record, the board and every table; the list too, unless it answers 13.
  pub change_refused : {r : Ordered} {t : BoardTables} {F : List ℕ} → Orders a b s L o r t F → Refuses (ordering_answer r.answer)
      → (r.drive ≡ a) × (t ≡ s) × (((ordering_answer r.answer).number ≡ 13 → ⊥) → F ≡ L)
  change_refused p h =
      let q = change_still (way_of a b s L o) a s L o (refuses p.1 h) in
      (ap (λ (r : Ordered). r.drive) p.0, p.2 ∙ q.0, λ n. p.3 ∙ q.1 (λ e. n (ap (λ (x : Answer). x.number) p.1 ∙ e)))

  -- Tables that fit go on fitting.
  pub change_fits : a.capacity ≤ length s.rates → fitting a.capacity s ≡ true → fitting a.capacity (changed_state a b s L o) ≡ true
  change_fits long fit = go (way_of a b s L o) refl
    where
      go : (k : Way) → way_of a b s L o ≡ k → fitting a.capacity (changed_state a b s L o) ≡ true
      go (Err r) e = rw e fit
      go (Ok moment.Later) e = rw e fit
      go (Ok moment.Now) e = rw e (doings.carried_fits a s long fit o)

-- 4 is not among the numbers.
module _ (a b : Drive) (s : BoardTables) (L : List ℕ) (x w : ℕ) {r : Ordered} {t : BoardTables} {F : List ℕ} where
  pub add_may_lem : Orders a b s L (add_order x w) r t F → zero_or (ordering_answer r.answer).number (1 ∷ 2 ∷ 3 ∷ 5 ∷ 6 ∷ 7 ∷ 14 ∷ 13 ∷ 8 ∷ 10 ∷ []) ≡ true
  add_may_lem p = rw p.1 (answering.add_answers a b s L x w)

  pub over_may : Orders a b s L (over_order x w) r t F → zero_or (ordering_answer r.answer).number (1 ∷ 2 ∷ 3 ∷ 5 ∷ 6 ∷ 7 ∷ 14 ∷ 13 ∷ 8 ∷ 10 ∷ []) ≡ true
  over_may p = rw p.1 (answering.over_answers a b s L x w)

  pub remove_may_lem : Orders a b s L (remove_order x) r t F → zero_or (ordering_answer r.answer).number (1 ∷ 2 ∷ 3 ∷ 5 ∷ 6 ∷ 14 ∷ 13 ∷ 9 ∷ []) ≡ true
  remove_may_lem p = rw p.1 (answering.remove_answers a b s L x)

-- ---- slot

turn_fit : (d : Drive) (s : BoardTables) → Ready d s → fitting d.capacity (turn_state d s) ≡ true
turn_fit d s is =
    let x = get_or s.board (served_leaf d) 0 in
    turn_fits d.capacity s.board s.rates s.owed (s.other ∷ []) (lowest d.capacity s.board x)
    (lowest_held s.board x d.capacity (leaf_held d.capacity s.board x (served_leaf d) (turning.leaf_within d s is) refl)) is.fit

module _ (a b : Drive) (s : BoardTables) (L : List ℕ) where
  pub slot_unique : {r q : Served} {t u : BoardTables} {F G : List ℕ} → Serves a b s L r t F → Serves a b s L q u G → (r ≡ q) × (t ≡ u) × (F ≡ G)
  slot_unique p q = (unique p.0 q.0, unique p.2 q.2, unique p.3 q.3)

  pub slot_refused : {r : Served} {t : BoardTables} {F : List ℕ} → Serves a b s L r t F → Refuses (serving_answer r.answer)
      → (r.drive ≡ a) × ((serving_answer r.answer).values ≡ 0 ∷ 0 ∷ 0 ∷ 0 ∷ []) × (t ≡ s) × (F ≡ L)
  slot_refused p h = rw (p.0, p.2, p.3, (refusal (list_check a b s (length L)) (refuses p.1 h)).1) (refl, refl, refl, refl)

  pub slot_may_lem : {r : Served} {t : BoardTables} {F : List ℕ} → Serves a b s L r t F → zero_or (serving_answer r.answer).number (1 ∷ 2 ∷ 3 ∷ 5 ∷ []) ≡ true
  slot_may_lem p = rw p.1 (answering.share_within a b s (too_short (length L)))

  -- A slot that is refused for 5 runs nothing, whatever waits.
  pub slot_damaged : list_check a b s (length L) ≡ Err Damaged
      → (served a b s L ≡ record { drive = a; answer = Err Damaged }) × (served_state a b s L ≡ s) × (served_list a b s L ≡ L)
  slot_damaged e = (rw e refl, rw e refl, rw e refl)

  -- Tables that fit go on fitting.
  pub slot_fits : fitting a.capacity s ≡ true → fitting a.capacity (served_state a b s L) ≡ true
  slot_fits fit = go (list_check a b s (length L)) refl
    where
      go : (k : Check) → list_check a b s (length L) ≡ k → fitting a.capacity (served_state a b s L) ≡ true
      go (Err r) e = rw e fit
      go (Ok tt) e = rw e (turn_fit a (state_then a b s L) (running.then_ready a b s L (readying.share_ready a b s (too_short (length L)) e)))
