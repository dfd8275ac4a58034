-- A call with tables that keeps its promise says, returns and leaves what the histories of two drives take it to. Assumes nothing.
use mathlib.Core.Path.{◌≡◌, ap}
use mathlib.Core.List.{List}
use Prim.Native.Nat.{ℕ}
use Rattle.calls.specs.declared.Drive.{Drive}
use Rattle.calls.specs.Types.{Served}
use Rattle.calls.specs.Answers.{serving_answer}
use Rattle.waiting.specs.declared.Order.{Order}
use Rattle.orders.specs.Types.{Ordered}
use Rattle.orders.specs.Answers.{ordering_answer}
use Rattle.shares.specs.States.{BoardTables}
use Rattle.shares.specs.Promises.{Orders, Serves}
use Rattle.shared_demands.specs.Turns.{Pair, Deed, Changes, Slots, answers_own, returned, state_after, list_after}

-- the record returned, the board and the tables, and the list afterwards
abbrev pub Kept : Deed → Pair → Drive → BoardTables → List ℕ → Type 0
Kept a s d t F = (d ≡ returned a s) × (t ≡ state_after a s) × (F ≡ list_after a s)

module _ (s : Pair) where
  pub change_kept : (o : Order) {r : Ordered} {t : BoardTables} {F : List ℕ} → Orders s.own s.other s.state s.list o r t F
      → (ordering_answer r.answer ≡ answers_own (Changes o) s) × Kept (Changes o) s r.drive t F
  change_kept o p = (p.1, (ap (λ (r : Ordered). r.drive) p.0, p.2, p.3))

  pub slot_kept : {r : Served} {t : BoardTables} {F : List ℕ} → Serves s.own s.other s.state s.list r t F
      → (serving_answer r.answer ≡ answers_own Slots s) × Kept Slots s r.drive t F
  slot_kept p = (p.1, (ap (λ (r : Served). r.drive) p.0, p.2, p.3))
