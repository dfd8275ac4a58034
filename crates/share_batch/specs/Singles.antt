-- Single calls, one for each entry of a table in the table's order, each given the record, the board, the tables and the list as the last one left them. What a
-- call returns and leaves is told by its promise alone.
-- Assumes nothing.
use Rattle.std.specs.Prelude.{◌≡◌, List, [], ◌∷◌, ℕ}
use Rattle.calls.specs.declared.Drive.{Drive}
use Rattle.calls.specs.Answers.{Answer}
use Rattle.waiting.specs.declared.Order.{Order}
use Rattle.orders.specs.Types.{Ordered}
use Rattle.orders.specs.Answers.{ordering_answer}
use Rattle.orders.specs.Results.{add_order, remove_order}
use Rattle.shares.specs.States.{BoardTables}
use Rattle.shares.specs.Results.{over_order}
use Rattle.batch.specs.declared.Entry.{Entry}

-- The promise of a change: from a record, a board with its tables, a list and what is asked for, the result, the board with its tables and the list.
abbrev pub Promise : Type 1
Promise = Drive → BoardTables → List ℕ → Order → Ordered → BoardTables → List ℕ → Type 0

-- From d, s and L the calls for a table lead to the record, the board with its tables, the list and the answers that stand last. For a kind that is neither add,
-- nor remove, nor over-allocated add no call is made, and the answer is 7 with 0.
pub data Singles (P : Promise) : Drive → BoardTables → List ℕ → List Entry → Drive → BoardTables → List ℕ → List Answer → Type 0 where
  ends : {d : Drive} {s : BoardTables} {L : List ℕ} → Singles P d s L [] d s L []
  adds : {d x : Drive} {s t u : BoardTables} {L M F : List ℕ} {e : Entry} {T : List Entry} {r : Ordered} {ss : List Answer}
      → e.kind ≡ 1 → P d s L (add_order e.name e.weight) r t M → Singles P r.drive t M T x u F ss
      → Singles P d s L (e ∷ T) x u F (ordering_answer r.answer ∷ ss)
  removes : {d x : Drive} {s t u : BoardTables} {L M F : List ℕ} {e : Entry} {T : List Entry} {r : Ordered} {ss : List Answer}
      → e.kind ≡ 2 → P d s L (remove_order e.name) r t M → Singles P r.drive t M T x u F ss
      → Singles P d s L (e ∷ T) x u F (ordering_answer r.answer ∷ ss)
  overs : {d x : Drive} {s t u : BoardTables} {L M F : List ℕ} {e : Entry} {T : List Entry} {r : Ordered} {ss : List Answer}
      → e.kind ≡ 3 → P d s L (over_order e.name e.weight) r t M → Singles P r.drive t M T x u F ss
      → Singles P d s L (e ∷ T) x u F (ordering_answer r.answer ∷ ss)
  skips : {d x : Drive} {s u : BoardTables} {L F : List ℕ} {e : Entry} {T : List Entry} {ss : List Answer}
      → (e.kind ≡ 1 → ⊥) → (e.kind ≡ 2 → ⊥) → (e.kind ≡ 3 → ⊥) → Singles P d s L T x u F ss
      → Singles P d s L (e ∷ T) x u F (record { number = 7; values = 0 ∷ [] } ∷ ss)
