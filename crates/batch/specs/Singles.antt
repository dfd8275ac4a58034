-- Single calls, one for each entry of a table in the table's order, each given the record, the board and the list as the last one left them. What a call
-- returns and leaves is told by its promise alone, so that this can be said of the calls for one drive as well.
-- Assumes nothing.
use Rattle.std.specs.Prelude.{◌≡◌, List, [], ◌∷◌, ℕ}
use Rattle.calls.specs.declared.Drive.{Drive}
use Rattle.calls.specs.Answers.{Answer}
use Rattle.waiting.specs.declared.Order.{Order}
use Rattle.orders.specs.Types.{Ordered}
use Rattle.orders.specs.Answers.{ordering_answer}
use Rattle.orders.specs.Results.{add_order, remove_order}
use Rattle.batch.specs.declared.Entry.{Entry}
use Rattle.batch.specs.Entries.{noted}

-- The promise of a change: from a record, a board, a list and what is asked for, the result, the board and the list.
abbrev pub Promise : Type 1
Promise = Drive → List ℕ → List ℕ → Order → Ordered → List ℕ → List ℕ → Type 0

-- From d, B and L the calls for a table lead to the record, the board, the list and the answers that stand last. For a kind that is neither add nor remove
-- no call is made, and the answer is 7 with 0.
pub data Singles (P : Promise) : Drive → List ℕ → List ℕ → List Entry → Drive → List ℕ → List ℕ → List Answer → Type 0 where
  ends : {d : Drive} {B L : List ℕ} → Singles P d B L [] d B L []
  adds : {d s : Drive} {B L D M E F : List ℕ} {e : Entry} {T : List Entry} {r : Ordered} {ss : List Answer}
      → e.kind ≡ 1 → P d B L (add_order e.name e.weight) r D M → Singles P r.drive D M T s E F ss
      → Singles P d B L (e ∷ T) s E F (ordering_answer r.answer ∷ ss)
  removes : {d s : Drive} {B L D M E F : List ℕ} {e : Entry} {T : List Entry} {r : Ordered} {ss : List Answer}
      → e.kind ≡ 2 → P d B L (remove_order e.name) r D M → Singles P r.drive D M T s E F ss
      → Singles P d B L (e ∷ T) s E F (ordering_answer r.answer ∷ ss)
  skips : {d s : Drive} {B L E F : List ℕ} {e : Entry} {T : List Entry} {ss : List Answer}
      → (e.kind ≡ 1 → ⊥) → (e.kind ≡ 2 → ⊥) → Singles P d B L T s E F ss
      → Singles P d B L (e ∷ T) s E F (record { number = 7; values = 0 ∷ [] } ∷ ss)

-- The entries with these answers in their places.
unfoldable pub noted_all : List Entry → List Answer → List Entry
noted_all [] ss = []
noted_all (e ∷ T) [] = e ∷ T
noted_all (e ∷ T) (s ∷ ss) = noted e s ∷ noted_all T ss
