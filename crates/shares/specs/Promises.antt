-- What each call with tables promises, for every input: the result, the same in numbers, what the board and the tables (t) and the list (F) hold at exit. The
-- result has the record a alone: no call moves the other.
-- Assumes nothing.
use Rattle.std.specs.Prelude.{◌≡◌, List, ℕ}
use Rattle.calls.specs.declared.Drive.{Drive}
use Rattle.calls.specs.Types.{Served}
use Rattle.calls.specs.Answers.{serving_answer}
use Rattle.waiting.specs.declared.Order.{Order}
use Rattle.orders.specs.Types.{Ordered}
use Rattle.orders.specs.Answers.{ordering_answer}
use Rattle.shares.specs.States.{BoardTables}
use Rattle.shares.specs.Results.{changed, changed_answer, changed_state, changed_list, served, served_answer, served_state, served_list}

abbrev pub Orders : Drive → Drive → BoardTables → List ℕ → Order → Ordered → BoardTables → List ℕ → Type 0
Orders a b s L o r t F =
    (r ≡ changed a b s L o) × (ordering_answer r.answer ≡ changed_answer a b s L o) × (t ≡ changed_state a b s L o) × (F ≡ changed_list a b s L o)

abbrev pub Serves : Drive → Drive → BoardTables → List ℕ → Served → BoardTables → List ℕ → Type 0
Serves a b s L r t F =
    (r ≡ served a b s L) × (serving_answer r.answer ≡ served_answer a b s L) × (t ≡ served_state a b s L) × (F ≡ served_list a b s L)
