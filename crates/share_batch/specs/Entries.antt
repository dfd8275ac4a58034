-- A table of changes for two drives with the tables of over-allocated streams: what an entry asks for, and what a whole table leaves. Everything is said by what
-- the single calls return and leave; the place for an entry's answer is that of `batch`. a is the record of the drive that the table is for, b that of the other,
-- s the board and the tables.
-- Assumes nothing.
use Rattle.std.specs.Prelude.{cond, List, [], ◌∷◌, ℕ, eqb}
use Rattle.calls.specs.declared.Drive.{Drive}
use Rattle.orders.specs.Types.{Ordered}
use Rattle.orders.specs.Answers.{ordering_answer}
use Rattle.orders.specs.Results.{add_order, remove_order}
use Rattle.shares.specs.States.{BoardTables}
use Rattle.shares.specs.Results.{over_order, changed, changed_state, changed_list}
use Rattle.batch.specs.declared.Entry.{Entry}
use Rattle.batch.specs.declared.Carried.{Carried}
use Rattle.batch.specs.Entries.{unknown_kind, noted}

-- ---- one entry

-- Kind 1 is add, 2 is remove, 3 is over-allocated add, any other is none.
abbrev pub by_kind : {A : Type 0} → ℕ → A → A → A → A → A
by_kind kind add remove over none = cond (eqb kind 1) add (cond (eqb kind 2) remove (cond (eqb kind 3) over none))

-- What the single call returns, and what it leaves of the board and the tables, and of the list.
unfoldable pub ordered : Drive → Drive → BoardTables → List ℕ → Entry → Ordered
ordered a b s L e =
    by_kind e.kind (changed a b s L (add_order e.name e.weight)) (changed a b s L (remove_order e.name))
    (changed a b s L (over_order e.name e.weight)) (unknown_kind a)

unfoldable pub ordered_state : Drive → Drive → BoardTables → List ℕ → Entry → BoardTables
ordered_state a b s L e =
    by_kind e.kind (changed_state a b s L (add_order e.name e.weight)) (changed_state a b s L (remove_order e.name))
    (changed_state a b s L (over_order e.name e.weight)) s

unfoldable pub ordered_list : Drive → Drive → BoardTables → List ℕ → Entry → List ℕ
ordered_list a b s L e =
    by_kind e.kind (changed_list a b s L (add_order e.name e.weight)) (changed_list a b s L (remove_order e.name))
    (changed_list a b s L (over_order e.name e.weight)) L

-- The record and the entry after it.
unfoldable pub carried : Drive → Drive → BoardTables → List ℕ → Entry → Carried
carried a b s L e = record { drive = (ordered a b s L e).drive; entry = noted e (ordering_answer (ordered a b s L e).answer) }

-- ---- a table

-- What it leaves.
pub record Left : Type 0 where
  pub drive : Drive
  pub state : BoardTables
  pub list : List ℕ
  pub table : List Entry

-- An entry that is carried out stands before what the rest leaves.
abbrev pub before : Entry → Left → Left
before e l = record { drive = l.drive; state = l.state; list = l.list; table = e ∷ l.table }

-- The entries from first to last, each given the record, the board, the tables and the list as the last one left them.
unfoldable pub batch_of : Drive → Drive → BoardTables → List ℕ → List Entry → Left
batch_of a b s L [] = record { drive = a; state = s; list = L; table = [] }
batch_of a b s L (e ∷ T) = before (carried a b s L e).entry (batch_of (carried a b s L e).drive b (ordered_state a b s L e) (ordered_list a b s L e) T)
