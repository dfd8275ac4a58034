-- A table of changes for two drives: what an entry asks for, what stands in the place for its answer, and what a whole table leaves. Everything is said by
-- what the single calls return and leave. a is the record of the drive that the table is for, b that of the other.
-- Assumes nothing.
use Rattle.std.specs.Prelude.{cond, List, [], ◌∷◌, ℕ, eqb, get_or, Err}
use Rattle.calls.specs.declared.Drive.{Drive}
use Rattle.calls.specs.declared.Refusal.TheVariants.{Weight}
use Rattle.calls.specs.Answers.{Answer}
use Rattle.waiting.specs.declared.Order.{Order}
use Rattle.orders.specs.Types.{Ordered}
use Rattle.orders.specs.declared.Declined.TheVariants as declined
use Rattle.orders.specs.Answers.{ordering_answer}
use Rattle.orders.specs.Results.{add_order, remove_order}
use Rattle.drives.specs.Results.{changed, changed_board, changed_list}
use Rattle.batch.specs.declared.Entry.{Entry}
use Rattle.batch.specs.declared.Carried.{Carried}

-- ---- one entry

-- Kind 1 is add, 2 is remove, any other is none.
abbrev pub by_kind : {A : Type 0} → ℕ → A → A → A → A
by_kind kind add remove none = cond (eqb kind 1) add (cond (eqb kind 2) remove none)

-- A kind that is none is answered 7, whatever else is wrong.
abbrev pub unknown_kind : Drive → Ordered
unknown_kind a = record { drive = a; answer = Err (declined.Refused Weight) }

-- What the single call returns, and what it leaves of the board and of the list.
unfoldable pub ordered : Drive → Drive → List ℕ → List ℕ → Entry → Ordered
ordered a b B L e = by_kind e.kind (changed a b B L (add_order e.name e.weight)) (changed a b B L (remove_order e.name)) (unknown_kind a)

unfoldable pub ordered_board : Drive → Drive → List ℕ → List ℕ → Entry → List ℕ
ordered_board a b B L e = by_kind e.kind (changed_board a b B L (add_order e.name e.weight)) (changed_board a b B L (remove_order e.name)) B

unfoldable pub ordered_list : Drive → Drive → List ℕ → List ℕ → Entry → List ℕ
ordered_list a b B L e = by_kind e.kind (changed_list a b B L (add_order e.name e.weight)) (changed_list a b B L (remove_order e.name)) L

-- What an entry asks for.
abbrev pub question : Entry → Order
question e = record { kind = e.kind; name = e.name; weight = e.weight }

-- The entry with a number and a value in the place for its answer. What it asks for stays.
abbrev pub answering : Entry → ℕ → ℕ → Entry
answering e n v = record { kind = e.kind; name = e.name; weight = e.weight; number = n; value = v }

abbrev pub noted : Entry → Answer → Entry
noted e s = answering e s.number (get_or s.values 0 0)

-- The record and the entry after it.
unfoldable pub carried : Drive → Drive → List ℕ → List ℕ → Entry → Carried
carried a b B L e = record { drive = (ordered a b B L e).drive; entry = noted e (ordering_answer (ordered a b B L e).answer) }

-- ---- a table

-- What it leaves.
pub record Left : Type 0 where
  pub drive : Drive
  pub board : List ℕ
  pub list : List ℕ
  pub table : List Entry

-- An entry that is carried out stands before what the rest leaves.
abbrev pub before : Entry → Left → Left
before e l = record { drive = l.drive; board = l.board; list = l.list; table = e ∷ l.table }

-- The entries from first to last, each given the record, the board and the list as the last one left them.
unfoldable pub batch_of : Drive → Drive → List ℕ → List ℕ → List Entry → Left
batch_of a b B L [] = record { drive = a; board = B; list = L; table = [] }
batch_of a b B L (e ∷ T) = before (carried a b B L e).entry (batch_of (carried a b B L e).drive b (ordered_board a b B L e) (ordered_list a b B L e) T)
