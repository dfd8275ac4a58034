-- Histories of the calls with tables for two drives on one board, as one of the drives sees them, and the plain history of that drive that they stand for: the
-- orders that either drive's calls carry out, an over-allocated stream of weight r being one of R leaves, and its own slots. What the other drive sees is the
-- same with the records and the deficits exchanged. Calls that write neither the board nor the tables nor the list, as round and report, are left out: they may
-- stand anywhere.
-- Assumes nothing.
use Rattle.std.specs.Prelude.{◌≡◌, cond, List, [], ◌∷◌, ◌++◌, map, ℕ, eqb, length, get_or}
use Rattle.calls.specs.declared.Drive.{Drive}
use Rattle.calls.specs.Types.{Check}
use Rattle.calls.specs.Answers.{Answer}
use Rattle.calls.specs.Results.{if_clear}
use Rattle.demands.specs.Histories.{Act, Slot}
use Rattle.demands.specs.Histories as plainly
use Rattle.waiting.specs.declared.Order.{Order}
use Rattle.waiting.specs.Layout.{waiting, fetched, fetched_list}
use Rattle.orders.specs.Types.{Way}
use Rattle.orders.specs.Answers.{fetching_answer}
use Rattle.drives.specs.Checks.{both_start}
use Rattle.shares.specs.States.{BoardTables, lent}
use Rattle.shares.specs.Checks.{list_check, way_of}
use Rattle.shares.specs.Results.{board_order, changed, changed_answer, changed_state, changed_list, served, served_answer, served_state, served_list}
pub use Rattle.amended.specs.Histories.{Own, Other, turned, turned_all, Which, This, That}
use Rattle.amended.specs.Histories.{through, along, TurnOf}
pub use Rattle.amended.specs.Turns.{if_now, name_in}
use Rattle.amended.specs.Carried.{acts_of}

-- The records, the board with its tables, and the list between two calls: a drive's own record and deficits first.
pub record Pair : Type 0 where
  pub own : Drive
  pub other : Drive
  pub state : BoardTables
  pub list : List ℕ

-- What the other drive sees.
abbrev pub exchanged_state : BoardTables → BoardTables
exchanged_state t = lent t.board t.rates t.other t.owed

abbrev pub exchanged : Pair → Pair
exchanged s = record { own = s.other; other = s.own; state = exchanged_state s.state; list = s.list }

-- What one of the two sees.
abbrev pub seen_by : Which → Pair → Pair
seen_by This s = s
seen_by That s = exchanged s

-- The own drive's record, and the board.
abbrev pub shown : Pair → plainly.State
shown s = record { drive = s.own; board = s.state.board }

-- The first checks of every call.
abbrev pub first_checks : Pair → Check
first_checks s = list_check s.own s.other s.state (length s.list)

-- How a change is taken.
abbrev pub way_at : Order → Pair → Way
way_at o s = way_of s.own s.other s.state s.list o

-- ---- a call of the own drive

-- An add, an over-allocated add or a remove, each as the order that it is; a slot; a fetch of a ticket.
pub data Deed : Type 0 where
  Changes : Order → Deed
  Slots : Deed
  Fetches : ℕ → Deed

-- What it says: number and values.
abbrev pub answers_own : Deed → Pair → Answer
answers_own (Changes o) s = changed_answer s.own s.other s.state s.list o
answers_own Slots s = served_answer s.own s.other s.state s.list
answers_own (Fetches t) s = fetching_answer (fetched s.list t)

-- The record that it returns; fetch takes none.
abbrev pub returned : Deed → Pair → Drive
returned (Changes o) s = (changed s.own s.other s.state s.list o).drive
returned Slots s = (served s.own s.other s.state s.list).drive
returned (Fetches t) s = s.own

-- What it leaves of the board and the tables, and of the list.
abbrev pub state_after : Deed → Pair → BoardTables
state_after (Changes o) s = changed_state s.own s.other s.state s.list o
state_after Slots s = served_state s.own s.other s.state s.list
state_after (Fetches t) s = s.state

abbrev pub list_after : Deed → Pair → List ℕ
list_after (Changes o) s = changed_list s.own s.other s.state s.list o
list_after Slots s = served_list s.own s.other s.state s.list
list_after (Fetches t) s = fetched_list s.list t

abbrev pub leaves_own : Deed → Pair → Pair
leaves_own a s = record { own = returned a s; other = s.other; state = state_after a s; list = list_after a s }

-- ---- a call of either drive

abbrev pub Turn : Type 0
Turn = TurnOf Deed

abbrev pub answers : Turn → Pair → Answer
answers (Own a) s = answers_own a s
answers (Other a) s = answers_own a (exchanged s)

abbrev pub leaves : Turn → Pair → Pair
leaves (Own a) s = leaves_own a s
leaves (Other a) s = exchanged (leaves_own a (exchanged s))

-- After calls of both, each given the last record of both drives, and the board, the tables and the list as the last one left them.
abbrev pub leaves_all : Pair → List Turn → Pair
leaves_all s turns = through leaves s turns

-- ---- the plain history of the own drive

-- The orders that the next slot, of either drive, carries out.
unfoldable pub due : Pair → List Order
due s = cond (both_start s.own s.other) (waiting s.list) []

-- The orders that a call of the own drive carries out: these are acts of both drives.
abbrev pub carries_out : Deed → Pair → List Order
carries_out (Changes o) s = if_now (way_at o s) o
carries_out Slots s = if_clear (first_checks s) (due s) []
carries_out (Fetches t) s = []

-- Orders as plain acts: an over-allocated add of r is an add of R.
abbrev pub acts_for : List Order → List Act
acts_for os = acts_of (map board_order os)

-- The acts of both, and the act of the own drive alone.
abbrev pub shared : Deed → Pair → List Act
shared a s = acts_for (carries_out a s)

abbrev pub alone : Deed → Pair → List Act
alone (Changes o) s = []
alone Slots s = if_clear (first_checks s) (Slot ∷ []) []
alone (Fetches t) s = []

-- The plain calls of the own drive that a call stands for.
abbrev pub stands_for : Turn → Pair → List Act
stands_for (Own a) s = shared a s ++ alone a s
stands_for (Other a) s = shared a (exchanged s)

abbrev pub plain : Pair → List Turn → List Act
plain s turns = along leaves stands_for s turns

-- ---- rounds of the own drive

-- The name that a call serves to it: a slot of its own that is not refused says it first.
abbrev pub name_own : Deed → Pair → List ℕ
name_own (Changes o) s = []
name_own Slots s = name_in (answers_own Slots s)
name_own (Fetches t) s = []

abbrev pub name_served : Turn → Pair → List ℕ
name_served (Own a) s = name_own a s
name_served (Other a) s = []

abbrev pub names_served : Pair → List Turn → List ℕ
names_served s turns = along leaves name_served s turns

-- The name on the leaf that a slot gives, which it says second: the stream that has the leaf, served there or not.
abbrev pub on_leaf : Answer → List ℕ → List ℕ
on_leaf a B = cond (eqb a.number 0) (get_or B (get_or a.values 1 0) 0 ∷ []) []

abbrev pub given_own : Deed → Pair → List ℕ
given_own (Changes o) s = []
given_own Slots s = on_leaf (answers_own Slots s) (leaves_own Slots s).state.board
given_own (Fetches t) s = []

abbrev pub leaf_given : Turn → Pair → List ℕ
leaf_given (Own a) s = given_own a s
leaf_given (Other a) s = []

abbrev pub leaves_given : Pair → List Turn → List ℕ
leaves_given s turns = along leaves leaf_given s turns

-- A full round of the own drive: its first slot is called at position 1, and with those of its own among the calls that follow C slots are served. Other calls,
-- those of the other drive too, may stand between them and after them.
pub record FullRound (s : Pair) (rest : List Turn) : Type 0 where
  pub first : s.own.position ≡ 1
  pub slots : length (names_served s (Own Slots ∷ rest)) ≡ s.own.capacity
