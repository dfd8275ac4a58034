-- Histories of calls with the waiting list, and the plain history that each stands for: the calls that are made at once, and where a list is run its orders, in
-- the order of arrival, before the slot. An order that goes on the list, one that finds no place, a refusal, a save and a fetch stand for no call. An open or
-- a read that is done begins a history of its own.
-- Assumes nothing.
use Rattle.std.specs.Prelude.{◌≡◌, Bool, false, cond, ◌&&◌, List, [], ◌∷◌, ◌++◌, ℕ, ◌+◌, eqb, length, get_or, Ok, Err}
use Rattle.calls.specs.Refusals.{is_clear}
use Rattle.calls.specs.declared.Drive.{Drive}
use Rattle.calls.specs.Types.{Check}
use Rattle.calls.specs.Answers.{Answer}
use Rattle.calls.specs.Results.{if_clear}
use Rattle.sheets.specs.Forms.{Form, saved_as, saved_answer_as}
use Rattle.sheets.specs.Results.{leaf_form, piece_form}
use Rattle.demands.specs.Histories.{Act, Slot, Round, Report, Fresh, State, does, says}
use Rattle.waiting.specs.declared.Order.{Order}
use Rattle.waiting.specs.Layout.{waiting, fetched, fetched_list}
use Rattle.orders.specs.Types.{Way}
use Rattle.orders.specs.declared.Moment.TheVariants as moment
use Rattle.orders.specs.Answers.{fetching_answer}
use Rattle.orders.specs.Checks.{lent_check, bounds_check, reading_check, way_of}
use Rattle.orders.specs.Results.{add_order, remove_order, changed, changed_answer, changed_board, changed_list, served, served_answer, served_board, served_list, opened, opened_answer, opened_board, opened_list, loaded_as, loaded_answer_as, loaded_board_as, loaded_list_as}
use Rattle.amended.specs.Histories.{through, along, Each}
use Rattle.amended.specs.Carried.{act_of, acts_of}

-- The two forms of sheet: one that lists leaves, and one that lists pieces (request No. 9).
pub data Sheets : Type 0 where
  Leaves : Sheets
  Pieces : Sheets

abbrev pub form_of : Sheets → Form
form_of Leaves = leaf_form
form_of Pieces = piece_form

-- A call, with what it is given beside the record, the board and the list: a capacity; a sheet of a form; a name and a weight; a name; nothing; the lent
-- output; a name; a form and the lent output; a ticket; nothing (the fresh layout, request No. 12).
pub data Deed : Type 0 where
  Opens : ℕ → Deed
  Reads : Sheets → List ℕ → Deed
  Adds : ℕ → ℕ → Deed
  Removes : ℕ → Deed
  Slots : Deed
  Rounds : List ℕ → Deed
  Reports : ℕ → Deed
  Saves : Sheets → List ℕ → Deed
  Fetches : ℕ → Deed
  Refreshes : Deed

-- The record, the board and the list between two calls.
pub record Desk : Type 0 where
  pub state : State
  pub list : List ℕ

abbrev pub desk : Drive → List ℕ → List ℕ → Desk
desk d B L = record { state = record { drive = d; board = B }; list = L }

-- The checks of open and of read.
abbrev pub open_checks : Desk → ℕ → Check
open_checks s C = lent_check C s.state.board (length s.list)

abbrev pub read_checks : Desk → Sheets → List ℕ → Check
read_checks s form S = reading_check (form_of form) S s.state.board (length s.list)

-- The first checks of add, remove and slot.
abbrev pub first_checks : Desk → Check
first_checks s = bounds_check s.state.drive s.state.board (length s.list)

-- How a change is taken.
abbrev pub way_at : Order → Desk → Way
way_at o s = way_of s.state.drive s.state.board s.list o

-- What a call says: number and values.
abbrev pub answers : Deed → Desk → Answer
answers (Opens C) s = opened_answer C s.state.board (length s.list)
answers (Reads form S) s = loaded_answer_as (form_of form) S s.state.board (length s.list)
answers (Adds x w) s = changed_answer s.state.drive s.state.board s.list (add_order x w)
answers (Removes x) s = changed_answer s.state.drive s.state.board s.list (remove_order x)
answers Slots s = served_answer s.state.drive s.state.board s.list
answers (Rounds O) s = says (Round O) s.state
answers (Reports x) s = says (Report x) s.state
answers (Saves form O) s = saved_answer_as (form_of form) s.state.drive s.state.board O
answers (Fetches t) s = fetching_answer (fetched s.list t)
answers Refreshes s = says Fresh s.state

-- The record that it returns; fetch takes none.
abbrev pub returned : Deed → Desk → Drive
returned (Opens C) s = (opened C s.state.board (length s.list)).drive
returned (Reads form S) s = (loaded_as (form_of form) S s.state.board (length s.list)).drive
returned (Adds x w) s = (changed s.state.drive s.state.board s.list (add_order x w)).drive
returned (Removes x) s = (changed s.state.drive s.state.board s.list (remove_order x)).drive
returned Slots s = (served s.state.drive s.state.board s.list).drive
returned (Rounds O) s = (does (Round O) s.state).drive
returned (Reports x) s = (does (Report x) s.state).drive
returned (Saves form O) s = (saved_as (form_of form) s.state.drive s.state.board O).drive
returned (Fetches t) s = s.state.drive
returned Refreshes s = (does Fresh s.state).drive

-- The record that the next call is given: the one returned; after a refused open or read, which return none to go on with, the one before.
abbrev pub record_after : Deed → Desk → Drive
record_after (Opens C) s = if_clear (open_checks s C) (returned (Opens C) s) s.state.drive
record_after (Reads form S) s = if_clear (read_checks s form S) (returned (Reads form S) s) s.state.drive
record_after (Adds x w) s = returned (Adds x w) s
record_after (Removes x) s = returned (Removes x) s
record_after Slots s = returned Slots s
record_after (Rounds O) s = returned (Rounds O) s
record_after (Reports x) s = returned (Reports x) s
record_after (Saves form O) s = returned (Saves form O) s
record_after (Fetches t) s = returned (Fetches t) s
record_after Refreshes s = returned Refreshes s

-- What it leaves of the board, and of the list.
abbrev pub board_after : Deed → Desk → List ℕ
board_after (Opens C) s = opened_board C s.state.board (length s.list)
board_after (Reads form S) s = loaded_board_as (form_of form) S s.state.board (length s.list)
board_after (Adds x w) s = changed_board s.state.drive s.state.board s.list (add_order x w)
board_after (Removes x) s = changed_board s.state.drive s.state.board s.list (remove_order x)
board_after Slots s = served_board s.state.drive s.state.board s.list
board_after (Rounds O) s = s.state.board
board_after (Reports x) s = s.state.board
board_after (Saves form O) s = s.state.board
board_after (Fetches t) s = s.state.board
board_after Refreshes s = (does Fresh s.state).board

abbrev pub list_after : Deed → Desk → List ℕ
list_after (Opens C) s = opened_list C s.state.board s.list
list_after (Reads form S) s = loaded_list_as (form_of form) S s.state.board s.list
list_after (Adds x w) s = changed_list s.state.drive s.state.board s.list (add_order x w)
list_after (Removes x) s = changed_list s.state.drive s.state.board s.list (remove_order x)
list_after Slots s = served_list s.state.drive s.state.board s.list
list_after (Rounds O) s = s.list
list_after (Reports x) s = s.list
list_after (Saves form O) s = s.list
list_after (Fetches t) s = fetched_list s.list t
list_after Refreshes s = s.list

abbrev pub leaves : Deed → Desk → Desk
leaves a s = desk (record_after a s) (board_after a s) (list_after a s)

-- After calls, each given the record, the board and the list as the last one left them.
abbrev pub leaves_all : Desk → List Deed → Desk
leaves_all s deeds = through leaves s deeds

-- ---- the plain history

-- An open or a read that is done.
abbrev pub restarts : Deed → Desk → Bool
restarts (Opens C) s = is_clear (open_checks s C)
restarts (Reads form S) s = is_clear (read_checks s form S)
restarts (Adds x w) s = false
restarts (Removes x) s = false
restarts Slots s = false
restarts (Rounds O) s = false
restarts (Reports x) s = false
restarts (Saves form O) s = false
restarts (Fetches t) s = false
restarts Refreshes s = false

-- No call of these is one.
abbrev pub Unbroken : Desk → List Deed → Type 0
Unbroken s deeds = Each leaves (λ a t. restarts a t ≡ false) s deeds

-- A slot here is not refused, and a round begins: it runs the list.
abbrev pub runs : Desk → Bool
runs s = is_clear (first_checks s) && eqb s.state.drive.position 1

-- The orders that the next slot carries out.
unfoldable pub due : Desk → List Order
due s = cond (eqb s.state.drive.position 1) (waiting s.list) []

-- The plain calls that a call stands for.
abbrev pub made_by : Way → Order → List Act
made_by (Err r) o = []
made_by (Ok moment.Later) o = []
made_by (Ok moment.Now) o = act_of o

-- A slot that is refused stands for nothing, any other for the changes that it carries out before and itself.
abbrev pub slot_by : Check → List Act → List Act
slot_by (Err r) before = []
slot_by (Ok tt) before = before ++ (Slot ∷ [])

abbrev pub stands_for : Deed → Desk → List Act
stands_for (Opens C) s = []
stands_for (Reads form S) s = []
stands_for (Adds x w) s = made_by (way_at (add_order x w) s) (add_order x w)
stands_for (Removes x) s = made_by (way_at (remove_order x) s) (remove_order x)
stands_for Slots s = slot_by (first_checks s) (acts_of (due s))
stands_for (Rounds O) s = Round O ∷ []
stands_for (Reports x) s = Report x ∷ []
stands_for (Saves form O) s = []
stands_for (Fetches t) s = []
stands_for Refreshes s = Fresh ∷ []

abbrev pub plain : Desk → List Deed → List Act
plain s deeds = along leaves stands_for s deeds

-- ---- rounds

-- The name that a call serves: a slot that is not refused says it first.
abbrev pub name_served : Deed → Desk → List ℕ
name_served (Opens C) s = []
name_served (Reads form S) s = []
name_served (Adds x w) s = []
name_served (Removes x) s = []
name_served Slots s = cond (eqb (answers Slots s).number 0) (get_or (answers Slots s).values 0 0 ∷ []) []
name_served (Rounds O) s = []
name_served (Reports x) s = []
name_served (Saves form O) s = []
name_served (Fetches t) s = []
name_served Refreshes s = []

abbrev pub names_served : Desk → List Deed → List ℕ
names_served s deeds = along leaves name_served s deeds

-- A full round: its first slot is called at position 1, and with those among the calls that follow, none of them an open or a read that is done, C slots are
-- served. Other calls may stand between them and after them.
pub record FullRound (s : Desk) (rest : List Deed) : Type 0 where
  pub first : s.state.drive.position ≡ 1
  pub whole : Unbroken (leaves Slots s) rest
  pub slots : length (names_served s (Slots ∷ rest)) ≡ s.state.drive.capacity

-- ---- tickets

-- The ticket that a call tells: an add or a remove that answers 13.
abbrev pub ticket_in : Answer → List ℕ
ticket_in a = cond (eqb a.number 13) (get_or a.values 0 0 ∷ []) []

abbrev pub ticket_told : Deed → Desk → List ℕ
ticket_told (Opens C) s = []
ticket_told (Reads form S) s = []
ticket_told (Adds x w) s = ticket_in (answers (Adds x w) s)
ticket_told (Removes x) s = ticket_in (answers (Removes x) s)
ticket_told Slots s = []
ticket_told (Rounds O) s = []
ticket_told (Reports x) s = []
ticket_told (Saves form O) s = []
ticket_told (Fetches t) s = []
ticket_told Refreshes s = []

abbrev pub tickets_told : Desk → List Deed → List ℕ
tickets_told s deeds = along leaves ticket_told s deeds

-- Tickets that count up: each is one more than the one before, the first one more than n.
unfoldable pub CountUp : ℕ → List ℕ → Type 0
CountUp n [] = Unit {0}
CountUp n (t ∷ ts) = (t ≡ n + 1) × CountUp t ts
