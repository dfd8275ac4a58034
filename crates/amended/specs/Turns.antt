-- Histories of the calls for two drives on one board, as one of the drives sees them, and the plain history of that drive that they stand for: the
-- orders that either drive's calls carry out, the fresh layouts of either, and its own slots, rounds and reports. What the other drive sees is the
-- same with the records exchanged. An open or a read that is done gives both drives its record, and begins a history of its own.
-- Assumes nothing.
use Rattle.std.specs.Prelude.{◌≡◌, Bool, false, cond, ◌&&◌, List, [], ◌∷◌, ◌++◌, ℕ, eqb, length, get_or, Ok, Err}
use Rattle.calls.specs.Refusals.{is_clear}
use Rattle.calls.specs.declared.Drive.{Drive}
use Rattle.calls.specs.Types.{Check}
use Rattle.calls.specs.Answers.{Answer}
use Rattle.calls.specs.Results.{if_clear}
use Rattle.demands.specs.Histories.{Act, Slot, Round, Report, Fresh, State}
use Rattle.waiting.specs.declared.Order.{Order}
use Rattle.waiting.specs.Layout.{waiting}
use Rattle.orders.specs.Types.{Way}
use Rattle.orders.specs.declared.Moment.TheVariants as moment
use Rattle.orders.specs.Results.{add_order, remove_order}
use Rattle.drives.specs.Checks.{list_check, look_check, both_start, way_of, pair_save_check, pair_pieces_check, pair_fresh_check}
use Rattle.drives.specs.Results.{changed, changed_answer, changed_board, changed_list, served, served_answer, served_board, served_list, rounded, rounded_answer, reported, reported_answer, saved_by, saved_answer_by, refreshed, refreshed_answer, refreshed_board}
pub use Rattle.amended.specs.Histories.{Own, Other, turned, turned_all, Which, This, That}
use Rattle.amended.specs.Histories.{through, along, Each, TurnOf}
use Rattle.amended.specs.Carried.{acts_of}
use Rattle.amended.specs.Deeds as one
use Rattle.amended.specs.Deeds.{Sheets, Leaves, Pieces, form_of, Deed, Opens, Reads, Adds, Removes, Slots, Rounds, Reports, Saves, Fetches, Refreshes, Desk, desk, ticket_in}

-- The records, the board and the list between two calls: a drive's own record first.
pub record Pair : Type 0 where
  pub own : Drive
  pub other : Drive
  pub board : List ℕ
  pub list : List ℕ

-- What the other drive sees.
abbrev pub exchanged : Pair → Pair
exchanged s = record { own = s.other; other = s.own; board = s.board; list = s.list }

-- What one of the two sees.
abbrev pub seen_by : Which → Pair → Pair
seen_by This s = s
seen_by That s = exchanged s

-- What the own drive would see, were it alone; and of that the record and the board.
abbrev pub seen : Pair → Desk
seen s = desk s.own s.board s.list

abbrev pub shown : Pair → State
shown s = (seen s).state

-- The first checks of add, remove and slot; those of round and report.
abbrev pub first_checks : Pair → Check
first_checks s = list_check s.own s.other s.board (length s.list)

abbrev pub look_checks : Pair → Check
look_checks s = look_check s.own s.other s.board

-- Those of save, by the form.
abbrev pub save_checks : Sheets → Pair → ℕ → Check
save_checks Leaves s n = pair_save_check s.own s.other s.board n
save_checks Pieces s n = pair_pieces_check s.own s.other s.board n

-- And those of the fresh layout.
abbrev pub fresh_checks : Pair → Check
fresh_checks s = pair_fresh_check s.own s.other s.board

-- How a change is taken.
abbrev pub way_at : Order → Pair → Way
way_at o s = way_of s.own s.other s.board s.list o

-- ---- a call of the own drive; open, read and fetch are those of one drive

-- What it says: number and values.
abbrev pub answers_own : Deed → Pair → Answer
answers_own (Opens C) s = one.answers (Opens C) (seen s)
answers_own (Reads form S) s = one.answers (Reads form S) (seen s)
answers_own (Adds x w) s = changed_answer s.own s.other s.board s.list (add_order x w)
answers_own (Removes x) s = changed_answer s.own s.other s.board s.list (remove_order x)
answers_own Slots s = served_answer s.own s.other s.board s.list
answers_own (Rounds O) s = rounded_answer s.own s.other s.board O
answers_own (Reports x) s = reported_answer s.own s.other s.board x
answers_own (Saves form O) s = saved_answer_by (form_of form) (save_checks form s (length O)) s.own s.board
answers_own (Fetches t) s = one.answers (Fetches t) (seen s)
answers_own Refreshes s = refreshed_answer s.own s.other s.board

-- The record that it returns.
abbrev pub returned : Deed → Pair → Drive
returned (Opens C) s = one.returned (Opens C) (seen s)
returned (Reads form S) s = one.returned (Reads form S) (seen s)
returned (Adds x w) s = (changed s.own s.other s.board s.list (add_order x w)).drive
returned (Removes x) s = (changed s.own s.other s.board s.list (remove_order x)).drive
returned Slots s = (served s.own s.other s.board s.list).drive
returned (Rounds O) s = (rounded s.own s.other s.board O).drive
returned (Reports x) s = (reported s.own s.other s.board x).drive
returned (Saves form O) s = (saved_by (form_of form) (save_checks form s (length O)) s.own s.board).drive
returned (Fetches t) s = one.returned (Fetches t) (seen s)
returned Refreshes s = (refreshed s.own s.other s.board).drive

-- The record that the own drive's next call is given, and the other's: what an open or a read that is done returns is for both, and what any other call
-- returns for the own drive alone.
abbrev pub own_after : Deed → Pair → Drive
own_after (Opens C) s = one.record_after (Opens C) (seen s)
own_after (Reads form S) s = one.record_after (Reads form S) (seen s)
own_after (Adds x w) s = returned (Adds x w) s
own_after (Removes x) s = returned (Removes x) s
own_after Slots s = returned Slots s
own_after (Rounds O) s = returned (Rounds O) s
own_after (Reports x) s = returned (Reports x) s
own_after (Saves form O) s = returned (Saves form O) s
own_after (Fetches t) s = returned (Fetches t) s
own_after Refreshes s = returned Refreshes s

abbrev pub other_after : Deed → Pair → Drive
other_after (Opens C) s = one.record_after (Opens C) (seen (exchanged s))
other_after (Reads form S) s = one.record_after (Reads form S) (seen (exchanged s))
other_after (Adds x w) s = s.other
other_after (Removes x) s = s.other
other_after Slots s = s.other
other_after (Rounds O) s = s.other
other_after (Reports x) s = s.other
other_after (Saves form O) s = s.other
other_after (Fetches t) s = s.other
other_after Refreshes s = s.other

-- What it leaves of the board, and of the list.
abbrev pub board_after : Deed → Pair → List ℕ
board_after (Opens C) s = one.board_after (Opens C) (seen s)
board_after (Reads form S) s = one.board_after (Reads form S) (seen s)
board_after (Adds x w) s = changed_board s.own s.other s.board s.list (add_order x w)
board_after (Removes x) s = changed_board s.own s.other s.board s.list (remove_order x)
board_after Slots s = served_board s.own s.other s.board s.list
board_after (Rounds O) s = s.board
board_after (Reports x) s = s.board
board_after (Saves form O) s = s.board
board_after (Fetches t) s = s.board
board_after Refreshes s = refreshed_board s.own s.other s.board

abbrev pub list_after : Deed → Pair → List ℕ
list_after (Opens C) s = one.list_after (Opens C) (seen s)
list_after (Reads form S) s = one.list_after (Reads form S) (seen s)
list_after (Adds x w) s = changed_list s.own s.other s.board s.list (add_order x w)
list_after (Removes x) s = changed_list s.own s.other s.board s.list (remove_order x)
list_after Slots s = served_list s.own s.other s.board s.list
list_after (Rounds O) s = s.list
list_after (Reports x) s = s.list
list_after (Saves form O) s = s.list
list_after (Fetches t) s = one.list_after (Fetches t) (seen s)
list_after Refreshes s = s.list

abbrev pub leaves_own : Deed → Pair → Pair
leaves_own a s = record { own = own_after a s; other = other_after a s; board = board_after a s; list = list_after a s }

-- ---- a call of either drive

abbrev pub Turn : Type 0
Turn = TurnOf Deed

abbrev pub answers : Turn → Pair → Answer
answers (Own a) s = answers_own a s
answers (Other a) s = answers_own a (exchanged s)

abbrev pub leaves : Turn → Pair → Pair
leaves (Own a) s = leaves_own a s
leaves (Other a) s = exchanged (leaves_own a (exchanged s))

-- After calls of both, each given the last record of both drives, and the board and the list as the last one left them.
abbrev pub leaves_all : Pair → List Turn → Pair
leaves_all s turns = through leaves s turns

-- ---- the plain history of the own drive

-- An open or a read that is done; no call of these is one.
abbrev pub restarts : Turn → Pair → Bool
restarts (Own a) s = one.restarts a (seen s)
restarts (Other a) s = one.restarts a (seen (exchanged s))

abbrev pub Unbroken : Pair → List Turn → Type 0
Unbroken s turns = Each leaves (λ t u. restarts t u ≡ false) s turns

-- A slot here is not refused, and both drives are at the start of a round: it runs the list.
abbrev pub runs : Pair → Bool
runs s = is_clear (first_checks s) && both_start s.own s.other

-- The orders that the next slot, of either drive, carries out.
unfoldable pub due : Pair → List Order
due s = cond (both_start s.own s.other) (waiting s.list) []

-- The orders that a call of the own drive carries out: these are acts of both drives.
abbrev pub if_now : Way → Order → List Order
if_now (Err r) o = []
if_now (Ok moment.Later) o = []
if_now (Ok moment.Now) o = o ∷ []

abbrev pub carries_out : Deed → Pair → List Order
carries_out (Opens C) s = []
carries_out (Reads form S) s = []
carries_out (Adds x w) s = if_now (way_at (add_order x w) s) (add_order x w)
carries_out (Removes x) s = if_now (way_at (remove_order x) s) (remove_order x)
carries_out Slots s = if_clear (first_checks s) (due s) []
carries_out (Rounds O) s = []
carries_out (Reports x) s = []
carries_out (Saves form O) s = []
carries_out (Fetches t) s = []
carries_out Refreshes s = []

-- A fresh layout that is done is an act of both too.
abbrev pub lays_out : Deed → Pair → Bool
lays_out (Opens C) s = false
lays_out (Reads form S) s = false
lays_out (Adds x w) s = false
lays_out (Removes x) s = false
lays_out Slots s = false
lays_out (Rounds O) s = false
lays_out (Reports x) s = false
lays_out (Saves form O) s = false
lays_out (Fetches t) s = false
lays_out Refreshes s = is_clear (fresh_checks s)

-- The acts of both.
abbrev pub shared : Deed → Pair → List Act
shared a s = cond (lays_out a s) (Fresh ∷ []) (acts_of (carries_out a s))

-- What else it is: an act of the own drive alone.
abbrev pub alone : Deed → Pair → List Act
alone (Opens C) s = []
alone (Reads form S) s = []
alone (Adds x w) s = []
alone (Removes x) s = []
alone Slots s = if_clear (first_checks s) (Slot ∷ []) []
alone (Rounds O) s = if_clear (look_checks s) (Round O ∷ []) []
alone (Reports x) s = if_clear (look_checks s) (Report x ∷ []) []
alone (Saves form O) s = []
alone (Fetches t) s = []
alone Refreshes s = []

-- The plain calls of the own drive that a call stands for.
abbrev pub stands_for : Turn → Pair → List Act
stands_for (Own a) s = shared a s ++ alone a s
stands_for (Other a) s = shared a (exchanged s)

abbrev pub plain : Pair → List Turn → List Act
plain s turns = along leaves stands_for s turns

-- ---- rounds of the own drive

-- The name that a call serves to it: a slot of its own that is not refused says it first.
abbrev pub name_in : Answer → List ℕ
name_in a = cond (eqb a.number 0) (get_or a.values 0 0 ∷ []) []

abbrev pub name_own : Deed → Pair → List ℕ
name_own (Opens C) s = []
name_own (Reads form S) s = []
name_own (Adds x w) s = []
name_own (Removes x) s = []
name_own Slots s = name_in (answers_own Slots s)
name_own (Rounds O) s = []
name_own (Reports x) s = []
name_own (Saves form O) s = []
name_own (Fetches t) s = []
name_own Refreshes s = []

abbrev pub name_served : Turn → Pair → List ℕ
name_served (Own a) s = name_own a s
name_served (Other a) s = []

abbrev pub names_served : Pair → List Turn → List ℕ
names_served s turns = along leaves name_served s turns

-- A full round of the own drive: its first slot is called at position 1, and with those of its own among the calls that follow, none of them an open or a read
-- that is done, C slots are served. Other calls, those of the other drive too, may stand between them and after them.
pub record FullRound (s : Pair) (rest : List Turn) : Type 0 where
  pub first : s.own.position ≡ 1
  pub whole : Unbroken (leaves (Own Slots) s) rest
  pub slots : length (names_served s (Own Slots ∷ rest)) ≡ s.own.capacity

-- ---- tickets

-- The ticket that a call of either drive tells: an add or a remove that answers 13.
abbrev pub ticket_own : Deed → Pair → List ℕ
ticket_own (Opens C) s = []
ticket_own (Reads form S) s = []
ticket_own (Adds x w) s = ticket_in (answers_own (Adds x w) s)
ticket_own (Removes x) s = ticket_in (answers_own (Removes x) s)
ticket_own Slots s = []
ticket_own (Rounds O) s = []
ticket_own (Reports x) s = []
ticket_own (Saves form O) s = []
ticket_own (Fetches t) s = []
ticket_own Refreshes s = []

abbrev pub ticket_told : Turn → Pair → List ℕ
ticket_told (Own a) s = ticket_own a s
ticket_told (Other a) s = ticket_own a (exchanged s)

abbrev pub tickets_told : Pair → List Turn → List ℕ
tickets_told s turns = along leaves ticket_told s turns
