-- What demand 1 says of the calls with the list, as request No. 2 amends it.
-- Assumes nothing.
use Rattle.std.specs.Prelude.{◌≡◌, Bool, true, false, cond, List, [], ◌∷◌, ℕ, ◌+◌, eqb, Ok, Err}
use Rattle.pieces.specs.Board.{weight}
use Rattle.calls.specs.declared.Drive.{Drive}
use Rattle.calls.specs.Records.{drive_at}
use Rattle.calls.specs.Refusals.{zero_or}
use Rattle.calls.specs.Answers.{Answer}
use Rattle.calls.specs.Results.{rounded_output}
use Rattle.demands.specs.Refusing.{zeros}
use Rattle.sheets.specs.Forms.{saved_output_as}
use Rattle.waiting.specs.Types.{Fetching}
use Rattle.waiting.specs.declared.Unfetched.TheVariants as unfetched
use Rattle.waiting.specs.Layout.{last_ticket, fetched}
use Rattle.amended.specs.Deeds.{form_of, Deed, Opens, Reads, Adds, Removes, Slots, Rounds, Reports, Saves, Fetches, Refreshes, Desk, answers, returned, board_after, list_after}

-- The numbers, beside 0, that a call may answer. For a save of pieces 4 is for two drives at different positions alone.
abbrev pub may_answer : Deed → List ℕ
may_answer (Opens C) = 1 ∷ 2 ∷ []
may_answer (Reads form S) = 12 ∷ 1 ∷ 2 ∷ 5 ∷ []
may_answer (Adds x w) = 1 ∷ 2 ∷ 3 ∷ 5 ∷ 6 ∷ 7 ∷ 14 ∷ 13 ∷ 8 ∷ 10 ∷ []
may_answer (Removes x) = 1 ∷ 2 ∷ 3 ∷ 5 ∷ 6 ∷ 14 ∷ 13 ∷ 9 ∷ []
may_answer Slots = 1 ∷ 2 ∷ 3 ∷ []
may_answer (Rounds O) = 1 ∷ 2 ∷ 3 ∷ 11 ∷ []
may_answer (Reports x) = 1 ∷ 2 ∷ 3 ∷ 5 ∷ 6 ∷ 9 ∷ []
may_answer (Saves form O) = 1 ∷ 2 ∷ 3 ∷ 4 ∷ 5 ∷ 11 ∷ []
may_answer (Fetches t) = 13 ∷ 15 ∷ []
may_answer Refreshes = 1 ∷ 2 ∷ 3 ∷ 4 ∷ 5 ∷ []

-- A call is done: it answers 0; a fetch, that it hands an answer out, whatever that says.
abbrev pub hands_out : Fetching → Bool
hands_out (Ok said) = true
hands_out (Err (unfetched.Waits t)) = false
hands_out (Err unfetched.Unknown) = false

abbrev pub is_done : Deed → Desk → Bool
is_done (Opens C) s = eqb (answers (Opens C) s).number 0
is_done (Reads form S) s = eqb (answers (Reads form S) s).number 0
is_done (Adds x w) s = eqb (answers (Adds x w) s).number 0
is_done (Removes x) s = eqb (answers (Removes x) s).number 0
is_done Slots s = eqb (answers Slots s).number 0
is_done (Rounds O) s = eqb (answers (Rounds O) s).number 0
is_done (Reports x) s = eqb (answers (Reports x) s).number 0
is_done (Saves form O) s = eqb (answers (Saves form O) s).number 0
is_done (Fetches t) s = hands_out (fetched s.list t)
is_done Refreshes s = eqb (answers Refreshes s).number 0

-- The record that a refused call returns: the one it was given; open and read have none, and return zeros.
abbrev pub refused_record : Deed → Drive → Drive
refused_record (Opens C) d = drive_at 0 0
refused_record (Reads form S) d = drive_at 0 0
refused_record (Adds x w) d = d
refused_record (Removes x) d = d
refused_record Slots d = d
refused_record (Rounds O) d = d
refused_record (Reports x) d = d
refused_record (Saves form O) d = d
refused_record (Fetches t) d = d
refused_record Refreshes d = d

-- The ticket beside 13.
abbrev pub ticket_of : Deed → Desk → ℕ
ticket_of (Opens C) s = 0
ticket_of (Reads form S) s = 0
ticket_of (Adds x w) s = last_ticket s.list + 1
ticket_of (Removes x) s = last_ticket s.list + 1
ticket_of Slots s = 0
ticket_of (Rounds O) s = 0
ticket_of (Reports x) s = 0
ticket_of (Saves form O) s = 0
ticket_of (Fetches t) s = t
ticket_of Refreshes s = 0

-- The idle leaves beside 10.
abbrev pub idle_leaves : Desk → ℕ
idle_leaves s = weight s.state.drive.capacity s.state.board 0

-- The values of a refused call: as many zeros, but beside 13 the ticket and beside 10 the idle leaves there are.
abbrev pub refused_values : Deed → Desk → Answer → List ℕ
refused_values a s r = cond (eqb r.number 13) (ticket_of a s ∷ []) (cond (eqb r.number 10) (idle_leaves s ∷ []) (zeros r.values))

-- The output that a call is lent, and what it leaves there.
abbrev pub lent_output : Deed → List ℕ
lent_output (Opens C) = []
lent_output (Reads form S) = []
lent_output (Adds x w) = []
lent_output (Removes x) = []
lent_output Slots = []
lent_output (Rounds O) = O
lent_output (Reports x) = []
lent_output (Saves form O) = O
lent_output (Fetches t) = []
lent_output Refreshes = []

abbrev pub writes : Deed → Desk → List ℕ
writes (Opens C) s = []
writes (Reads form S) s = []
writes (Adds x w) s = []
writes (Removes x) s = []
writes Slots s = []
writes (Rounds O) s = rounded_output s.state.drive s.state.board O
writes (Reports x) s = []
writes (Saves form O) s = saved_output_as (form_of form) s.state.drive s.state.board O
writes (Fetches t) s = []
writes Refreshes s = []

-- What a call that is not done may still change: a change that answers 13 has put its order on the list.
abbrev pub joins : Deed → Answer → Bool
joins (Opens C) r = false
joins (Reads form S) r = false
joins (Adds x w) r = eqb r.number 13
joins (Removes x) r = eqb r.number 13
joins Slots r = false
joins (Rounds O) r = false
joins (Reports x) r = false
joins (Saves form O) r = false
joins (Fetches t) r = false
joins Refreshes r = false

-- A call that is not done: it answers a number of its list, returns the record that it was given, leaves the board, the lent output and the list as they were, and
-- gives zeros for values; but ROOM says the idle leaves, and 13 the ticket, and a change that answers 13 has put its order on the list. r is what it says, d
-- the record it returns, E, F and O what it leaves of the board, the list and the output: for every set of calls.
pub record RefusedBy (a : Deed) (s : Desk) (r : Answer) (d : Drive) (E F O : List ℕ) : Type 0 where
  pub number : zero_or r.number (may_answer a) ≡ true
  pub record' : d ≡ refused_record a s.state.drive
  pub board : E ≡ s.state.board
  pub list : joins a r ≡ false → F ≡ s.list
  pub output : O ≡ lent_output a
  pub values : r.values ≡ refused_values a s r

abbrev pub Refused : Deed → Desk → Type 0
Refused a s = RefusedBy a s (answers a s) (returned a s) (board_after a s) (list_after a s) (writes a s)

-- A call whose 5 is of the board as it stands: read's is of the sheet's, and fetch hands out what was answered before.
abbrev pub of_board : Deed → Bool
of_board (Opens C) = true
of_board (Reads form S) = false
of_board (Adds x w) = true
of_board (Removes x) = true
of_board Slots = true
of_board (Rounds O) = true
of_board (Reports x) = true
of_board (Saves form O) = true
of_board (Fetches t) = false
of_board Refreshes = true
