-- Open and read with tables, for every input: what they find, return, and leave of the list (F), the board and the tables (t). s is what is lent, S the bytes of a
-- sheet. The record is for both drives; refused, it is one with C and p zero.
-- Assumes nothing.
use Rattle.std.specs.Prelude.{◌≡◌, ◌||◌, List, ◌++◌, ℕ, length, drop, Ok}
use Rattle.tables.specs.Settling.{cleared_table}
use Rattle.calls.specs.declared.Refusal.TheVariants.{Short}
use Rattle.calls.specs.Types.{Check, Checked}
use Rattle.calls.specs.Refusals.{refuse_if, and_then, open_check}
use Rattle.calls.specs.Answers.{Answer, check_answer}
use Rattle.calls.specs.Results.{if_clear, set_by, idle_board}
use Rattle.sheets.specs.Sheet.{capacity_in}
use Rattle.sheets.specs.Forms.{Form, head_check, sheet_check}
use Rattle.sheets.specs.Results.{leaf_form, piece_form}
use Rattle.waiting.specs.Layout.{too_short, emptied}
use Rattle.shares.specs.States.{BoardTables, lent}
use Rattle.shares.specs.Checks.{too_few}

-- 2 for what is lent beside a board of C leaves: a list of n numbers, or a table.
unfoldable pub lent_check : ℕ → BoardTables → ℕ → Check
lent_check C s n = refuse_if (too_short n || too_few C s) Short (Ok tt)

-- open: 1, and 2 for the board, the list or a table.
unfoldable pub opening_check : ℕ → BoardTables → ℕ → Check
opening_check C s n = and_then (open_check C s.board) (lent_check C s n)

-- read of a form of sheet, in its own order: under 512 bytes, 12; 1, and 2 for the board, the list or a table; anything wrong with length or layout, 12; the
-- sheet's board not good, 5.
unfoldable pub reading_check_as : Form → List ℕ → BoardTables → ℕ → Check
reading_check_as form S s n = let C = capacity_in S in and_then (head_check S s.board) (and_then (lent_check C s n) (sheet_check form C S))

abbrev pub reading_check : List ℕ → BoardTables → ℕ → Check
reading_check = reading_check_as leaf_form

-- The board D, and the first C entries of every table cleared.
abbrev pub cleared : ℕ → List ℕ → BoardTables → BoardTables
cleared C D s = lent D (cleared_table C s.rates) (cleared_table C s.owed) (cleared_table C s.other)

-- ---- open: C leaves become idle, p = 1, the list is emptied

abbrev pub opened : ℕ → BoardTables → ℕ → Checked
opened C s n = set_by (opening_check C s n) C 1

abbrev pub opened_answer : ℕ → BoardTables → ℕ → Answer
opened_answer C s n = check_answer (opening_check C s n)

abbrev pub opened_state : ℕ → BoardTables → ℕ → BoardTables
opened_state C s n = let done = cleared C (idle_board C s.board) s in if_clear (opening_check C s n) done s

abbrev pub opened_list : ℕ → BoardTables → List ℕ → List ℕ
opened_list C s L = if_clear (opening_check C s (length L)) (emptied L) L

abbrev pub Opens : ℕ → BoardTables → List ℕ → Checked → BoardTables → List ℕ → Type 0
Opens C s L r t F =
    (r ≡ opened C s (length L)) × (check_answer r.answer ≡ opened_answer C s (length L)) × (t ≡ opened_state C s (length L)) × (F ≡ opened_list C s L)

-- ---- read of a form of sheet: its C leaves and its p, the list is emptied

abbrev pub loaded_as : Form → List ℕ → BoardTables → ℕ → Checked
loaded_as form S s n = set_by (reading_check_as form S s n) (capacity_in S) (form.position S)

abbrev pub loaded_answer_as : Form → List ℕ → BoardTables → ℕ → Answer
loaded_answer_as form S s n = check_answer (reading_check_as form S s n)

abbrev pub loaded_state_as : Form → List ℕ → BoardTables → ℕ → BoardTables
loaded_state_as form S s n =
    let C = capacity_in S in
    let done = cleared C (form.leaves C S ++ drop C s.board) s in
    if_clear (reading_check_as form S s n) done s

abbrev pub loaded_list_as : Form → List ℕ → BoardTables → List ℕ → List ℕ
loaded_list_as form S s L = if_clear (reading_check_as form S s (length L)) (emptied L) L

abbrev pub LoadsAs : Form → List ℕ → BoardTables → List ℕ → Checked → BoardTables → List ℕ → Type 0
LoadsAs form S s L r t F =
    (r ≡ loaded_as form S s (length L)) × (check_answer r.answer ≡ loaded_answer_as form S s (length L))
    × (t ≡ loaded_state_as form S s (length L)) × (F ≡ loaded_list_as form S s L)

-- A sheet of leaves, at p = 1,
abbrev pub loaded : List ℕ → BoardTables → ℕ → Checked
loaded = loaded_as leaf_form

abbrev pub loaded_answer : List ℕ → BoardTables → ℕ → Answer
loaded_answer = loaded_answer_as leaf_form

abbrev pub loaded_state : List ℕ → BoardTables → ℕ → BoardTables
loaded_state = loaded_state_as leaf_form

abbrev pub loaded_list : List ℕ → BoardTables → List ℕ → List ℕ
loaded_list = loaded_list_as leaf_form

abbrev pub Loads : List ℕ → BoardTables → List ℕ → Checked → BoardTables → List ℕ → Type 0
Loads = LoadsAs leaf_form

-- and one of pieces, at the position that it has.
abbrev pub LoadsPieces : List ℕ → BoardTables → List ℕ → Checked → BoardTables → List ℕ → Type 0
LoadsPieces = LoadsAs piece_form
