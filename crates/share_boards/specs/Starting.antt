-- Save of each form of sheet and the fresh layout with tables, for every input: what they find, return, and leave of the output (E), the board and the tables (t).
-- Each is made only where both drives are at one place: the start of a round, or for a sheet of pieces any position. a is the record of the drive that the call is
-- for, which comes back, b that of the other; s is what is lent, O the output of save.
-- Assumes nothing.
use Rattle.std.specs.Prelude.{◌≡◌, Bool, true, false, cond, List, [], ◌∷◌, ◌++◌, ℕ, eqb, length, drop, Ok, Err}
use Rattle.pieces.specs.Fresh.{fresh}
use Rattle.tables.specs.Sharing.{all_zero}
use Rattle.tables.specs.Settling.{settled_table}
use Rattle.calls.specs.declared.Drive.{Drive}
use Rattle.calls.specs.Types.{Check, Checked}
use Rattle.calls.specs.Refusals.{number_of, and_then}
use Rattle.calls.specs.Answers.{Answer, check_answer}
use Rattle.calls.specs.Results.{if_clear}
use Rattle.sheets.specs.Types.{Saving}
use Rattle.sheets.specs.Forms.{Form, size_of, room_check}
use Rattle.sheets.specs.Results.{leaf_form, piece_form}
use Rattle.drives.specs.Checks.{both_start}
use Rattle.share_boards.specs.Types.{ShareSaving, ShareSaved}
use Rattle.share_boards.specs.declared.starting.Unsaved.TheVariants as unsaved
use Rattle.shares.specs.States.{BoardTables, lent}
use Rattle.shares.specs.Checks.{placed_check}

-- 1, 2, 3; 4 if either record is away from the start of a round; 5. The fresh layout has no other refusal.
abbrev pub start_check : Drive → Drive → BoardTables → Check
start_check a b s = placed_check (both_start a b) a b s false

-- The same, but 4 if the records are at different positions.
abbrev pub level_check : Drive → Drive → BoardTables → Check
level_check a b s = placed_check (eqb a.position b.position) a b s false

-- save of a form of sheet: what the check k finds, then 11 for an output of n bytes. Where none is found, 17 is given last, if an over-allocated stream is held.
unfoldable pub saving_check_as : Form → Check → Drive → BoardTables → ℕ → Check
saving_check_as F k a s n = and_then k (room_check n (size_of F a s.board))

abbrev pub saving_check : Drive → Drive → BoardTables → ℕ → Check
saving_check a b s n = saving_check_as leaf_form (start_check a b s) a s n

abbrev pub saving_pieces_check : Drive → Drive → BoardTables → ℕ → Check
saving_pieces_check a b s n = saving_check_as piece_form (level_check a b s) a s n

-- No over-allocated stream is held.
abbrev pub plain_kind : Drive → BoardTables → Bool
plain_kind a s = all_zero a.capacity s.rates

-- ---- save: the sheet's bytes at the start of the output, and how many they are

-- The number and the value of every case of its answer: 17 KIND and 0.
abbrev pub saving_answer : ShareSaving → Answer
saving_answer (Ok bytes) = record { number = 0; values = bytes ∷ [] }
saving_answer (Err unsaved.Kind) = record { number = 17; values = 0 ∷ [] }
saving_answer (Err (unsaved.Refused r)) = record { number = number_of r; values = 0 ∷ [] }

-- By what the checks find, and whether no over-allocated stream is held.
abbrev pub saving_by : Check → Bool → ℕ → ShareSaving
saving_by (Ok tt) none bytes = cond none (Ok bytes) (Err unsaved.Kind)
saving_by (Err r) none bytes = Err (unsaved.Refused r)

-- An answer of the save without tables.
abbrev pub plainly : Saving → ShareSaving
plainly (Ok bytes) = Ok bytes
plainly (Err r) = Err (unsaved.Refused r)

abbrev pub saved_answer_by : Check → Bool → ℕ → Answer
saved_answer_by (Ok tt) true bytes = record { number = 0; values = bytes ∷ [] }
saved_answer_by (Ok tt) false bytes = record { number = 17; values = 0 ∷ [] }
saved_answer_by (Err r) none bytes = record { number = number_of r; values = 0 ∷ [] }

-- Of a form of sheet, by what the check k finds.
abbrev pub saved_as : Form → Check → Drive → BoardTables → ShareSaved
saved_as F k a s = record { drive = a; answer = saving_by k (plain_kind a s) (size_of F a s.board) }

abbrev pub saved_answer_as : Form → Check → Drive → BoardTables → Answer
saved_answer_as F k a s = saved_answer_by k (plain_kind a s) (size_of F a s.board)

abbrev pub saved_output_as : Form → Check → Drive → BoardTables → List ℕ → List ℕ
saved_output_as F k a s O =
    let done = F.sheet a.capacity a.position s.board ++ drop (size_of F a s.board) O in
    if_clear k (cond (plain_kind a s) done O) O

abbrev pub SavesAs : Form → Check → Drive → BoardTables → List ℕ → ShareSaved → List ℕ → Type 0
SavesAs F k a s O r E = (r ≡ saved_as F k a s) × (saving_answer r.answer ≡ saved_answer_as F k a s) × (E ≡ saved_output_as F k a s O)

-- The sheet of leaves,
abbrev pub saved : Drive → Drive → BoardTables → List ℕ → ShareSaved
saved a b s O = saved_as leaf_form (saving_check a b s (length O)) a s

abbrev pub saved_answer : Drive → Drive → BoardTables → List ℕ → Answer
saved_answer a b s O = saved_answer_as leaf_form (saving_check a b s (length O)) a s

abbrev pub saved_output : Drive → Drive → BoardTables → List ℕ → List ℕ
saved_output a b s O = saved_output_as leaf_form (saving_check a b s (length O)) a s O

abbrev pub Saves : Drive → Drive → BoardTables → List ℕ → ShareSaved → List ℕ → Type 0
Saves a b s O r E = SavesAs leaf_form (saving_check a b s (length O)) a s O r E

-- and that of pieces, with the position that both drives are at.
abbrev pub saved_pieces : Drive → Drive → BoardTables → List ℕ → ShareSaved
saved_pieces a b s O = saved_as piece_form (saving_pieces_check a b s (length O)) a s

abbrev pub saved_pieces_answer : Drive → Drive → BoardTables → List ℕ → Answer
saved_pieces_answer a b s O = saved_answer_as piece_form (saving_pieces_check a b s (length O)) a s

abbrev pub saved_pieces_output : Drive → Drive → BoardTables → List ℕ → List ℕ
saved_pieces_output a b s O = saved_output_as piece_form (saving_pieces_check a b s (length O)) a s O

abbrev pub SavesPieces : Drive → Drive → BoardTables → List ℕ → ShareSaved → List ℕ → Type 0
SavesPieces a b s O r E = SavesAs piece_form (saving_pieces_check a b s (length O)) a s O r E

-- ---- the fresh layout: an over-allocated stream counts with R, and keeps r and its deficits, which follow to its new lowest leaf

abbrev pub refreshed : Drive → Drive → BoardTables → Checked
refreshed a b s = record { drive = a; answer = start_check a b s }

abbrev pub refreshed_answer : Drive → Drive → BoardTables → Answer
refreshed_answer a b s = check_answer (start_check a b s)

-- The board laid out afresh, and every table settled on it.
unfoldable pub afresh : ℕ → BoardTables → BoardTables
afresh C s =
    let B = s.board in
    let B'' = fresh C B in
    lent B'' (settled_table C B B'' s.rates) (settled_table C B B'' s.owed) (settled_table C B B'' s.other)

abbrev pub refreshed_state : Drive → Drive → BoardTables → BoardTables
refreshed_state a b s = if_clear (start_check a b s) (afresh a.capacity s) s

abbrev pub Refreshes : Drive → Drive → BoardTables → Checked → BoardTables → Type 0
Refreshes a b s r t = (r ≡ refreshed a b s) × (check_answer r.answer ≡ refreshed_answer a b s) × (t ≡ refreshed_state a b s)
