-- What save and read return and leave in each slice that they were lent, for every input and for any form of sheet: document 01, "Calls and
-- refusal numbers" and "The sheet". A refused save gives back the record that it was given, a refused read one with C and p zero; neither
-- changes a slice. Assumes nothing.
use Rattle.std.specs.Prelude.{◌≡◌, Bool, not, List, [], ◌∷◌, ◌++◌, ℕ, ltb, length, drop, Ok, Err}
use Rattle.calls.specs.Refusals.{Asked, refuse_if, first_of, and_then, asked_output, number_of, open_check, good_check}
use Rattle.calls.specs.Answers.{Answer, answered, check_answer}
use Rattle.calls.specs.Results.{if_clear, set_by}
use Rattle.calls.specs.declared.Drive.{Drive}
use Rattle.calls.specs.declared.Refusal.{Refusal}
use Rattle.calls.specs.declared.Refusal.TheVariants.{Capacity, Short, Damaged, Output, Block}
use Rattle.calls.specs.Types.{Check, Checked}
use Rattle.sheets.specs.Sheet.{capacity_in}
use Rattle.sheets.specs.Types.{Saved, Saving}

-- A form of sheet: what save of it may refuse, in its order; the bytes for C, p and a board, and how many they are; and of some bytes, given
-- their C, whether they keep its layout, and the position and the leaves that they hold.
pub record Form : Type 0 where
  pub may : List Refusal
  pub sheet : ℕ → ℕ → List ℕ → List ℕ
  pub size : ℕ → List ℕ → ℕ
  pub laid : ℕ → List ℕ → Bool
  pub position : List ℕ → ℕ
  pub leaves : ℕ → List ℕ → List ℕ

-- Document 01's number and values: save has one value, the bytes written.
abbrev pub saving_answer : Saving → Answer
saving_answer (Ok bytes) = record { number = 0; values = bytes ∷ [] }
saving_answer (Err r) = record { number = number_of r; values = 0 ∷ [] }

-- The answer of save, by what the checks find.
abbrev pub saving_by : Check → ℕ → Saving
saving_by (Ok tt) bytes = Ok bytes
saving_by (Err r) bytes = Err r

-- 11, of an output of n bytes where so many are needed.
abbrev pub room_check : ℕ → ℕ → Check
room_check n needed = refuse_if (ltb n needed) Output (Ok tt)

-- save: the sheet's bytes at the start of the output, and how many they are.
abbrev pub size_of : Form → Drive → List ℕ → ℕ
size_of F d B = F.size d.capacity B

unfoldable pub saving_check : Form → Drive → List ℕ → ℕ → Check
unfolding first_of
saving_check F d B n = first_of F.may (asked_output d B n (size_of F d B))

abbrev pub saved_as : Form → Drive → List ℕ → List ℕ → Saved
saved_as F d B O = record { drive = d; answer = saving_by (saving_check F d B (length O)) (size_of F d B) }

abbrev pub saved_answer_as : Form → Drive → List ℕ → List ℕ → Answer
saved_answer_as F d B O = answered (saving_check F d B (length O)) (size_of F d B ∷ [])

abbrev pub saved_output_as : Form → Drive → List ℕ → List ℕ → List ℕ
saved_output_as F d B O =
    let done = F.sheet d.capacity d.position B ++ drop (size_of F d B) O in
    if_clear (saving_check F d B (length O)) done O

-- The last part of save, where only the output may be refused: the sheet of a board at p put into an output O, which is E then.
abbrev pub Puts : Form → ℕ → ℕ → List ℕ → List ℕ → Saving → List ℕ → Type 0
Puts F C p B O r E =
    let size = F.size C B in
    (r ≡ saving_by (room_check (length O) size) size) × (E ≡ if_clear (room_check (length O) size) (F.sheet C p B ++ drop size O) O)

-- What is asked of a sheet alone: whether it breaks its layout.
abbrev pub asked_sheet : Bool → Asked
asked_sheet broken = record { capacity = 0; position = 0; board = []; name = 0; weight = 0; output = 0; needed = 0; broken = broken }

unfoldable pub block_check : Bool → Check
unfolding first_of
block_check broken = first_of (Block ∷ []) (asked_sheet broken)

-- What read may answer.
abbrev pub read_may : List Refusal
read_may = Capacity ∷ Short ∷ Damaged ∷ Block ∷ []

-- Its first checks: under 512 bytes, 12; C of block 0 out of range, 1, or the lent board too short, 2, as open has them.
unfoldable pub head_check : List ℕ → List ℕ → Check
head_check s B = and_then (block_check (ltb (length s) 512)) (open_check (capacity_in s) B)

-- The others, of what the sheet holds: anything wrong with length or layout, 12; its board not good, 5.
abbrev pub sheet_check : Form → ℕ → List ℕ → Check
sheet_check F C s = and_then (block_check (not (F.laid C s))) (good_check C (F.leaves C s))

-- read, in its own order.
unfoldable pub reading_check : Form → List ℕ → List ℕ → Check
reading_check F s B = and_then (head_check s B) (sheet_check F (capacity_in s) s)

-- the C leaves and p
abbrev pub loaded_as : Form → List ℕ → List ℕ → Checked
loaded_as F s B = set_by (reading_check F s B) (capacity_in s) (F.position s)

abbrev pub loaded_answer_as : Form → List ℕ → List ℕ → Answer
loaded_answer_as F s B = check_answer (reading_check F s B)

abbrev pub loaded_board_as : Form → List ℕ → List ℕ → List ℕ
loaded_board_as F s B =
    let done = F.leaves (capacity_in s) s ++ drop (capacity_in s) B in
    if_clear (reading_check F s B) done B

-- The last part of read, where its first checks are clear: what the sheet holds is tested, and the lent board B is E then.
abbrev pub Holds : Form → ℕ → List ℕ → List ℕ → Check → List ℕ → Type 0
Holds F C s B r E = (r ≡ sheet_check F C s) × (E ≡ if_clear r (F.leaves C s ++ drop C B) B)
