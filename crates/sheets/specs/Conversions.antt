-- A sheet of one form written as one of another: document 02, No. 9. Assumes nothing.
use Rattle.std.specs.Prelude.{◌≡◌, not, List, [], ◌∷◌, ◌++◌, ℕ, eqb, length, drop, replicate, Ok}
use Rattle.calls.specs.Refusals.{refuse_if, and_then}
use Rattle.calls.specs.Answers.{Answer, answered}
use Rattle.calls.specs.Results.{if_clear}
use Rattle.calls.specs.declared.Refusal.{Refusal}
use Rattle.calls.specs.declared.Refusal.TheVariants.{Capacity, Midround, Damaged, Output, Block}
use Rattle.calls.specs.Types.{Check}
use Rattle.sheets.specs.Sheet.{capacity_in}
use Rattle.sheets.specs.Forms.{Form, room_check, reading_check, loaded_board_as, saving_by, saving_answer}
use Rattle.sheets.specs.Results.{leaf_form, piece_form}
use Rattle.sheets.specs.Types.{Saving}

-- A conversion reads to a board of its own that no capacity in range exceeds, so that it checks as read does without 2.
unfoldable pub spare : List ℕ
spare = replicate 4095 0

-- the position that a form can be written at: 4 for the leaf form away from p = 1
abbrev pub at_start : ℕ → Check
at_start p = refuse_if (not (eqb p 1)) Midround (Ok tt)

abbrev pub anywhere : ℕ → Check
anywhere p = Ok tt

-- the board read, and the bytes that the other form needs for it
abbrev pub board_from : Form → List ℕ → List ℕ
board_from F s = loaded_board_as F s spare

abbrev pub size_from : Form → Form → List ℕ → ℕ
size_from F G s = G.size (capacity_in s) (board_from F s)

-- the refusals of read, then the position, then the output, of n bytes
unfoldable pub convert_check : Form → Form → (ℕ → Check) → List ℕ → ℕ → Check
convert_check F G at s n =
    and_then (reading_check F s spare) (and_then (at (F.position s)) (room_check n (size_from F G s)))

abbrev pub converted : Form → Form → (ℕ → Check) → List ℕ → List ℕ → Saving
converted F G at s O = saving_by (convert_check F G at s (length O)) (size_from F G s)

abbrev pub converted_answer : Form → Form → (ℕ → Check) → List ℕ → List ℕ → Answer
converted_answer F G at s O = answered (convert_check F G at s (length O)) (size_from F G s ∷ [])

abbrev pub converted_output : Form → Form → (ℕ → Check) → List ℕ → List ℕ → List ℕ
converted_output F G at s O =
    let done = G.sheet (capacity_in s) (F.position s) (board_from F s) ++ drop (size_from F G s) O in
    if_clear (convert_check F G at s (length O)) done O

-- What a conversion promises: its answer, the same in number and values, and what the output holds at exit (E).
abbrev pub Converts : Form → Form → (ℕ → Check) → List ℕ → List ℕ → Saving → List ℕ → Type 0
Converts F G at s O r E = (r ≡ converted F G at s O) × (saving_answer r ≡ converted_answer F G at s O) × (E ≡ converted_output F G at s O)

abbrev pub ToPieces : List ℕ → List ℕ → Saving → List ℕ → Type 0
ToPieces = Converts leaf_form piece_form anywhere

abbrev pub ToLeaves : List ℕ → List ℕ → Saving → List ℕ → Type 0
ToLeaves = Converts piece_form leaf_form at_start

-- What each may answer: that of its read without 2, on the way to the leaf form 4, and 11.
abbrev pub to_pieces_may : List Refusal
to_pieces_may = Capacity ∷ Damaged ∷ Output ∷ Block ∷ []

abbrev pub to_leaves_may : List Refusal
to_leaves_may = Capacity ∷ Midround ∷ Damaged ∷ Output ∷ Block ∷ []
