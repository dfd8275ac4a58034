-- What save and read of each form return and leave in each slice that they were lent, for every input: the instances of what Forms says of any form.
-- Assumes nothing.
use Rattle.std.specs.Prelude.{List, [], ◌∷◌, ℕ, ◌*◌, length}
use Rattle.pieces.specs.Listing.{named_pieces}
use Rattle.calls.specs.Answers.{Answer}
use Rattle.calls.specs.declared.Drive.{Drive}
use Rattle.calls.specs.declared.Refusal.{Refusal}
use Rattle.calls.specs.declared.Refusal.TheVariants.{Capacity, Short, Position, Midround, Damaged, Output}
use Rattle.calls.specs.Types.{Check, Checked}
use Rattle.sheets.specs.Sheet.{blocks, sheet, sheet_leaves, laid}
use Rattle.sheets.specs.Entries.{entry_blocks, entry_sheet, position_in, spelled, entries_laid}
pub use Rattle.sheets.specs.Forms.{saving_answer, saving_by, asked_sheet, block_check, head_check, read_may}
use Rattle.sheets.specs.Forms.{Form, saving_check, saved_as, saved_answer_as, saved_output_as, reading_check, loaded_as, loaded_answer_as, loaded_board_as}
use Rattle.sheets.specs.Types.{Saved}

-- ---- the leaf form: saved and read at p = 1 alone

abbrev pub save_may : List Refusal
save_may = Capacity ∷ Short ∷ Position ∷ Midround ∷ Damaged ∷ Output ∷ []

abbrev pub leaf_form : Form
leaf_form = record {
  may = save_may;
  sheet = λ C p B. sheet C B;
  size = λ C B. 512 * blocks C;
  laid = laid;
  position = λ s. 1;
  leaves = sheet_leaves;
}

abbrev pub save_check : Drive → List ℕ → ℕ → Check
save_check = saving_check leaf_form

abbrev pub saved : Drive → List ℕ → List ℕ → Saved
saved = saved_as leaf_form

abbrev pub saved_answer : Drive → List ℕ → List ℕ → Answer
saved_answer = saved_answer_as leaf_form

abbrev pub saved_output : Drive → List ℕ → List ℕ → List ℕ
saved_output = saved_output_as leaf_form

abbrev pub read_check : List ℕ → List ℕ → Check
read_check = reading_check leaf_form

abbrev pub loaded : List ℕ → List ℕ → Checked
loaded = loaded_as leaf_form

abbrev pub loaded_answer : List ℕ → List ℕ → Answer
loaded_answer = loaded_answer_as leaf_form

abbrev pub loaded_board : List ℕ → List ℕ → List ℕ
loaded_board = loaded_board_as leaf_form

-- ---- the piece form: saved at any position and read back with it

abbrev pub save_pieces_may : List Refusal
save_pieces_may = Capacity ∷ Short ∷ Position ∷ Damaged ∷ Output ∷ []

abbrev pub piece_form : Form
piece_form = record {
  may = save_pieces_may;
  sheet = entry_sheet;
  size = λ C B. 512 * entry_blocks (length (named_pieces C B));
  laid = entries_laid;
  position = position_in;
  leaves = spelled;
}
