-- What each call with the list promises, for every input: the result, the same in numbers, what the board (E) and the list (F) hold at exit.
-- Assumes nothing.
use Rattle.std.specs.Prelude.{◌≡◌, Bool, List, ℕ, length}
use Rattle.calls.specs.declared.Drive.{Drive}
use Rattle.calls.specs.Types.{Check, Checked, Served}
use Rattle.calls.specs.Answers.{check_answer, serving_answer}
use Rattle.calls.specs.Results.{if_clear}
use Rattle.sheets.specs.Forms.{Form}
use Rattle.sheets.specs.Results.{leaf_form, piece_form}
use Rattle.waiting.specs.declared.Order.{Order}
use Rattle.waiting.specs.Layout.{taken_list}
use Rattle.orders.specs.Types.{Ordering, Ordered, Way}
use Rattle.orders.specs.Answers.{ordering_answer}
use Rattle.orders.specs.Results.{carried_board, changed_by, changed_answer_by, board_by, list_by, board_if, list_if, served_by, served_answer_by, changed, changed_answer, changed_board, changed_list, served, served_answer, served_board, served_list, opened, opened_answer, opened_board, opened_list, loaded_as, loaded_answer_as, loaded_board_as, loaded_list_as}

abbrev pub Opens : ℕ → List ℕ → List ℕ → Checked → List ℕ → List ℕ → Type 0
Opens C B L r E F =
    (r ≡ opened C B (length L)) × (check_answer r.answer ≡ opened_answer C B (length L)) × (E ≡ opened_board C B (length L)) × (F ≡ opened_list C B L)

abbrev pub LoadsAs : Form → List ℕ → List ℕ → List ℕ → Checked → List ℕ → List ℕ → Type 0
LoadsAs form s B L r E F =
    (r ≡ loaded_as form s B (length L)) × (check_answer r.answer ≡ loaded_answer_as form s B (length L))
    × (E ≡ loaded_board_as form s B (length L)) × (F ≡ loaded_list_as form s B L)

-- A sheet of leaves, and one of pieces, which is read at the position that it has.
abbrev pub Loads : List ℕ → List ℕ → List ℕ → Checked → List ℕ → List ℕ → Type 0
Loads = LoadsAs leaf_form

abbrev pub LoadsPieces : List ℕ → List ℕ → List ℕ → Checked → List ℕ → List ℕ → Type 0
LoadsPieces = LoadsAs piece_form

-- A change that is taken in the way k, and one of one drive.
abbrev pub Takes : Way → Drive → List ℕ → List ℕ → Order → Ordered → List ℕ → List ℕ → Type 0
Takes k d B L o r E F =
    (r ≡ changed_by k d B L o) × (ordering_answer r.answer ≡ changed_answer_by k d B L o) × (E ≡ board_by k (carried_board d B o) B) × (F ≡ list_by k (taken_list L o) L)

-- The same of the answer alone, beside the record as it was given.
abbrev pub Accepts : Way → Drive → List ℕ → List ℕ → Order → Ordering → List ℕ → List ℕ → Type 0
Accepts k d B L o a E F = Takes k d B L o (record { drive = d; answer = a }) E F

abbrev pub Orders : Drive → List ℕ → List ℕ → Order → Ordered → List ℕ → List ℕ → Type 0
Orders d B L o r E F = (r ≡ changed d B L o) × (ordering_answer r.answer ≡ changed_answer d B L o) × (E ≡ changed_board d B L o) × (F ≡ changed_list d B L o)

-- A slot that is served by what the check k finds, and one of one drive.
abbrev pub ServesBy : Check → Bool → Drive → List ℕ → List ℕ → Served → List ℕ → List ℕ → Type 0
ServesBy k begins d B L r E F =
    (r ≡ served_by k d (board_if begins d B L)) × (serving_answer r.answer ≡ served_answer_by k d (board_if begins d B L))
    × (E ≡ if_clear k (board_if begins d B L) B) × (F ≡ if_clear k (list_if begins d B L) L)

abbrev pub Serves : Drive → List ℕ → List ℕ → Served → List ℕ → List ℕ → Type 0
Serves d B L r E F = (r ≡ served d B L) × (serving_answer r.answer ≡ served_answer d B L) × (E ≡ served_board d B L) × (F ≡ served_list d B L)
