-- What the exported calls with tables promise, for every input: the reply, and what the board and the tables (t), the list (F) and the output (E) hold at exit; s is
-- what is lent of the board and the tables, a the record of the drive that the call is for, b that of the other.
-- Assumes nothing.
use Rattle.std.specs.Prelude.{◌≡◌, List, ℕ, length}
use Rattle.calls.specs.declared.Drive.{Drive}
use Rattle.waiting.specs.declared.Order.{Order}
use Rattle.shares.specs.States.{BoardTables, lent}
use Rattle.sheets.specs.Forms.{Form}
use Rattle.sheets.specs.Results.{leaf_form, piece_form}
use Rattle.share_boards.specs.Opening.{opened, opened_answer, opened_state, opened_list, loaded_as, loaded_answer_as, loaded_state_as, loaded_list_as}
use Rattle.shares.specs.Results.{changed_answer, changed_state, changed_list}
use Rattle.share_boards.specs.Looking.{rounded_answer, rounded_output, reported_answer}
use Rattle.share_boards.specs.Starting.{saved_answer, saved_output, saved_pieces_answer, saved_pieces_output, refreshed_answer, refreshed_state}
use Rattle.groups.specs.Types.{Importing}
use Rattle.groups.specs.Results.{importing_answer, result_by, board_by, list_by, output_by, table_by}
use Rattle.replies.specs.declared.Reply.{Reply}
use Rattle.replies.specs.Replies.{reply}

abbrev pub ShareOpens : ℕ → BoardTables → List ℕ → Reply → BoardTables → List ℕ → Type 0
ShareOpens C s L r t F =
    (r ≡ reply (opened C s (length L)).drive (opened_answer C s (length L))) × (t ≡ opened_state C s (length L)) × (F ≡ opened_list C s L)

-- read of a form of sheet, and of the two there are
abbrev pub ShareLoadsAs : Form → List ℕ → BoardTables → List ℕ → Reply → BoardTables → List ℕ → Type 0
ShareLoadsAs form S s L r t F =
    (r ≡ reply (loaded_as form S s (length L)).drive (loaded_answer_as form S s (length L))) × (t ≡ loaded_state_as form S s (length L)) × (F ≡ loaded_list_as form S s L)

abbrev pub ShareLoads : List ℕ → BoardTables → List ℕ → Reply → BoardTables → List ℕ → Type 0
ShareLoads = ShareLoadsAs leaf_form

abbrev pub ShareLoadsPieces : List ℕ → BoardTables → List ℕ → Reply → BoardTables → List ℕ → Type 0
ShareLoadsPieces = ShareLoadsAs piece_form

abbrev pub ShareOrders : Drive → Drive → BoardTables → List ℕ → Order → Reply → BoardTables → List ℕ → Type 0
ShareOrders a b s L o r t F = (r ≡ reply a (changed_answer a b s L o)) × (t ≡ changed_state a b s L o) × (F ≡ changed_list a b s L o)

abbrev pub ShareRounds : Drive → Drive → BoardTables → List ℕ → Reply → List ℕ → Type 0
ShareRounds a b s O r E = (r ≡ reply a (rounded_answer a b s O)) × (E ≡ rounded_output a b s O)

abbrev pub ShareReports : Drive → Drive → BoardTables → ℕ → Reply → Type 0
ShareReports a b s x r = r ≡ reply a (reported_answer a b s x)

abbrev pub ShareSaves : Drive → Drive → BoardTables → List ℕ → Reply → List ℕ → Type 0
ShareSaves a b s O r E = (r ≡ reply a (saved_answer a b s O)) × (E ≡ saved_output a b s O)

abbrev pub ShareSavesPieces : Drive → Drive → BoardTables → List ℕ → Reply → List ℕ → Type 0
ShareSavesPieces a b s O r E = (r ≡ reply a (saved_pieces_answer a b s O)) × (E ≡ saved_pieces_output a b s O)

abbrev pub ShareRefreshes : Drive → Drive → BoardTables → Reply → BoardTables → Type 0
ShareRefreshes a b s r t = (r ≡ reply a (refreshed_answer a b s)) × (t ≡ refreshed_state a b s)

-- The import of a group table S, N of which the checks find f: its round is at the start of the output O, and the tables are cleared as the board is opened.
abbrev pub ShareImports : Importing → ℕ → List ℕ → List ℕ → BoardTables → List ℕ → List ℕ → Reply → BoardTables → List ℕ → List ℕ → Type 0
ShareImports f C S N s L O r t F G =
    (r ≡ reply (result_by f C).drive (importing_answer f))
    × (t ≡ lent (board_by f C S N s.board) (table_by f C s.rates) (table_by f C s.owed) (table_by f C s.other)) × (F ≡ list_by f L) × (G ≡ output_by f C S N O)
