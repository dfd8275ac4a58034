-- What an import finds, answers and leaves of the board, the list, the output and the tables, for every input. The refusals 1, 2 and 11 are document
-- 01's; 16 is request No. 8's, 18 request No. 11's. k is the place of the one set digit of C. Assumes nothing.
use Rattle.std.specs.Prelude.{Bool, ◌||◌, cond, List, [], ◌∷◌, ◌++◌, ℕ, ltb, length, drop, Ok, Err}
use Rattle.std.specs.Int.Count.{ones}
use Rattle.pieces.specs.Fresh.{all_placed}
use Rattle.calls.specs.Answers.{Answer}
use Rattle.calls.specs.Records.{drive_at}
use Rattle.calls.specs.Refusals.{number_of, applies, asked_open, asked_output}
use Rattle.calls.specs.Results.{idle_board}
use Rattle.calls.specs.declared.Refusal.TheVariants.{Capacity, Short, Output}
use Rattle.tables.specs.Settling.{cleared_table}
use Rattle.waiting.specs.Layout.{too_short, emptied}
use Rattle.tree.specs.Marks.{levels}
use Rattle.groups.specs.Types.{Importing, Imported}
use Rattle.groups.specs.declared.Unimported.TheVariants as unimported
use Rattle.groups.specs.Table.{faulty, table_streams}
use Rattle.groups.specs.Rounds.{round_of}

-- 2, for the board and a list of n numbers; and with the lengths of the tables of over-allocated streams, the rates' and each drive's.
abbrev pub lent_short : ℕ → List ℕ → ℕ → Bool
lent_short C B n = applies Short (asked_open C B) || too_short n

abbrev pub shares_short : ℕ → List ℕ → ℕ → ℕ → ℕ → ℕ → Bool
shares_short C B n rates owed other = lent_short C B n || (ltb rates C || (ltb owed C || ltb other C))

-- The first refusal that applies, by whether 2 does and the length m of the output: 1; 16 where C has more than one set digit; 2; 18 for the table; 11 where the output
-- is shorter than C.
unfoldable pub finding : ℕ → List ℕ → List ℕ → Bool → ℕ → Importing
unfolding applies
finding C S N short m =
    cond (applies Capacity (asked_open C [])) (Err (unimported.Refused Capacity))
    (cond (ltb 1 (ones C)) (Err unimported.Power)
    (cond short (Err (unimported.Refused Short))
    (cond (faulty (levels C) S N) (Err unimported.Group)
    (cond (applies Output (asked_output (drive_at C 1) [] m C)) (Err (unimported.Refused Output)) (Ok tt)))))

-- The numbers an import may answer beside 0, in their order.
abbrev pub import_may : List ℕ
import_may = 1 ∷ 16 ∷ 2 ∷ 18 ∷ 11 ∷ []

-- The number of every case of the answer. There are no values.
abbrev pub number_by : Importing → ℕ
number_by (Ok tt) = 0
number_by (Err unimported.Power) = 16
number_by (Err unimported.Group) = 18
number_by (Err (unimported.Refused r)) = number_of r

abbrev pub importing_answer : Importing → Answer
importing_answer f = record { number = number_by f; values = [] }

-- What an import that is made gives, or what stands where it is refused.
abbrev pub if_made {ℓ} : {A : Type ℓ} → Importing → A → A → A
if_made (Ok tt) made was = made
if_made (Err unimported.Power) made was = was
if_made (Err unimported.Group) made was = was
if_made (Err (unimported.Refused r)) made was = was

-- Made of a table S, N: the record is that of an opened board, at p = 1 and with the round number 0; the streams are added to an opened board in table order; the
-- list is emptied; the output starts with the table's round; tables of over-allocated streams are cleared. Where it is refused the record is one of zeros, and
-- everything lent is as it was.
abbrev pub made_board : ℕ → List ℕ → List ℕ → List ℕ → List ℕ
made_board C S N B = all_placed C (idle_board C B) (table_streams (levels C) S N)

abbrev pub made_output : ℕ → List ℕ → List ℕ → List ℕ → List ℕ
made_output C S N O = round_of (levels C) S N ++ drop C O

abbrev pub result_by : Importing → ℕ → Imported
result_by f C = record { drive = if_made f (drive_at C 1) (drive_at 0 0); answer = f }

abbrev pub board_by : Importing → ℕ → List ℕ → List ℕ → List ℕ → List ℕ
board_by f C S N B = if_made f (made_board C S N B) B

abbrev pub list_by : Importing → List ℕ → List ℕ
list_by f L = if_made f (emptied L) L

abbrev pub output_by : Importing → ℕ → List ℕ → List ℕ → List ℕ → List ℕ
output_by f C S N O = if_made f (made_output C S N O) O

abbrev pub table_by : Importing → ℕ → List ℕ → List ℕ
table_by f C T = if_made f (cleared_table C T) T

-- What the checks of an import find.
abbrev pub finds : ℕ → List ℕ → List ℕ → List ℕ → List ℕ → List ℕ → Importing
finds C S N B L O = finding C S N (lent_short C B (length L)) (length O)

-- And with the tables: the rates T, and what is owed to each drive's streams, D and D'.
abbrev pub finds_shares : ℕ → List ℕ → List ℕ → List ℕ → List ℕ → List ℕ → List ℕ → List ℕ → List ℕ → Importing
finds_shares C S N B T D D' L O = finding C S N (shares_short C B (length L) (length T) (length D) (length D')) (length O)

-- import, for every input.
abbrev pub imported : ℕ → List ℕ → List ℕ → List ℕ → List ℕ → List ℕ → Imported
imported C S N B L O = result_by (finds C S N B L O) C

abbrev pub imported_answer : ℕ → List ℕ → List ℕ → List ℕ → List ℕ → List ℕ → Answer
imported_answer C S N B L O = importing_answer (finds C S N B L O)

abbrev pub imported_board : ℕ → List ℕ → List ℕ → List ℕ → List ℕ → List ℕ → List ℕ
imported_board C S N B L O = board_by (finds C S N B L O) C S N B

abbrev pub imported_list : ℕ → List ℕ → List ℕ → List ℕ → List ℕ → List ℕ → List ℕ
imported_list C S N B L O = list_by (finds C S N B L O) L

abbrev pub imported_output : ℕ → List ℕ → List ℕ → List ℕ → List ℕ → List ℕ → List ℕ
imported_output C S N B L O = output_by (finds C S N B L O) C S N O
