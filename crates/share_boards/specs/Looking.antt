-- Round and report with tables, for every input: what they find, return and write. a is the record of the drive that the call is for, which comes back, b that of
-- the other; s is what is lent, and is not changed. O is the output, E the output at exit.
-- Assumes nothing.
use Rattle.std.specs.Prelude.{◌≡◌, List, [], ◌∷◌, ◌++◌, ℕ, length, drop}
use Rattle.pieces.specs.Board.{piece_count}
use Rattle.tables.specs.Turns.{round_serves, served_weight}
use Rattle.calls.specs.declared.Drive.{Drive}
use Rattle.calls.specs.declared.Refusal.{Refusal}
use Rattle.calls.specs.declared.Refusal.TheVariants.{Capacity, Short, Position, Damaged, Output}
use Rattle.calls.specs.Types.{Check, Checked, Reported}
use Rattle.calls.specs.Refusals.{and_then, round_check, held_check}
use Rattle.calls.specs.Answers.{Answer, answered, check_answer, report_answer}
use Rattle.calls.specs.Results.{if_clear, report_by}
use Rattle.calls.specs.Spacing.{spacing_in}
use Rattle.shares.specs.States.{BoardTables}
use Rattle.shares.specs.Checks.{look_check}

-- What round may answer, in its order; report may answer what it may without tables.
abbrev pub rounding_may : List Refusal
rounding_may = Capacity ∷ Short ∷ Position ∷ Damaged ∷ Output ∷ []

-- 1, 2, 3, 5; then round's 11, and report's 6 and 9.
unfoldable pub rounding_check : Drive → Drive → BoardTables → ℕ → Check
rounding_check a b s n = and_then (look_check a b s) (round_check a s.board n)

unfoldable pub reporting_check : Drive → Drive → BoardTables → ℕ → Check
reporting_check a b s x = and_then (look_check a b s) (held_check a.capacity s.board x)

-- ---- round: the C names of a full round from p = 1, every deficit taken as 0, at the start of the output

abbrev pub rounded : Drive → Drive → BoardTables → List ℕ → Checked
rounded a b s O = record { drive = a; answer = rounding_check a b s (length O) }

abbrev pub rounded_answer : Drive → Drive → BoardTables → List ℕ → Answer
rounded_answer a b s O = check_answer (rounding_check a b s (length O))

abbrev pub rounded_output : Drive → Drive → BoardTables → List ℕ → List ℕ
rounded_output a b s O =
    let done = round_serves a.capacity s.board s.rates ++ drop a.capacity O in
    if_clear (rounding_check a b s (length O)) done O

abbrev pub Rounds : Drive → Drive → BoardTables → List ℕ → Checked → List ℕ → Type 0
Rounds a b s O r E = (r ≡ rounded a b s O) × (check_answer r.answer ≡ rounded_answer a b s O) × (E ≡ rounded_output a b s O)

-- ---- report: how often a round serves the stream (r, or its leaves), its pieces, and the spacing over its serves as round writes them

abbrev pub reported_weight : Drive → BoardTables → ℕ → ℕ
reported_weight a s x = served_weight a.capacity s.board s.rates x

abbrev pub reported_pieces : Drive → BoardTables → ℕ → ℕ
reported_pieces a s x = piece_count a.capacity s.board x

abbrev pub reported_spacing : Drive → BoardTables → ℕ → ℕ
reported_spacing a s x = spacing_in x (round_serves a.capacity s.board s.rates)

abbrev pub reported : Drive → Drive → BoardTables → ℕ → Reported
reported a b s x =
    let w = reported_weight a s x in
    let n = reported_pieces a s x in
    let d = reported_spacing a s x in
    record { drive = a; answer = report_by (reporting_check a b s x) w n d }

abbrev pub reported_answer : Drive → Drive → BoardTables → ℕ → Answer
reported_answer a b s x = answered (reporting_check a b s x) (reported_weight a s x ∷ reported_pieces a s x ∷ reported_spacing a s x ∷ [])

abbrev pub Reports : Drive → Drive → BoardTables → ℕ → Reported → Type 0
Reports a b s x r = (r ≡ reported a b s x) × (report_answer r.answer ≡ reported_answer a b s x)
