-- What each call returns and what it leaves in each slice that it was lent, for every input: document 01, "Calls and refusal numbers".
-- A refused call gives back the record that it was given (open, one of zeros) and leaves every slice as it was.
-- Assumes nothing.
use Rattle.std.specs.Prelude.{cond, List, [], ◌∷◌, ◌++◌, map, ℕ, eqb, length, get_or, drop, replicate, Ok, Err}
use Rattle.sequences.specs.SlotOrder.{leaf_at, passed_from, served_from, next_from}
use Rattle.sequences.specs.Serving.{leaves_from}
use Rattle.pieces.specs.Board.{weight, piece_count}
use Rattle.pieces.specs.Placing as placing
use Rattle.pieces.specs.Tidying as tidying
use Rattle.pieces.specs.Fresh as layout
use Rattle.calls.specs.Records.{drive_at, moved_to}
use Rattle.calls.specs.Answers.{Answer, answered, answered_with, check_answer, beside}
use Rattle.calls.specs.Spacing.{spacing_in}
use Rattle.calls.specs.Refusals.{number_of, open_check, add_check, remove_check, slot_check, round_check, report_check, change_check}
use Rattle.calls.specs.declared.Drive.{Drive}
use Rattle.calls.specs.declared.Refusal.{Refusal}
use Rattle.calls.specs.Types.{Check, Checked, Changed, Change, Served, Serving, Reported, Report}
use Rattle.calls.specs.declared.Unchanged.TheVariants as unchanged

-- What a call that passes its checks gives, or what stands where it is refused.
abbrev pub if_clear {ℓ} : {A : Type ℓ} → Check → A → A → A
if_clear (Ok tt) done was = done
if_clear (Err r) done was = was

-- What open and read give back, by what their checks find: the record that they set, with C and p; refused, one with both zero.
abbrev pub set_by : Check → ℕ → ℕ → Checked
set_by k C p = record { drive = if_clear k (drive_at C p) (drive_at 0 0); answer = k }

-- The answers that have values, by what the checks find.
abbrev pub change_by : Check → ℕ → Change
change_by (Ok tt) idle = Ok idle
change_by (Err r) idle = Err (unchanged.Refused r)

-- Add's answer: the idle leaves left; ROOM, and no other refusal, has a case of its own, which says the idle leaves there are.
abbrev pub refused_for : Refusal → ℕ → Change
refused_for r idle = cond (eqb (number_of r) 10) (Err (unchanged.Room idle)) (Err (unchanged.Refused r))

abbrev pub admitted_by : Check → ℕ → ℕ → Change
admitted_by (Ok tt) left idle = Ok left
admitted_by (Err r) left idle = refused_for r idle

abbrev pub serving_by : Check → ℕ → ℕ → ℕ → ℕ → Serving
serving_by (Ok tt) name leaf passed round = Ok (record { name = name; leaf = leaf; passed = passed; round = round })
serving_by (Err r) name leaf passed round = Err r

abbrev pub report_by : Check → ℕ → ℕ → ℕ → Report
report_by (Ok tt) weight pieces spacing = Ok (record { weight = weight; pieces = pieces; spacing = spacing })
report_by (Err r) weight pieces spacing = Err r

-- open: C leaves become idle, p = 1, and the round number is 0.
abbrev pub opened : ℕ → List ℕ → Checked
opened C B = set_by (open_check C B) C 1

abbrev pub opened_answer : ℕ → List ℕ → Answer
opened_answer C B = check_answer (open_check C B)

-- C idle leaves; the entries beyond are as they were.
unfoldable pub idle_board : ℕ → List ℕ → List ℕ
idle_board C B = replicate C 0 ++ drop C B

abbrev pub opened_board : ℕ → List ℕ → List ℕ
opened_board C B = let done = idle_board C B in if_clear (open_check C B) done B

-- add: the weight is placed; the idle leaves left. Refused for ROOM, it returns the idle leaves there are.
abbrev pub added_board : Drive → List ℕ → ℕ → ℕ → List ℕ
added_board d B x w = let done = placing.placed d.capacity B x w in if_clear (add_check d B x w) done B

abbrev pub added_idle : Drive → List ℕ → ℕ → ℕ → ℕ
added_idle d B x w = weight d.capacity (placing.placed d.capacity B x w) 0

abbrev pub added : Drive → List ℕ → ℕ → ℕ → Changed
added d B x w =
    let left = added_idle d B x w in
    let idle = weight d.capacity B 0 in
    record { drive = d; answer = admitted_by (add_check d B x w) left idle }

abbrev pub added_answer : Drive → List ℕ → ℕ → ℕ → Answer
added_answer d B x w =
    let left = added_idle d B x w in
    let idle = weight d.capacity B 0 in
    answered_with (add_check d B x w) (left ∷ []) (λ r. beside (number_of r) idle ∷ [])

-- remove: all leaves of the name become idle, and the board is tidied; the idle leaves left.
abbrev pub removed_board : Drive → List ℕ → ℕ → List ℕ
removed_board d B x = let done = tidying.removed d.capacity B x in if_clear (remove_check d B x) done B

abbrev pub removed_idle : Drive → List ℕ → ℕ → ℕ
removed_idle d B x = weight d.capacity (tidying.removed d.capacity B x) 0

abbrev pub removed : Drive → List ℕ → ℕ → Changed
removed d B x = let idle = removed_idle d B x in record { drive = d; answer = change_by (remove_check d B x) idle }

abbrev pub removed_answer : Drive → List ℕ → ℕ → Answer
removed_answer d B x = let idle = removed_idle d B x in answered (remove_check d B x) (idle ∷ [])

-- fresh layout: as if every stream had been added to an opened board by falling weight, then rising name.
abbrev pub refreshed_board : Drive → List ℕ → List ℕ
refreshed_board d B = let done = layout.fresh d.capacity B in if_clear (change_check d B) done B

abbrev pub refreshed : Drive → List ℕ → Checked
refreshed d B = record { drive = d; answer = change_check d B }

abbrev pub refreshed_answer : Drive → List ℕ → Answer
refreshed_answer d B = check_answer (change_check d B)

-- slot: the name, the leaf, the terms passed over, and the number of the round that the slot belongs to, which is the record's before p moves on.
abbrev pub served_leaf : Drive → ℕ
served_leaf d = leaf_at d.capacity (served_from d.capacity d.position)

abbrev pub served_name : Drive → List ℕ → ℕ
served_name d B = get_or B (served_leaf d) 0

abbrev pub served_passed : Drive → ℕ
served_passed d = passed_from d.capacity d.position

abbrev pub served_round : Drive → ℕ
served_round d = d.round

abbrev pub moved_on : Drive → Drive
moved_on d = moved_to d (next_from d.capacity d.position)

abbrev pub served : Drive → List ℕ → Served
served d B =
    let name = served_name d B in
    let leaf = served_leaf d in
    let passed = served_passed d in
    let round = served_round d in
    let next = moved_on d in
    record { drive = if_clear (slot_check d B) next d; answer = serving_by (slot_check d B) name leaf passed round }

abbrev pub served_answer : Drive → List ℕ → Answer
served_answer d B = answered (slot_check d B) (served_name d B ∷ served_leaf d ∷ served_passed d ∷ served_round d ∷ [])

-- round: the C names of a full round from p = 1, at the start of the output; p is unchanged.
unfoldable pub slot_names : ℕ → List ℕ → ℕ → List ℕ
unfolding leaves_from
slot_names C B n = map (λ leaf. get_or B leaf 0) (leaves_from C 1 n)

abbrev pub round_names : ℕ → List ℕ → List ℕ
round_names C B = slot_names C B C

abbrev pub rounded_output : Drive → List ℕ → List ℕ → List ℕ
rounded_output d B O = let done = round_names d.capacity B ++ drop d.capacity O in if_clear (round_check d B (length O)) done O

abbrev pub rounded : Drive → List ℕ → List ℕ → Checked
rounded d B O = record { drive = d; answer = round_check d B (length O) }

abbrev pub rounded_answer : Drive → List ℕ → List ℕ → Answer
rounded_answer d B O = check_answer (round_check d B (length O))

-- report: weight, number of pieces, and spacing, read off the names of a round.
abbrev pub reported_spacing : Drive → List ℕ → ℕ → ℕ
reported_spacing d B x = spacing_in x (round_names d.capacity B)

abbrev pub reported : Drive → List ℕ → ℕ → Reported
reported d B x =
    let w = weight d.capacity B x in
    let n = piece_count d.capacity B x in
    let s = reported_spacing d B x in
    record { drive = d; answer = report_by (report_check d B x) w n s }

abbrev pub reported_answer : Drive → List ℕ → ℕ → Answer
reported_answer d B x = answered (report_check d B x) (weight d.capacity B x ∷ piece_count d.capacity B x ∷ reported_spacing d B x ∷ [])
