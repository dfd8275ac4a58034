-- Document 01, "Calls and refusal numbers": the table, the refusals that each call may answer, and the first of them that applies.
-- Assumes nothing.
use Rattle.std.specs.Prelude.{Bool, true, false, not, ◌||◌, List, [], ◌∷◌, map, ℕ, ◌-◌, ◌^◌, eqb, ltb, length, Ok, Err}
use Rattle.sequences.specs.SlotOrder.{digits}
use Rattle.pieces.specs.Board as pieces
use Rattle.calls.specs.declared.Drive.{Drive}
use Rattle.calls.specs.declared.Refusal.{Refusal}
use Rattle.calls.specs.declared.Refusal.TheVariants.{Capacity, Short, Position, Midround, Damaged, Name, Weight, Taken, Absent, Room, Output, Block}
use Rattle.calls.specs.Types.{Check}
use Rattle.calls.specs.Records.{drive_at}

-- The numbers of the table.
abbrev pub number_of : Refusal → ℕ
number_of Capacity = 1
number_of Short = 2
number_of Position = 3
number_of Midround = 4
number_of Damaged = 5
number_of Name = 6
number_of Weight = 7
number_of Taken = 8
number_of Absent = 9
number_of Room = 10
number_of Output = 11
number_of Block = 12

-- What a call was given: C and p, the board, the name and the weight, the length of the lent output and how much of it the call needs, and whether
-- the sheet that it reads breaks its layout. What a call does not take is 0.
pub record Asked : Type 0 where
  pub capacity : ℕ
  pub position : ℕ
  pub board : List ℕ
  pub name : ℕ
  pub weight : ℕ
  pub output : ℕ
  pub needed : ℕ
  pub broken : Bool

-- "Given exactly when": the lines of the table. Only the leaves 0 to C - 1 hold names.
unfoldable pub applies : Refusal → Asked → Bool
applies Capacity a = eqb a.capacity 0 || ltb 4095 a.capacity
applies Short a = ltb (length a.board) a.capacity
applies Position a = eqb a.position 0 || ltb (2 ^ digits a.capacity - 1) a.position
applies Midround a = not (eqb a.position 1)
applies Damaged a = not (pieces.good a.capacity a.board)
applies Name a = eqb a.name 0
applies Weight a = eqb a.weight 0
applies Taken a = ltb 0 (pieces.weight a.capacity a.board a.name)
applies Absent a = eqb (pieces.weight a.capacity a.board a.name) 0
applies Room a = ltb (pieces.weight a.capacity a.board 0) a.weight
applies Output a = ltb a.output a.needed
applies Block a = a.broken

-- A refusal where its test holds, and else what the others find.
abbrev pub refuse_if : Bool → Refusal → Check → Check
refuse_if true r others = Err r
refuse_if false r others = others

-- The first of a list of refusals that applies.
unfoldable pub first_of : List Refusal → Asked → Check
unfolding applies
first_of [] a = Ok tt
first_of (r ∷ rs) a = let others = first_of rs a in refuse_if (applies r a) r others

-- What one part of the checks finds, and where that is nothing what the next part finds.
abbrev pub and_then : Check → Check → Check
and_then (Ok tt) later = later
and_then (Err r) later = Err r

-- Checks that find nothing.
abbrev pub is_clear : Check → Bool
is_clear (Ok tt) = true
is_clear (Err r) = false

-- n is 0, or a number of the list.
unfoldable pub zero_or : ℕ → List ℕ → Bool
zero_or n [] = eqb n 0
zero_or n (m ∷ ms) = eqb n m || zero_or n ms

-- The numbers of a list of refusals.
abbrev pub numbers : List Refusal → List ℕ
numbers rs = map number_of rs

-- n is 0, or the number of a refusal of the list.
unfoldable pub among : ℕ → List Refusal → Bool
unfolding zero_or
among n rs = zero_or n (numbers rs)

-- What each call may answer, in its order.
abbrev pub open_may : List Refusal
open_may = Capacity ∷ Short ∷ []

abbrev pub add_may : List Refusal
add_may = Capacity ∷ Short ∷ Position ∷ Midround ∷ Damaged ∷ Name ∷ Weight ∷ Taken ∷ Room ∷ []

-- What add checks before it looks for room.
abbrev pub admit_may : List Refusal
admit_may = Capacity ∷ Short ∷ Position ∷ Midround ∷ Damaged ∷ Name ∷ Weight ∷ Taken ∷ []

abbrev pub remove_may : List Refusal
remove_may = Capacity ∷ Short ∷ Position ∷ Midround ∷ Damaged ∷ Name ∷ Absent ∷ []

abbrev pub slot_may : List Refusal
slot_may = Capacity ∷ Short ∷ Position ∷ []

abbrev pub round_may : List Refusal
round_may = Capacity ∷ Short ∷ Position ∷ Output ∷ []

abbrev pub report_may : List Refusal
report_may = Capacity ∷ Short ∷ Position ∷ Damaged ∷ Name ∷ Absent ∷ []

-- What add and remove have in common; the fresh layout may answer just these.
abbrev pub change_may : List Refusal
change_may = Capacity ∷ Short ∷ Position ∷ Midround ∷ Damaged ∷ []

-- What each call was given. Open has no record to start from: its capacity is the one asked for, and its position the one it would set.
abbrev pub given : Drive → List ℕ → ℕ → ℕ → ℕ → ℕ → Asked
given d B x w n m =
    record { capacity = d.capacity; position = d.position; board = B; name = x; weight = w; output = n; needed = m; broken = false }

abbrev pub asked_open : ℕ → List ℕ → Asked
asked_open C B = given (drive_at C 1) B 0 0 0 0

abbrev pub asked_add : Drive → List ℕ → ℕ → ℕ → Asked
asked_add d B x w = given d B x w 0 0

abbrev pub asked_name : Drive → List ℕ → ℕ → Asked
asked_name d B x = given d B x 0 0 0

abbrev pub asked : Drive → List ℕ → Asked
asked d B = given d B 0 0 0 0

abbrev pub asked_output : Drive → List ℕ → ℕ → ℕ → Asked
asked_output d B n m = given d B 0 0 n m

-- What the checks of each call find.
unfoldable pub open_check : ℕ → List ℕ → Check
unfolding first_of
open_check C B = first_of open_may (asked_open C B)

unfoldable pub add_check : Drive → List ℕ → ℕ → ℕ → Check
unfolding first_of
add_check d B x w = first_of add_may (asked_add d B x w)

unfoldable pub remove_check : Drive → List ℕ → ℕ → Check
unfolding first_of
remove_check d B x = first_of remove_may (asked_name d B x)

unfoldable pub slot_check : Drive → List ℕ → Check
unfolding first_of
slot_check d B = first_of slot_may (asked d B)

unfoldable pub round_check : Drive → List ℕ → ℕ → Check
unfolding first_of
round_check d B n = first_of round_may (asked_output d B n d.capacity)

unfoldable pub report_check : Drive → List ℕ → ℕ → Check
unfolding first_of
report_check d B x = first_of report_may (asked_name d B x)

-- What the parts of these checks find: first what add checks before it looks for room, and what add and remove have in common; then parts of a capacity and
-- a board alone.
unfoldable pub admit_check : Drive → List ℕ → ℕ → ℕ → Check
unfolding first_of
admit_check d B x w = first_of admit_may (asked_add d B x w)

unfoldable pub change_check : Drive → List ℕ → Check
unfolding first_of
change_check d B = first_of change_may (asked d B)

unfoldable pub position_check : ℕ → ℕ → Check
unfolding first_of
position_check C p = first_of (Position ∷ []) (asked (drive_at C p) [])

unfoldable pub good_check : ℕ → List ℕ → Check
unfolding first_of
good_check C B = first_of (Damaged ∷ []) (asked (drive_at C 1) B)

unfoldable pub held_check : ℕ → List ℕ → ℕ → Check
unfolding first_of
held_check C B x = first_of (Name ∷ Absent ∷ []) (asked_name (drive_at C 1) B x)

unfoldable pub new_check : ℕ → List ℕ → ℕ → ℕ → Check
unfolding first_of
new_check C B x w = first_of (Name ∷ Weight ∷ Taken ∷ []) (asked_add (drive_at C 1) B x w)
