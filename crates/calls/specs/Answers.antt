-- Document 01's number and values for every case of every answer: 0 and the values of a call that is done, the number and zeros of a refused one, but for
-- ROOM the idle leaves (document 02, No. 5).
-- Assumes nothing.
use Rattle.std.specs.Prelude.{cond, List, [], ◌∷◌, map, ℕ, eqb, Ok, Err}
use Rattle.calls.specs.Refusals.{number_of}
use Rattle.calls.specs.declared.Refusal.{Refusal}
use Rattle.calls.specs.declared.Refusal.TheVariants.{Room}
use Rattle.calls.specs.Types.{Check, Change, Serving, Report}
use Rattle.calls.specs.declared.Unchanged.TheVariants as unchanged

-- A number, and the values beside it.
pub record Answer : Type 0 where
  pub number : ℕ
  pub values : List ℕ

-- The number, by what the checks find: 0 where that is nothing.
abbrev pub number_by : Check → ℕ
number_by (Ok tt) = 0
number_by (Err r) = number_of r

-- The values, by what the checks find: those of a call that is done, or those that stand beside a refusal's number.
abbrev pub values_by : Check → List ℕ → (Refusal → List ℕ) → List ℕ
values_by (Ok tt) vs beside = vs
values_by (Err r) vs beside = beside r

abbrev pub answered_with : Check → List ℕ → (Refusal → List ℕ) → Answer
answered_with k vs beside = record { number = number_by k; values = values_by k vs beside }

-- Done is 0 and the values; a refusal is its number, and a zero for each value.
abbrev pub answered : Check → List ℕ → Answer
answered k vs = answered_with k vs (λ r. map (λ v. 0) vs)

-- What a refusal with the number n returns beside it, of a call that may answer ROOM: the idle leaves there are for 10, and zero for every other.
abbrev pub beside : ℕ → ℕ → ℕ
beside n idle = cond (eqb n 10) idle 0

-- Open, round, the fresh layout and read have no values.
abbrev pub check_answer : Check → Answer
check_answer k = answered k []

-- Add and remove: the idle leaves left; ROOM, the idle leaves there are.
abbrev pub change_answer : Change → Answer
change_answer (Ok idle) = record { number = 0; values = idle ∷ [] }
change_answer (Err (unchanged.Room idle)) = record { number = number_of Room; values = beside (number_of Room) idle ∷ [] }
change_answer (Err (unchanged.Refused r)) = record { number = number_of r; values = 0 ∷ [] }

-- Slot: the name, the leaf, the terms passed over, the number of its round.
abbrev pub serving_answer : Serving → Answer
serving_answer (Ok s) = record { number = 0; values = s.name ∷ s.leaf ∷ s.passed ∷ s.round ∷ [] }
serving_answer (Err r) = record { number = number_of r; values = 0 ∷ 0 ∷ 0 ∷ 0 ∷ [] }

-- Report: weight, number of pieces, spacing.
abbrev pub report_answer : Report → Answer
report_answer (Ok s) = record { number = 0; values = s.weight ∷ s.pieces ∷ s.spacing ∷ [] }
report_answer (Err r) = record { number = number_of r; values = 0 ∷ 0 ∷ 0 ∷ [] }
