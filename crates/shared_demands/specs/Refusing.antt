-- Demand 1 for a change and a slot with tables: what a call that is not done answers, says and leaves.
-- Assumes nothing.
use Rattle.std.specs.Prelude.{◌≡◌, true, false, cond, List, [], ◌∷◌, ℕ, ◌+◌, eqb}
use Rattle.pieces.specs.Board.{weight}
use Rattle.calls.specs.Refusals.{zero_or}
use Rattle.calls.specs.Answers.{Answer}
use Rattle.demands.specs.Refusing.{zeros}
use Rattle.waiting.specs.Layout.{last_ticket}
use Rattle.shared_demands.specs.Turns.{Pair, Deed, answers_own, returned, state_after, list_after}

-- The numbers, beside 0, that an add, over-allocated or not, a remove and a slot may answer.
abbrev pub add_may : List ℕ
add_may = 1 ∷ 2 ∷ 3 ∷ 5 ∷ 6 ∷ 7 ∷ 14 ∷ 13 ∷ 8 ∷ 10 ∷ []

abbrev pub remove_may : List ℕ
remove_may = 1 ∷ 2 ∷ 3 ∷ 5 ∷ 6 ∷ 14 ∷ 13 ∷ 9 ∷ []

abbrev pub slot_may : List ℕ
slot_may = 1 ∷ 2 ∷ 3 ∷ 5 ∷ []

-- Zeros for values, but beside 13 the ticket and beside 10 the idle leaves there are.
abbrev pub refused_values : Pair → Answer → List ℕ
refused_values s r =
    cond (eqb r.number 13) ((last_ticket s.list + 1) ∷ []) (cond (eqb r.number 10) (weight s.own.capacity s.state.board 0 ∷ []) (zeros r.values))

-- A call that is not done: it answers a number of its list, returns the record that it was given, leaves the board and every table as they were, and the list but
-- for the order that a 13 puts there.
pub record Refused (may : List ℕ) (a : Deed) (s : Pair) : Type 0 where
  pub number : zero_or (answers_own a s).number may ≡ true
  pub record' : returned a s ≡ s.own
  pub state : state_after a s ≡ s.state
  pub list : eqb (answers_own a s).number 13 ≡ false → list_after a s ≡ s.list
  pub values : (answers_own a s).values ≡ refused_values s (answers_own a s)
