-- An order that is carried out is a call made at once: request No. 2, and every set of calls with a waiting list.
-- Assumes nothing.
use Rattle.std.specs.Prelude.{cond, List, [], ◌∷◌, ◌++◌, eqb}
use Rattle.calls.specs.Answers.{Answer}
use Rattle.demands.specs.Histories.{Act, Add, Remove, State, after}
use Rattle.waiting.specs.declared.Order.{Order}
use Rattle.orders.specs.Results.{carried_answer}

-- The call that an order is: an add, a remove, or none; an order of another kind is answered 7 and does nothing.
unfoldable pub act_of : Order → List Act
act_of o = cond (eqb o.kind 1) (Add o.name o.weight ∷ []) (cond (eqb o.kind 2) (Remove o.name ∷ []) [])

unfoldable pub acts_of : List Order → List Act
acts_of [] = []
acts_of (o ∷ os) = act_of o ++ acts_of os

-- What an order is answered in its turn, when the orders ahead of it are carried out.
abbrev pub in_turn : State → List Order → Order → Answer
in_turn s ahead o = carried_answer (after s (acts_of ahead)).drive (after s (acts_of ahead)).board o
