-- The types of what the calls with a list answer, by the names that the definitions use.
-- Assumes nothing.
use Rattle.std.specs.Prelude.{Result}
use Rattle.calls.specs.declared.Refusal.{Refusal}
use Rattle.calls.specs.declared.Returned.{Returned}
use Rattle.orders.specs.declared.Accepted.{Accepted}
use Rattle.orders.specs.declared.Declined.{Declined}
use Rattle.orders.specs.declared.Moment.{Moment}

-- Of add and remove.
abbrev pub Ordering : Type 0
Ordering = Result Accepted Declined

abbrev pub Ordered : Type 0
Ordered = Returned Ordering

-- How a change is taken.
abbrev pub Way : Type 0
Way = Result Moment Refusal
