-- The types of what the list answers, by the names that the definitions use.
-- Assumes nothing.
use Rattle.std.specs.Prelude.{ℕ, Option, Result}
use Rattle.waiting.specs.declared.Held.{Held}
use Rattle.waiting.specs.declared.Outcome.{Outcome}
use Rattle.waiting.specs.declared.Unfetched.{Unfetched}

-- Of an order that is to wait: its ticket, if there is a place and a ticket for it.
abbrev pub Taking : Type 0
Taking = Option ℕ

-- Of a ticket: what the list holds under it.
abbrev pub Known : Type 0
Known = Option Held

-- Of fetch: what the order was answered.
abbrev pub Fetching : Type 0
Fetching = Result Outcome Unfetched
