-- What a list means: the last ticket given, the answers that are to be fetched and the orders that wait, each under its ticket, in the order of arrival; and
-- what taking, running, fetching and emptying make of it. proofs/Laws shows that they do just this to the numbers of a list.
-- Assumes nothing.
use Rattle.std.specs.Prelude.{cond, List, [], ◌∷◌, ◌++◌, map, ℕ, zero, suc, ◌+◌, ◌%◌, ◌≤◌, ◌<◌, eqb, length, Err}
use Rattle.waiting.specs.declared.Order.{Order}
use Rattle.waiting.specs.declared.Outcome.{Outcome}
use Rattle.waiting.specs.Types.{Fetching}
use Rattle.waiting.specs.declared.Unfetched.TheVariants as unfetched
use Rattle.waiting.specs.Layout.{last_ticket, answers_in, orders_in, ticket_at, order_at, outcome_at, answer_of}

-- An order or an answer under its ticket.
pub record Under (A : Type 0) : Type 0 where
  pub ticket : ℕ
  pub item : A

pub record Meaning : Type 0 where
  pub last : ℕ
  pub answers : List (Under Outcome)
  pub orders : List (Under Order)

-- What stands at the m places from i on.
unfoldable pub places : {A : Type 0} → (ℕ → A) → List ℕ → ℕ → ℕ → List (Under A)
places item L i zero = []
places item L i (suc m) = record { ticket = ticket_at L i; item = item i } ∷ places item L (suc i) m

unfoldable pub meaning : List ℕ → Meaning
meaning L = record {
  last = last_ticket L;
  answers = places (outcome_at L) L 0 (answers_in L);
  orders = places (order_at L) L (answers_in L) (orders_in L);
}

-- An order as it is kept. Its numbers have sixteen bits, so nothing of it is lost.
abbrev pub kept_order : Order → Order
kept_order o = record { kind = o.kind % 65536; name = o.name % 65536; weight = o.weight % 65536 }

pub record Fits (o : Order) : Type 0 where
  pub kind : o.kind < 65536
  pub name : o.name < 65536
  pub weight : o.weight < 65536

-- An order is taken: it stands behind all others, under the next ticket.
abbrev pub with_order : Meaning → Order → Meaning
with_order M o =
    record { last = M.last + 1; answers = M.answers; orders = M.orders ++ (record { ticket = M.last + 1; item = o } ∷ []) }

-- The list is run: the answers rs, each under its order's ticket, stand behind the others, and no order waits.
unfoldable pub each : List (Under Order) → List Outcome → List (Under Outcome)
each [] rs = []
each (o ∷ os) [] = []
each (o ∷ os) (r ∷ rs) = record { ticket = o.ticket; item = r } ∷ each os rs

abbrev pub with_answers : Meaning → List Outcome → Meaning
with_answers M rs = record { last = M.last; answers = M.answers ++ each M.orders rs; orders = [] }

-- An answer is fetched: it is taken off.
unfoldable pub dropped : ℕ → List (Under Outcome) → List (Under Outcome)
dropped t [] = []
dropped t (r ∷ rs) = let later = r ∷ dropped t rs in cond (eqb r.ticket t) rs later

abbrev pub without_answer : Meaning → ℕ → Meaning
without_answer M t = record { last = M.last; answers = cond (eqb t 0) M.answers (dropped t M.answers); orders = M.orders }

-- The list is emptied; the tickets count on.
abbrev pub with_nothing : Meaning → Meaning
with_nothing M = record { last = M.last; answers = []; orders = [] }

-- What a fetch says: the answer under the ticket, or that the order under it waits. Ticket 0 is never known.
unfoldable pub order_under : ℕ → List (Under Order) → Fetching
order_under t [] = Err unfetched.Unknown
order_under t (o ∷ os) = let later = order_under t os in cond (eqb o.ticket t) (Err (unfetched.Waits t)) later

unfoldable pub answer_under : ℕ → List (Under Outcome) → Fetching → Fetching
answer_under t [] other = other
answer_under t (r ∷ rs) other = let later = answer_under t rs other in cond (eqb r.ticket t) (answer_of r.item) later

abbrev pub told : Meaning → ℕ → Fetching
told M t = cond (eqb t 0) (Err unfetched.Unknown) (answer_under t M.answers (order_under t M.orders))

-- ---- a list as calls leave it

-- Tickets that rise, from above n up to z.
unfoldable pub Rising : ℕ → List ℕ → ℕ → Type 0
Rising n [] z = n ≤ z
Rising n (t ∷ ts) z = (n < t) × Rising t ts z

abbrev pub tickets : {A : Type 0} → List (Under A) → List ℕ
tickets us = map (λ u. u.ticket) us

-- The tickets rise from place to place; none is 0, and none is above the last one given.
abbrev pub Orderly : Meaning → Type 0
Orderly M = Rising 0 (tickets M.answers ++ tickets M.orders) M.last

-- A list as calls leave it.
pub record InOrder (L : List ℕ) : Type 0 where
  pub long : 259 ≤ length L
  pub orderly : Orderly (meaning L)
