-- The waiting list: a lent run of 259 numbers or more, and what is done to it. Every run of so many numbers means a list.
--   number 0: the last ticket given; 1: how many answers are to be fetched, a; 2: how many orders wait, w. More than 64 of both mean 64.
--   then 64 places of four numbers. The first a hold answers, the next w hold orders, each in the order of arrival; the others are free.
--   a place: the ticket; then of an order the kind, the name, the weight; of an answer its number and value (the last is not looked at).
-- What an order does when it is carried out is not said here.
-- Assumes nothing.
use Rattle.std.specs.Prelude.{Bool, cond, not, ◌||◌, List, [], ◌∷◌, ℕ, zero, suc, ◌+◌, ◌-◌, ◌*◌, ◌%◌, eqb, ltb, length, get_or, set, Ok, Err, Option, Some, None}
use Rattle.waiting.specs.declared.Order.{Order}
use Rattle.waiting.specs.declared.Outcome.{Outcome}
use Rattle.waiting.specs.Types.{Taking, Known, Fetching}
use Rattle.waiting.specs.declared.Held.TheVariants as held
use Rattle.waiting.specs.declared.Unfetched.TheVariants as unfetched

-- ---- what stands on a list

-- A lent run of n numbers is too short for a list.
abbrev pub too_short : ℕ → Bool
too_short n = ltb n 259

unfoldable pub least : ℕ → ℕ → ℕ
least m n = cond (ltb m n) m n

abbrev pub last_ticket : List ℕ → ℕ
last_ticket L = get_or L 0 0

unfoldable pub answers_in : List ℕ → ℕ
answers_in L = least (get_or L 1 0) 64

unfoldable pub orders_in : List ℕ → ℕ
orders_in L = least (get_or L 2 0) (64 - answers_in L)

-- The places taken.
abbrev pub places_in : List ℕ → ℕ
places_in L = answers_in L + orders_in L

abbrev pub ticket_at : List ℕ → ℕ → ℕ
ticket_at L i = get_or L (3 + 4 * i) 0

unfoldable pub order_at : List ℕ → ℕ → Order
order_at L i = record { kind = get_or L (4 + 4 * i) 0 % 65536; name = get_or L (5 + 4 * i) 0 % 65536; weight = get_or L (6 + 4 * i) 0 % 65536 }

unfoldable pub outcome_at : List ℕ → ℕ → Outcome
outcome_at L i = record { number = get_or L (4 + 4 * i) 0; value = get_or L (5 + 4 * i) 0 }

-- The orders at the m places from i on, and those that wait.
unfoldable pub orders_from : List ℕ → ℕ → ℕ → List Order
orders_from L i zero = []
orders_from L i (suc m) = order_at L i ∷ orders_from L (suc i) m

unfoldable pub waiting : List ℕ → List Order
waiting L = orders_from L (answers_in L) (orders_in L)

-- The list with other counts.
unfoldable pub counted : List ℕ → ℕ → ℕ → List ℕ
counted L a w = set (set L 1 a) 2 w

-- ---- taking an order

-- No order is taken: the 64 places are taken, or the tickets are used up, the last being 2^64 - 1.
unfoldable pub full : List ℕ → Bool
full L = not (ltb (places_in L) 64) || not (ltb (last_ticket L) 18446744073709551615)

-- The list with an order at place i, under the ticket t.
unfoldable pub put_at : List ℕ → ℕ → ℕ → Order → List ℕ
put_at L i t o = set (set (set (set L (3 + 4 * i) t) (4 + 4 * i) o.kind) (5 + 4 * i) o.name) (6 + 4 * i) o.weight

-- The list with an order behind those that wait, under the next ticket.
unfoldable pub joined : List ℕ → Order → List ℕ
joined L o =
    let t = last_ticket L + 1 in
    counted (set (put_at L (places_in L) t o) 0 t) (answers_in L) (orders_in L + 1)

abbrev pub taken : List ℕ → Taking
taken L = cond (full L) None (Some (last_ticket L + 1))

abbrev pub taken_list : List ℕ → Order → List ℕ
taken_list L o = let more = joined L o in cond (full L) L more

-- ---- running the list

-- The list with an answer in place of the order at place i, and with answers at the places from i on.
unfoldable pub answered_at : List ℕ → ℕ → Outcome → List ℕ
answered_at L i r = set (set L (4 + 4 * i) r.number) (5 + 4 * i) r.value

unfoldable pub answered_from : List ℕ → ℕ → List Outcome → List ℕ
answered_from L i [] = L
answered_from L i (r ∷ rs) = answered_from (answered_at L i r) (suc i) rs

-- Every order has its answer, and none waits.
unfoldable pub settled : List ℕ → List Outcome → List ℕ
settled L rs = counted (answered_from L (answers_in L) rs) (places_in L) 0

-- ---- fetching

-- The first of the m places from i on that has the ticket t; where none has, the place after them.
unfoldable pub found_from : List ℕ → ℕ → ℕ → ℕ → ℕ
found_from L t i zero = i
found_from L t i (suc m) = let later = found_from L t (suc i) m in cond (eqb (ticket_at L i) t) i later

-- The first of n places that has the ticket t, if one has.
abbrev pub first_of : List ℕ → ℕ → ℕ → Option ℕ
first_of L t n = let i = found_from L t 0 n in cond (ltb i n) (Some i) None

unfoldable pub place_of : List ℕ → ℕ → ℕ
place_of L t = found_from L t 0 (places_in L)

-- What the list knows of a ticket. Ticket 0 is never known.
unfoldable pub found : List ℕ → ℕ → Known
found L t = cond (eqb t 0) None
    (cond (ltb (place_of L t) (answers_in L)) (Some (held.Answer (place_of L t))) (cond (ltb (place_of L t) (places_in L)) (Some held.Order) None))

-- The list with m numbers, from j on, replaced by those four further on.
unfoldable pub lowered : List ℕ → ℕ → ℕ → List ℕ
lowered L j zero = L
lowered L j (suc m) = lowered (set L j (get_or L (j + 4) 0)) (suc j) m

-- The list without the answer at place i: the later places move down.
unfoldable pub without_place : List ℕ → ℕ → List ℕ
without_place L i = counted (lowered L (3 + 4 * i) (4 * (places_in L - (i + 1)))) (answers_in L - 1) (orders_in L)

abbrev pub answer_of : Outcome → Fetching
answer_of r = Ok r

abbrev pub fetching_by : List ℕ → ℕ → Known → Fetching
fetching_by L t None = Err unfetched.Unknown
fetching_by L t (Some held.Order) = Err (unfetched.Waits t)
fetching_by L t (Some (held.Answer i)) = answer_of (outcome_at L i)

abbrev pub fetched_by : List ℕ → Known → List ℕ
fetched_by L None = L
fetched_by L (Some held.Order) = L
fetched_by L (Some (held.Answer i)) = without_place L i

-- A list that is too short knows no ticket.
abbrev pub fetched : List ℕ → ℕ → Fetching
fetched L t = cond (too_short (length L)) (Err unfetched.Unknown) (fetching_by L t (found L t))

abbrev pub fetched_list : List ℕ → ℕ → List ℕ
fetched_list L t = cond (too_short (length L)) L (fetched_by L (found L t))

-- ---- emptying

-- Nothing waits and nothing is to be fetched. The tickets count on.
unfoldable pub emptied : List ℕ → List ℕ
emptied L = counted L 0 0
