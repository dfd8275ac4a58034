-- What a change and a slot return and what they leave of the list, the board and the tables, for every input: a is the record of the drive that the call is for,
-- which comes back, b that of the other, which is only looked at. What happens on the board is what `orders` says, an over-allocated stream being one of R leaves.
-- Assumes nothing.
use Rattle.std.specs.Prelude.{Bool, cond, List, [], ◌∷◌, ℕ, eqb, length, Ok, Err}
use Rattle.pieces.specs.Placing.{placed}
use Rattle.pieces.specs.Tidying.{removed}
use Rattle.tables.specs.Sharing.{held_for}
use Rattle.tables.specs.Settling.{settled_table, rated_table}
use Rattle.tables.specs.Turns.{name_at, owed_at}
use Rattle.calls.specs.declared.Drive.{Drive}
use Rattle.calls.specs.Types.{Check, Change, Served}
use Rattle.calls.specs.Refusals.{add_check, remove_check}
use Rattle.calls.specs.Answers.{Answer, answered}
use Rattle.calls.specs.Results.{if_clear, serving_by, served_leaf, served_passed, served_round, moved_on}
use Rattle.waiting.specs.declared.Order.{Order}
use Rattle.waiting.specs.declared.Outcome.{Outcome}
use Rattle.waiting.specs.Layout.{waiting, taken_list, settled}
use Rattle.waiting.specs.Carrying.{carried_all, outcomes}
use Rattle.orders.specs.Types.{Ordered, Way}
use Rattle.orders.specs.declared.Moment.TheVariants as moment
use Rattle.orders.specs.Answers.{outcome_of}
use Rattle.orders.specs.Results as plain
use Rattle.drives.specs.Checks.{both_start}
use Rattle.shares.specs.States.{BoardTables, lent}
use Rattle.shares.specs.Checks.{list_check, way_of}

-- ---- one order carried out: kind 1 adds, kind 2 removes, kind 3 adds an over-allocated stream, any other is answered 7

abbrev pub over_order : ℕ → ℕ → Order
over_order x r = record { kind = 3; name = x; weight = r }

-- The order as the board has it: an over-allocated stream of weight r is one of R leaves.
unfoldable pub board_order : Order → Order
unfolding held_for
board_order o = cond (eqb o.kind 3) (plain.add_order o.name (held_for o.weight)) o

abbrev pub carried : Drive → BoardTables → Order → Change
carried d s o = plain.carried d s.board (board_order o)

-- A remove that is done settles every table: what stood at the old lowest leaf of a stream goes to its new one, and that of its own stream is gone.
unfoldable pub table_after : Drive → List ℕ → ℕ → List ℕ → List ℕ
table_after d B x T = let done = settled_table d.capacity B (removed d.capacity B x) T in if_clear (remove_check d B x) done T

-- An over-allocated add that is done enters r at the lowest leaf of its stream. Its deficits are 0 there.
unfoldable pub rates_after : Drive → List ℕ → ℕ → ℕ → List ℕ → List ℕ
rates_after d B x r T =
    let done = rated_table d.capacity (placed d.capacity B x (held_for r)) T x r in
    if_clear (add_check d B x (held_for r)) done T

-- The tables after an order of some kind.
unfoldable pub carried_rates : Drive → BoardTables → Order → List ℕ
unfolding table_after rates_after
carried_rates d s o =
    cond (eqb o.kind 2) (table_after d s.board o.name s.rates)
    (cond (eqb o.kind 3) (rates_after d s.board o.name o.weight s.rates) s.rates)

unfoldable pub carried_owed : Drive → List ℕ → Order → List ℕ → List ℕ
unfolding table_after
carried_owed d B o E = cond (eqb o.kind 2) (table_after d B o.name E) E

abbrev pub carried_state : Drive → BoardTables → Order → BoardTables
carried_state d s o =
    lent (plain.carried_board d s.board (board_order o)) (carried_rates d s o) (carried_owed d s.board o s.owed) (carried_owed d s.board o s.other)

-- ---- the list is run, at the record d

abbrev pub doing : Drive → Order → BoardTables → BoardTables
doing d o s = carried_state d s o

abbrev pub saying : Drive → Order → BoardTables → Outcome
saying d o s = outcome_of (carried d s o)

unfoldable pub ran_state : Drive → BoardTables → List ℕ → BoardTables
ran_state d s L = carried_all (doing d) s (waiting L)

unfoldable pub ran_list : Drive → BoardTables → List ℕ → List ℕ
ran_list d s L = settled L (outcomes (doing d) (saying d) s (waiting L))

-- ---- add, over-allocated add and remove, by the way that is chosen

abbrev pub state_by : Way → BoardTables → BoardTables → BoardTables
state_by (Err r) done s = s
state_by (Ok moment.Later) done s = s
state_by (Ok moment.Now) done s = done

abbrev pub changed : Drive → Drive → BoardTables → List ℕ → Order → Ordered
changed a b s L o = plain.changed_by (way_of a b s L o) a s.board L (board_order o)

abbrev pub changed_answer : Drive → Drive → BoardTables → List ℕ → Order → Answer
changed_answer a b s L o = plain.changed_answer_by (way_of a b s L o) a s.board L (board_order o)

abbrev pub changed_state : Drive → Drive → BoardTables → List ℕ → Order → BoardTables
changed_state a b s L o = state_by (way_of a b s L o) (carried_state a s o) s

abbrev pub changed_list : Drive → Drive → BoardTables → List ℕ → Order → List ℕ
changed_list a b s L o = plain.list_by (way_of a b s L o) (taken_list L o) L

-- ---- slot: where both records are at the start of a round the list is run; then the leaf is picked, and the stream there takes its turn by the deficits of the
-- own drive

abbrev pub state_if : Bool → Drive → BoardTables → List ℕ → BoardTables
state_if begins d s L = cond begins (ran_state d s L) s

abbrev pub list_if : Bool → Drive → BoardTables → List ℕ → List ℕ
list_if begins d s L = cond begins (ran_list d s L) L

unfoldable pub state_then : Drive → Drive → BoardTables → List ℕ → BoardTables
state_then a b s L = state_if (both_start a b) a s L

unfoldable pub list_then : Drive → Drive → BoardTables → List ℕ → List ℕ
list_then a b s L = list_if (both_start a b) a s L

-- The name that the slot of the record d goes to, and the board and tables after its turn.
abbrev pub turn_name : Drive → BoardTables → ℕ
turn_name d s = name_at d.capacity s.board s.rates s.owed (served_leaf d)

abbrev pub turn_state : Drive → BoardTables → BoardTables
turn_state d s = lent s.board s.rates (owed_at d.capacity s.board s.rates s.owed (served_leaf d)) s.other

-- By what the check k finds, on the board and tables t that the list has left.
abbrev pub served_by : Check → Drive → BoardTables → Served
served_by k d t = record { drive = if_clear k (moved_on d) d; answer = serving_by k (turn_name d t) (served_leaf d) (served_passed d) (served_round d) }

abbrev pub served_answer_by : Check → Drive → BoardTables → Answer
served_answer_by k d t = answered k (turn_name d t ∷ served_leaf d ∷ served_passed d ∷ served_round d ∷ [])

abbrev pub served : Drive → Drive → BoardTables → List ℕ → Served
served a b s L = served_by (list_check a b s (length L)) a (state_then a b s L)

abbrev pub served_answer : Drive → Drive → BoardTables → List ℕ → Answer
served_answer a b s L = served_answer_by (list_check a b s (length L)) a (state_then a b s L)

abbrev pub served_state : Drive → Drive → BoardTables → List ℕ → BoardTables
served_state a b s L = let done = turn_state a (state_then a b s L) in if_clear (list_check a b s (length L)) done s

abbrev pub served_list : Drive → Drive → BoardTables → List ℕ → List ℕ
served_list a b s L = if_clear (list_check a b s (length L)) (list_then a b s L) L
