-- The checks of a call with tables for two drives, and how a change is taken by them: a is the record of the drive that the call is for, b that of the other, s
-- the board and the tables.
-- Assumes nothing.
use Rattle.std.specs.Prelude.{◌≡◌, Bool, true, false, not, ◌||◌, List, ℕ, max, ◌≤◌, ltb, length, Ok}
use Rattle.calls.specs.declared.Drive.{Drive}
use Rattle.calls.specs.declared.Refusal.TheVariants.{Midround, Damaged}
use Rattle.calls.specs.Types.{Check}
use Rattle.calls.specs.Refusals.{refuse_if, and_then, slot_check}
use Rattle.waiting.specs.declared.Order.{Order}
use Rattle.waiting.specs.Layout.{too_short}
use Rattle.orders.specs.Types.{Way}
use Rattle.orders.specs.Checks.{order_check, waits_if, way_by}
use Rattle.drives.specs.Checks.{pair_check, both_start}
use Rattle.shares.specs.States.{BoardTables, fitting}

-- A table has fewer than C entries.
unfoldable pub too_few : ℕ → BoardTables → Bool
too_few C s = ltb (length s.rates) C || (ltb (length s.owed) C || ltb (length s.other) C)

-- 5, of the whole board and every table.
unfoldable pub fit_check : ℕ → BoardTables → Check
fit_check C s = refuse_if (not (fitting C s)) Damaged (Ok tt)

-- Every call: 1, 2, 3 of both records, 2 also for a table, by the larger C, or where something else that is lent is too short; 4 unless the drives are where the
-- call is made; 5.
unfoldable pub placed_check : Bool → Drive → Drive → BoardTables → Bool → Check
unfolding fit_check
placed_check there a b s short =
    and_then (pair_check a b s.board (short || too_few (max a.capacity b.capacity) s))
    (refuse_if (not there) Midround (fit_check a.capacity s))

-- One that is made wherever they are has no 4.
unfoldable pub share_check : Drive → Drive → BoardTables → Bool → Check
unfolding placed_check
share_check a b s short = placed_check true a b s short

-- With a list of n numbers, and with none.
abbrev pub list_check : Drive → Drive → BoardTables → ℕ → Check
list_check a b s n = share_check a b s (too_short n)

abbrev pub look_check : Drive → Drive → BoardTables → Check
look_check a b s = share_check a b s false

-- A change is made at once only where both records are at the start of a round and no order waits.
unfoldable pub way_of : Drive → Drive → BoardTables → List ℕ → Order → Way
way_of a b s L o = way_by (list_check a b s (length L)) (waits_if (both_start a b) L) (order_check a.capacity s.board o)

-- What is known once these checks find nothing, of either record d: slot's own checks are clear, the tables are long enough, and they fit the board.
pub record Ready (d : Drive) (s : BoardTables) : Type 0 where
  pub clear : slot_check d s.board ≡ Ok tt
  pub rates : d.capacity ≤ length s.rates
  pub owed : d.capacity ≤ length s.owed
  pub other : d.capacity ≤ length s.other
  pub fit : fitting d.capacity s ≡ true
