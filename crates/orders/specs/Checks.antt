-- The checks of the calls with the list, and how a change is taken by them. n is the length of the lent list.
-- Assumes nothing.
use Rattle.std.specs.Prelude.{◌≡◌, Bool, true, false, cond, not, List, ℕ, ◌≤◌, eqb, ltb, length, Ok, Err}
use Rattle.pieces.specs.Board.{good}
use Rattle.calls.specs.declared.Drive.{Drive}
use Rattle.calls.specs.declared.Refusal.{Refusal}
use Rattle.calls.specs.declared.Refusal.TheVariants.{Short, Damaged, Name, Weight}
use Rattle.calls.specs.Types.{Check}
use Rattle.calls.specs.Refusals.{refuse_if, and_then, open_check, slot_check, position_check}
use Rattle.sheets.specs.Sheet.{capacity_in}
use Rattle.sheets.specs.Forms.{Form, head_check, sheet_check}
use Rattle.sheets.specs.Results.{leaf_form}
use Rattle.waiting.specs.declared.Order.{Order}
use Rattle.waiting.specs.Layout.{too_short, orders_in}
use Rattle.orders.specs.Types.{Way}
use Rattle.orders.specs.declared.Moment.TheVariants as moment

-- 2 for the list.
abbrev pub long_check : ℕ → Check
long_check n = refuse_if (too_short n) Short (Ok tt)

-- open: 1, and 2 for the board or the list.
unfoldable pub lent_check : ℕ → List ℕ → ℕ → Check
lent_check C B n = and_then (open_check C B) (long_check n)

-- add, remove and slot: 1, 2 for the board or the list, 3.
unfoldable pub bounds_check : Drive → List ℕ → ℕ → Check
bounds_check d B n = and_then (lent_check d.capacity B n) (position_check d.capacity d.position)

-- read of a form of sheet, in its own order: under 512 bytes, 12; 1, and 2 for the board or the list; anything wrong with length or layout, 12; the sheet's board
-- not good, 5.
unfoldable pub reading_check : Form → List ℕ → List ℕ → ℕ → Check
reading_check F s B n = and_then (head_check s B) (and_then (long_check n) (sheet_check F (capacity_in s) s))

abbrev pub read_check : List ℕ → List ℕ → ℕ → Check
read_check = reading_check leaf_form

-- What read is refused for where the list is too short.
abbrev pub short_by : Check → Refusal
short_by (Ok tt) = Short
short_by (Err r) = r

abbrev pub short_list : List ℕ → List ℕ → Refusal
short_list s B = short_by (head_check s B)

-- An order that is to wait: 6, 7, which are of its words alone, and with them 5. A remove has no weight.
abbrev pub words_check : Order → Check
words_check o = refuse_if (eqb o.name 0) Name (refuse_if (cond (eqb o.kind 2) false (eqb o.weight 0)) Weight (Ok tt))

unfoldable pub order_check : ℕ → List ℕ → Order → Check
order_check C B o = refuse_if (not (good C B)) Damaged (words_check o)

-- A change waits if no round begins here, or if orders wait.
abbrev pub waits_if : Bool → List ℕ → Bool
waits_if begins L = cond begins (ltb 0 (orders_in L)) true

unfoldable pub must_wait : Drive → List ℕ → Bool
must_wait d L = waits_if (eqb d.position 1) L

-- How a change is taken, by what the first checks find, whether it waits, and what the checks of an order find. A change that is made at once
-- goes through the checks of the call of `calls`.
abbrev pub way_by : Check → Bool → Check → Way
way_by (Err r) waits order = Err r
way_by (Ok tt) false order = Ok moment.Now
way_by (Ok tt) true (Err r) = Err r
way_by (Ok tt) true (Ok _) = Ok moment.Later

unfoldable pub way_of : Drive → List ℕ → List ℕ → Order → Way
way_of d B L o = way_by (bounds_check d B (length L)) (must_wait d L) (order_check d.capacity B o)

-- What a caller of `take` and `serve` vouches for, with the check k that it made: where k is clear, slot's own checks are, and the list is long enough.
abbrev pub Vouches : Check → Drive → List ℕ → List ℕ → Type 0
Vouches k d B L = k ≡ Ok tt → (slot_check d B ≡ Ok tt) × (259 ≤ length L)
