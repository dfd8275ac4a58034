-- Histories of two drives with tables, computed. C = 4: an over-allocated stream of weight 3 beside an order that waits. C = 6: a remove that moves the piece of one.
-- Assumes nothing.
use mathlib.Core.Path.{◌≡◌, refl}
use mathlib.Core.List.{List, [], ◌∷◌}
use Prim.Native.Nat.{ℕ}
use lib.ListN.{replicate, take}
use Rattle.general.specs.Tests.{every}
use Rattle.sequences.specs.SlotOrder.{digits, leaf_at, next_from}
use Rattle.pieces.specs.Board.{uniform, whole, pieces, weight, nth, single, sound, sum}
use Rattle.pieces.specs.Placing.{fill, first, fit, spot, put, place}
use Rattle.pieces.specs.Tidying.{copy, move, twin, join, pair, step, tidy, clear}
use Rattle.calls.specs.Records.{drive_at}
use Rattle.calls.specs.Refusals.{applies, add_check, remove_check, slot_check}
use Rattle.tables.specs.Sharing.{held_for, lowest, leads, all_zero, rate_fits, rates_fit, owed_fits, owed_fit, all_owed_fit, fits}
use Rattle.tables.specs.Settling.{written, settled_at, settled_table, rated_table}
use Rattle.tables.specs.Turns.{owed_next, turn_name, turn_owed}
use Rattle.demands.specs.Histories.{Add, Remove, Slot}
use Rattle.waiting.specs.Layout.{least, answers_in, orders_in, order_at, outcome_at, orders_from, waiting, counted, full, put_at, joined, answered_at, answered_from, settled, found_from, place_of, found, lowered, without_place}
use Rattle.waiting.specs.Carrying.{carried_all, outcomes}
use Rattle.orders.specs.Checks.{order_check}
use Rattle.orders.specs.Results.{add_order, remove_order, carried, carried_answer, carried_board}
use Rattle.drives.specs.Checks.{size_check, place_check, pair_check, both_start}
use Rattle.shares.specs.States.{lent}
use Rattle.shares.specs.Checks.{too_few, share_check, way_of}
use Rattle.shares.specs.Results.{over_order, board_order, table_after, rates_after, carried_rates, carried_owed, ran_state, ran_list, state_then, list_then}
use Rattle.amended.specs.Histories.{through, along, following}
use Rattle.amended.specs.Carried.{act_of, acts_of}
use Rattle.shared_demands.specs.Turns.{Pair, Changes, Slots, Turn, Own, Other, answers, leaves, leaves_all, due, plain, names_served, leaves_given, FullRound}
use Rattle.shared_demands.specs.Holding.{Ready, asked_by, asked_all, asked_through}

-- what a call answers: the number, then the values
abbrev said : Turn → Pair → List (List ℕ)
said t s = ((answers t s).number ∷ (answers t s).values) ∷ []

-- an opened board, its tables cleared
abbrev opened : ℕ → Pair
opened C = record { own = drive_at C 1; other = drive_at C 1; state = lent (replicate C 0) (replicate C 0) (replicate C 0) (replicate C 0); list = replicate 259 0 }

-- ---- C = 4: stream 9 asks for 3 and holds 4. An order of the other drive waits, since the own drive is within its round; the other drive's slot moves the other
-- drive's deficit alone.

abbrev over : Pair
over = leaves_all (opened 4) (Own (Changes (over_order 9 3)) ∷ [])

abbrev rest : List Turn
rest = Other (Changes (over_order 5 1)) ∷ Other Slots ∷ Own Slots ∷ Own Slots ∷ Own Slots ∷ []

begins : Ready (opened 4)
unfolding digits leaf_at next_from uniform whole pieces weight nth single sound sum applies slot_check held_for lowest leads every all_zero rate_fits rates_fit owed_fits owed_fit all_owed_fit fits size_check place_check pair_check too_few share_check
begins = record { clear = refl; none = refl }

round :
    (along leaves said (opened 4) (Own (Changes (over_order 9 3)) ∷ Own Slots ∷ rest)
    ≡ (0 ∷ 0 ∷ []) ∷ (0 ∷ 9 ∷ 0 ∷ 0 ∷ 0 ∷ []) ∷ (13 ∷ 1 ∷ []) ∷ (0 ∷ 9 ∷ 0 ∷ 0 ∷ 0 ∷ []) ∷ (0 ∷ 9 ∷ 2 ∷ 1 ∷ 0 ∷ []) ∷ (0 ∷ 9 ∷ 1 ∷ 1 ∷ 0 ∷ []) ∷ (0 ∷ 0 ∷ 3 ∷ 1 ∷ 0 ∷ []) ∷ [])
    × (names_served over (Own Slots ∷ rest) ≡ 9 ∷ 9 ∷ 9 ∷ 0 ∷ [])
    × (leaves_given over (Own Slots ∷ rest) ≡ 9 ∷ 9 ∷ 9 ∷ 9 ∷ [])
    × ((leaves_all over (Own Slots ∷ rest)).state ≡ lent (replicate 4 9) (3 ∷ 0 ∷ 0 ∷ 0 ∷ []) (replicate 4 0) (1 ∷ 0 ∷ 0 ∷ 0 ∷ []))
    × (plain (opened 4) (Own (Changes (over_order 9 3)) ∷ Own Slots ∷ rest) ≡ Add 9 4 ∷ Slot ∷ Slot ∷ Slot ∷ Slot ∷ [])
    × FullRound over rest
unfolding through along act_of acts_of due add_check remove_check slot_check uniform whole pieces weight nth single sound sum fill first fit spot put place copy move twin join pair step tidy clear digits leaf_at next_from least answers_in orders_in order_at outcome_at orders_from waiting counted full put_at joined answered_at answered_from settled found_from place_of found lowered without_place carried_all outcomes carried carried_answer carried_board order_check applies size_check place_check pair_check both_start held_for lowest leads every all_zero rate_fits rates_fit owed_fits owed_fit all_owed_fit fits written settled_at settled_table rated_table owed_next turn_name turn_owed too_few share_check way_of board_order table_after rates_after carried_rates carried_owed ran_state ran_list state_then list_then
round = (refl, refl, refl, refl, refl, record { first = refl; slots = refl })

-- ---- C = 6: stream 1 holds leaves 4 and 5, stream 9, which is over-allocated, leaves 0 and 1. Once 1 is removed 9 moves, to make room for 4, and r moves with it.

abbrev changes : List Turn
changes = Own (Changes (add_order 1 2)) ∷ Other (Changes (over_order 9 2)) ∷ Own (Changes (remove_order 1)) ∷ []

moves :
    (along leaves said (opened 6) changes ≡ (0 ∷ 4 ∷ []) ∷ (0 ∷ 2 ∷ []) ∷ (0 ∷ 4 ∷ []) ∷ [])
    × ((leaves_all (opened 6) (take 2 changes)).state.rates ≡ 2 ∷ replicate 5 0)
    × ((leaves_all (opened 6) changes).state.rates ≡ 0 ∷ 0 ∷ 0 ∷ 0 ∷ 2 ∷ 0 ∷ [])
    × (asked_through (λ x. 0) (opened 6) changes 9 ≡ 2)
    × (plain (opened 6) changes ≡ Add 1 2 ∷ Add 9 2 ∷ Remove 1 ∷ [])
unfolding through along following act_of acts_of due asked_by asked_all add_check remove_check slot_check uniform whole pieces weight nth single sound sum fill first fit spot put place copy move twin join pair step tidy clear digits leaf_at next_from least answers_in orders_in order_at outcome_at orders_from waiting counted full put_at joined answered_at answered_from settled found_from place_of found lowered without_place carried_all outcomes carried carried_answer carried_board order_check applies size_check place_check pair_check both_start held_for lowest leads every all_zero rate_fits rates_fit owed_fits owed_fit all_owed_fit fits written settled_at settled_table rated_table owed_next turn_name turn_owed too_few share_check way_of board_order table_after rates_after carried_rates carried_owed ran_state ran_list state_then list_then
moves = (refl, refl, refl, refl, refl)
