-- Histories with the list, computed. On an opened board of two leaves: orders given in the middle of a round wait, two are refused at once for their form, the list
-- is run at the next round's first slot in the order of arrival, ROOM's idle leaves are kept, each answer is fetched once; an open in the middle strikes an
-- order off, and the tickets count on. And on sixteen leaves: slots over the end of a round, with orders that wait and change nothing.
-- Assumes nothing.
use mathlib.Core.Path.{◌≡◌, refl}
use mathlib.Core.List.{List, [], ◌∷◌, ◌++◌}
use Prim.Native.Nat.{ℕ}
use lib.ListN.{take, replicate}
use Rattle.sequences.specs.SlotOrder.{leaf_at, next_from}
use Rattle.sequences.specs.Serving.{count_list}
use Rattle.sequences.specs.Scanning.{occurrences}
use Rattle.pieces.specs.Board.{uniform, whole, pieces, weight, nth, single, sound, sum}
use Rattle.pieces.specs.Placing.{fill, first, fit, spot, put, place}
use Rattle.pieces.specs.Tidying.{copy, move, twin, join, pair, step, tidy, clear}
use Rattle.calls.specs.Refusals.{open_check, add_check, remove_check, slot_check, position_check}
use Rattle.calls.specs.Results.{idle_board}
use Rattle.calls.specs.Records.{drive_at}
use Rattle.demands.specs.Histories.{Add, Remove, Slot, log}
use Rattle.demands.specs.Rounds.{in_a_row}
use Rattle.demands.specs.Stretches.{none_done}
use Rattle.waiting.specs.Layout.{least, answers_in, orders_in, order_at, outcome_at, orders_from, waiting, counted, full, put_at, joined, answered_at, answered_from, settled, found_from, place_of, found, lowered, without_place, emptied}
use Rattle.waiting.specs.Carrying.{carried_all, outcomes}
use Rattle.orders.specs.Checks.{lent_check, bounds_check, order_check, must_wait, way_of}
use Rattle.orders.specs.Results.{carried, carried_answer, carried_board, ran_board, ran_list, board_then, list_then}
use Rattle.amended.specs.Histories.{through, along}
use Rattle.amended.specs.Carried.{act_of, acts_of}
use Rattle.amended.specs.Deeds.{Deed, Opens, Adds, Removes, Slots, Fetches, Desk, desk, answers, leaves, leaves_all, restarts, due, plain, names_served}
use Rattle.amended.specs.Stretches.{Still}
use Rattle.amended.proofs.Stretching.{tested}

-- what a call answers: the number, then the values
abbrev said : Deed → Desk → List (List ℕ)
said a s = ((answers a s).number ∷ (answers a s).values) ∷ []

abbrev start : Desk
start = leaves (Opens 2) (desk (drive_at 0 0) (9 ∷ 9 ∷ 7 ∷ []) (replicate 259 0))

abbrev deeds : List Deed
deeds = Slots ∷ Adds 1 1 ∷ Adds 2 2 ∷ Adds 3 0 ∷ Adds 0 3 ∷ Removes 1 ∷ Fetches 1 ∷ Slots ∷ Fetches 1 ∷ Slots ∷ Fetches 1 ∷ Fetches 1
    ∷ Fetches 2 ∷ Fetches 3 ∷ Fetches 4 ∷ Fetches 0 ∷ []

-- after them: an open that is refused, and one that is done
abbrev later : List Deed
later = Adds 4 1 ∷ Opens 4 ∷ Fetches 4 ∷ Opens 2 ∷ Fetches 4 ∷ Slots ∷ Adds 4 1 ∷ []

history :
    (along leaves said start deeds
    ≡ (0 ∷ 0 ∷ 0 ∷ 0 ∷ 0 ∷ []) ∷ (13 ∷ 1 ∷ []) ∷ (13 ∷ 2 ∷ []) ∷ (7 ∷ 0 ∷ []) ∷ (6 ∷ 0 ∷ []) ∷ (13 ∷ 3 ∷ []) ∷ (13 ∷ 1 ∷ [])
    ∷ (0 ∷ 0 ∷ 1 ∷ 1 ∷ 0 ∷ []) ∷ (13 ∷ 1 ∷ []) ∷ (0 ∷ 0 ∷ 0 ∷ 0 ∷ 1 ∷ []) ∷ (0 ∷ 1 ∷ []) ∷ (15 ∷ 0 ∷ []) ∷ (10 ∷ 1 ∷ []) ∷ (0 ∷ 2 ∷ []) ∷ (15 ∷ 0 ∷ [])
    ∷ (15 ∷ 0 ∷ []) ∷ [])
    × (along leaves said (leaves_all start deeds) later
    ≡ (13 ∷ 4 ∷ []) ∷ (2 ∷ []) ∷ (13 ∷ 4 ∷ []) ∷ (0 ∷ []) ∷ (15 ∷ 0 ∷ []) ∷ (0 ∷ 0 ∷ 0 ∷ 0 ∷ 0 ∷ []) ∷ (13 ∷ 5 ∷ []) ∷ [])
    × (plain start deeds ≡ Slot ∷ Slot ∷ Add 1 1 ∷ Add 2 2 ∷ Remove 1 ∷ Slot ∷ [])
unfolding through along act_of acts_of due open_check add_check remove_check slot_check position_check idle_board uniform whole pieces weight nth single sound sum fill first fit spot put place copy move twin join pair step tidy clear leaf_at next_from least answers_in orders_in order_at outcome_at orders_from waiting counted full put_at joined answered_at answered_from settled found_from place_of found lowered without_place emptied carried_all outcomes carried carried_answer carried_board ran_board ran_list lent_check bounds_check order_check must_wait way_of board_then list_then
history = (refl, refl, refl)

-- ---- C = 16, over the end of a round

-- three streams on an opened board
abbrev loaded : Desk
loaded = desk (record { capacity = 16; position = 1; round = 0 }) (1 ∷ 3 ∷ 2 ∷ 2 ∷ 2 ∷ 2 ∷ 2 ∷ 2 ∷ 3 ∷ 3 ∷ replicate 6 0) (replicate 259 0)

-- 26 slots. The removal of 7 waits, and is carried out at the next round's first slot, where it is refused for ABSENT; that of 3 only waits.
abbrev long : List Deed
long = replicate 5 Slots ++ (Removes 7 ∷ []) ++ replicate 12 Slots ++ (Fetches 1 ∷ Removes 3 ∷ []) ++ replicate 9 Slots

abbrev round : List ℕ
round = 1 ∷ 3 ∷ 2 ∷ 0 ∷ 2 ∷ 0 ∷ 2 ∷ 0 ∷ 3 ∷ 3 ∷ 2 ∷ 0 ∷ 2 ∷ 0 ∷ 2 ∷ 0 ∷ []

-- So nothing is changed. Stream 3, of weight 3 and two pieces, is served 5 times in the 18 slots from slot 8 on: C s = 80 and w t = 54 are 26 apart, and m C is 32.
stretch :
    (leaves_all (desk (drive_at 0 0) (replicate 16 9) (replicate 259 0)) (Opens 16 ∷ Adds 1 1 ∷ Adds 2 6 ∷ Adds 3 3 ∷ []) ≡ loaded)
    × Still loaded long
    × (names_served loaded long ≡ round ++ take 10 round)
    × (occurrences 3 (in_a_row 8 18 (round ++ take 10 round)) ≡ 5)
unfolding through along act_of acts_of due none_done log open_check add_check remove_check slot_check position_check idle_board uniform whole pieces weight nth single sound sum fill first fit spot put place copy move twin join pair step tidy clear leaf_at next_from count_list least answers_in orders_in order_at outcome_at orders_from waiting counted full put_at joined answered_at answered_from settled found_from place_of found lowered without_place emptied carried_all outcomes carried carried_answer carried_board ran_board ran_list lent_check bounds_check order_check must_wait way_of board_then list_then
stretch = (refl, record { whole = tested leaves restarts loaded long refl; kept = refl }, refl, refl)
