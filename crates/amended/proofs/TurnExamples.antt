-- Histories of two drives, computed. C = 2: an order of the drive that is at the start of a round waits while the other is not there, a slot there does not run
-- it, and the other drive's slot that finds both there does. C = 3: drives that run out of step, where an order waits for ever. C = 4: what they then
-- serve. Assumes nothing.
use mathlib.Core.Path.{◌≡◌, refl}
use mathlib.Core.List.{List, [], ◌∷◌, ◌++◌}
use Prim.Native.Nat.{ℕ, zero, suc}
use lib.ListN.{replicate}
use Rattle.sequences.specs.SlotOrder.{digits, leaf_at, next_from}
use Rattle.pieces.specs.Board.{uniform, whole, pieces, weight, nth, single, sound, sum}
use Rattle.pieces.specs.Placing.{fill, first, fit, spot, put, place}
use Rattle.pieces.specs.Tidying.{copy, move, twin, join, pair, step, tidy, clear}
use Rattle.calls.specs.Records.{drive_at, round_after}
use Rattle.calls.specs.Refusals.{applies, open_check, add_check, remove_check, slot_check, position_check}
use Rattle.calls.specs.Results.{idle_board}
use Rattle.demands.specs.Histories.{Add, Slot, log}
use Rattle.demands.specs.Stretches.{none_done}
use Rattle.waiting.specs.Layout.{least, answers_in, orders_in, order_at, outcome_at, orders_from, waiting, counted, full, put_at, joined, answered_at, answered_from, settled, found_from, place_of, found, lowered, without_place, emptied}
use Rattle.waiting.specs.Carrying.{carried_all, outcomes}
use Rattle.orders.specs.Checks.{lent_check, order_check}
use Rattle.orders.specs.Results.{add_order, carried, carried_answer, carried_board, ran_board, ran_list}
use Rattle.drives.specs.Checks.{size_check, place_check, pair_check, both_start, way_of}
use Rattle.drives.specs.Results.{board_then, list_then}
use Rattle.amended.specs.Histories.{through, along, Each}
use Rattle.amended.specs.Carried.{act_of, acts_of}
use Rattle.amended.specs.Deeds.{Opens, Adds, Slots, Fetches}
use Rattle.amended.specs.Turns.{Pair, exchanged, Turn, Own, Other, answers, leaves, leaves_all, turned_all, restarts, due, plain, names_served, FullRound}
use Rattle.amended.specs.Stretches.{StillTurns}
use Rattle.amended.proofs.Projecting.{through_append}
use Rattle.amended.proofs.Stretching.{tested}

-- what a call answers: the number, then the values
abbrev said : Turn → Pair → List (List ℕ)
said t s = ((answers t s).number ∷ (answers t s).values) ∷ []

-- what an open leaves, of either drive: both have its record
abbrev opened : ℕ → Pair
opened C = leaves (Other (Opens C)) (record { own = drive_at 9 5; other = drive_at 0 0; board = 9 ∷ 9 ∷ 7 ∷ []; list = replicate 259 0 })

abbrev turns : List Turn
turns =
    Own (Adds 1 1) ∷ Own Slots ∷ Other (Adds 2 1) ∷ Other Slots ∷ Own Slots ∷ Own (Fetches 1) ∷ Own Slots ∷ Own Slots ∷ Other Slots ∷ Other Slots
    ∷ Own (Fetches 1) ∷ Own Slots ∷ Own Slots ∷ []

history :
    (along leaves said (opened 2) turns
    ≡ (0 ∷ 1 ∷ []) ∷ (0 ∷ 1 ∷ 0 ∷ 0 ∷ 0 ∷ []) ∷ (13 ∷ 1 ∷ []) ∷ (0 ∷ 1 ∷ 0 ∷ 0 ∷ 0 ∷ []) ∷ (0 ∷ 0 ∷ 1 ∷ 1 ∷ 0 ∷ []) ∷ (13 ∷ 1 ∷ []) ∷ (0 ∷ 1 ∷ 0 ∷ 0 ∷ 1 ∷ [])
    ∷ (0 ∷ 0 ∷ 1 ∷ 1 ∷ 1 ∷ []) ∷ (0 ∷ 0 ∷ 1 ∷ 1 ∷ 0 ∷ []) ∷ (0 ∷ 1 ∷ 0 ∷ 0 ∷ 1 ∷ []) ∷ (0 ∷ 0 ∷ []) ∷ (0 ∷ 1 ∷ 0 ∷ 0 ∷ 2 ∷ []) ∷ (0 ∷ 2 ∷ 1 ∷ 1 ∷ 2 ∷ []) ∷ [])
    × (plain (opened 2) turns ≡ Add 1 1 ∷ Slot ∷ Slot ∷ Slot ∷ Slot ∷ Add 2 1 ∷ Slot ∷ Slot ∷ [])
    × (plain (exchanged (opened 2)) (turned_all turns) ≡ Add 1 1 ∷ Slot ∷ Slot ∷ Add 2 1 ∷ Slot ∷ [])
    × FullRound (leaves_all (opened 2) (Own (Adds 1 1) ∷ [])) (Other (Adds 2 1) ∷ Other Slots ∷ Own Slots ∷ [])
unfolding through along Each act_of acts_of due open_check add_check remove_check slot_check position_check idle_board uniform whole pieces weight nth single sound sum fill first fit spot put place copy move twin join pair step tidy clear digits leaf_at next_from least answers_in orders_in order_at outcome_at orders_from waiting counted full put_at joined answered_at answered_from settled found_from place_of found lowered without_place emptied carried_all outcomes carried carried_answer carried_board ran_board ran_list lent_check order_check applies size_check place_check pair_check both_start way_of board_then list_then
history = (refl, refl, refl, record { first = refl; whole = (refl, (refl, (refl, tt))); slots = refl })

-- One drive is a slot ahead when an order is taken, and then they take turns: after six slots positions, board and list are as they were, and the order waits. Once
-- one drive is held back at the start of a round until the other is there too, the next slot carries it out.
abbrev late : Pair
late = leaves_all (opened 3) (Own Slots ∷ Own (Adds 5 1) ∷ Own Slots ∷ [])

abbrev six : List Turn
six = Other Slots ∷ Own Slots ∷ Other Slots ∷ Own Slots ∷ Other Slots ∷ Own Slots ∷ []

-- the drives two slots apart, in whatever rounds
abbrev apart : ℕ → ℕ → Pair
apart m n =
    record { own = record { capacity = 3; position = 3; round = m }; other = record { capacity = 3; position = 1; round = n }; board = late.board; list = late.list }

-- where both drives stand
abbrev at : Turn → Pair → List (List ℕ)
at t s = (s.own.position ∷ s.other.position ∷ []) ∷ []

out_of_step :
    (along leaves at late six ≡ (3 ∷ 1 ∷ []) ∷ (3 ∷ 2 ∷ []) ∷ (1 ∷ 2 ∷ []) ∷ (1 ∷ 3 ∷ []) ∷ (2 ∷ 3 ∷ []) ∷ (2 ∷ 1 ∷ []) ∷ [])
    × (late ≡ apart 0 0) × (waiting late.list ≡ add_order 5 1 ∷ [])
    × (along leaves said (leaves_all late six) (Own Slots ∷ Other Slots ∷ Own (Fetches 1) ∷ []) ≡ (0 ∷ 0 ∷ 1 ∷ 0 ∷ 1 ∷ []) ∷ (0 ∷ 0 ∷ 0 ∷ 0 ∷ 1 ∷ []) ∷ (0 ∷ 2 ∷ []) ∷ [])
unfolding through along open_check add_check remove_check slot_check position_check idle_board uniform whole pieces weight nth single sound sum fill first fit spot put place copy move twin join pair step tidy clear digits leaf_at next_from least answers_in orders_in order_at outcome_at orders_from waiting counted full put_at joined answered_at answered_from settled found_from place_of found lowered without_place emptied carried_all outcomes carried carried_answer carried_board ran_board ran_list lent_check order_check applies size_check place_check pair_check both_start way_of board_then list_then
out_of_step = (refl, refl, refl, refl)

-- So it is however often they do.
around : (m n : ℕ) → leaves_all (apart m n) six ≡ apart (round_after m) (round_after n)
unfolding through along open_check add_check remove_check slot_check position_check idle_board uniform whole pieces weight nth single sound sum fill first fit spot put place copy move twin join pair step tidy clear digits leaf_at next_from least answers_in orders_in order_at outcome_at orders_from waiting counted full put_at joined answered_at answered_from settled found_from place_of found lowered without_place emptied carried_all outcomes carried carried_answer carried_board ran_board ran_list lent_check order_check applies size_check place_check pair_check both_start way_of board_then list_then
around m n = refl

sixes : ℕ → List Turn
sixes zero = []
sixes (suc k) = six ++ sixes k

for_ever : (k m n : ℕ) → (leaves_all (apart m n) (sixes k)).list ≡ late.list
unfolding sixes through
for_ever zero m n = refl
for_ever (suc k) m n = rw (through_append leaves (apart m n) six (sixes k), around m n) (for_ever k (round_after m) (round_after n))

-- ---- C = 4: drives a slot apart, that never meet at the start of a round, so that the order waits and nothing is changed

abbrev loaded : Pair
loaded =
    record { own = record { capacity = 4; position = 1; round = 0 }; other = record { capacity = 4; position = 2; round = 0 }; board = 1 ∷ replicate 3 0; list = replicate 259 0 }

abbrev pairs : ℕ → List Turn
pairs zero = []
pairs (suc n) = Other Slots ∷ Own Slots ∷ pairs n

-- Over two rounds of the own drive stream 1, of weight 1, is served twice in the five slots from slot 0 on: C s = 8 and w t = 5 are 3 apart, and one more would be m C.
stretch :
    StillTurns loaded (Own (Adds 2 1) ∷ pairs 8)
    × (names_served loaded (Own (Adds 2 1) ∷ pairs 8) ≡ 1 ∷ 0 ∷ 0 ∷ 0 ∷ 1 ∷ 0 ∷ 0 ∷ 0 ∷ [])
    × (waiting (leaves_all loaded (Own (Adds 2 1) ∷ pairs 8)).list ≡ add_order 2 1 ∷ [])
unfolding through along act_of acts_of due none_done log open_check add_check remove_check slot_check position_check idle_board uniform whole pieces weight nth single sound sum fill first fit spot put place copy move twin join pair step tidy clear digits leaf_at next_from least answers_in orders_in order_at outcome_at orders_from waiting counted full put_at joined answered_at answered_from settled found_from place_of found lowered without_place emptied carried_all outcomes carried carried_answer carried_board ran_board ran_list lent_check order_check applies size_check place_check pair_check both_start way_of board_then list_then
stretch = (record { whole = tested leaves restarts loaded (Own (Adds 2 1) ∷ pairs 8) refl; kept = refl }, refl, refl)
