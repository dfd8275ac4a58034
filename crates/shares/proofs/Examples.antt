-- Calls worked by hand, computed from the definitions: what a near miss would give otherwise. Both records are of one capacity, and no order waits unless it is said.
-- Assumes nothing.
use mathlib.Core.Path.{◌≡◌, refl}
use mathlib.Core.List.{List, [], ◌∷◌}
use Prim.Native.Nat.{ℕ, zero, suc}
use lib.ListN.{get_or, replicate, set}
use Rattle.sequences.specs.SlotOrder.{digits, leaf_at, next_from}
use Rattle.pieces.specs.Board.{uniform, whole, pieces, weight, nth, single, sound, sum}
use Rattle.pieces.specs.Placing.{fill, first, fit, spot, put, place}
use Rattle.pieces.specs.Tidying.{copy, move, twin, join, pair, step, tidy, clear}
use Rattle.tables.specs.Sharing.{held_for, lowest, fits}
use Rattle.tables.specs.Settling.{rated_table, settled_table}
use Rattle.tables.specs.Turns as turns
use Rattle.calls.specs.declared.Drive.{Drive}
use Rattle.calls.specs.declared.Refusal.TheVariants.{Weight, Damaged}
use Rattle.calls.specs.Records.{drive_at}
use Rattle.calls.specs.Refusals.{applies, add_check, remove_check}
use Rattle.waiting.specs.Layout.{least, answers_in, orders_in, order_at, orders_from, waiting, counted, answered_at, answered_from, settled}
use Rattle.waiting.specs.Carrying.{carried_all, outcomes}
use Rattle.orders.specs.declared.Moment.TheVariants as moment
use Rattle.std.specs.Prelude.{Ok, Err}
use Rattle.orders.specs.Checks.{order_check}
use Rattle.orders.specs.Results as plain
use Rattle.orders.specs.Results.{remove_order}
use Rattle.drives.specs.Checks.{size_check, place_check, pair_check, both_start}
use Rattle.shares.specs.States.{BoardTables, lent}
use Rattle.shares.specs.Checks.{too_few, share_check, way_of}
use Rattle.shares.specs.Results.{over_order, board_order, table_after, rates_after, carried_rates, carried_owed, ran_state, ran_list, changed_answer, changed_state, state_then, list_then, served, served_answer, served_state, served_list}

abbrev none : List ℕ
none = replicate 259 0

abbrev zeros : List ℕ
zeros = 0 ∷ 0 ∷ 0 ∷ 0 ∷ []

-- C = 4, r = 3 on all four leaves, the own deficit being -v and the other drive's -2.
abbrev three : ℕ → BoardTables
three v = lent (9 ∷ 9 ∷ 9 ∷ 9 ∷ []) (3 ∷ 0 ∷ 0 ∷ 0 ∷ []) (v ∷ 0 ∷ 0 ∷ 0 ∷ []) (2 ∷ 0 ∷ 0 ∷ 0 ∷ [])

-- The names that n slots of the record d go to, one after the other, and the state they leave; the other record is at position 3.
slots : ℕ → Drive → BoardTables → List ℕ
slots zero d s = []
slots (suc n) d s = let b = drive_at 4 3 in get_or (served_answer d b s none).values 0 0 ∷ slots n (served d b s none).drive (served_state d b s none)

after : ℕ → Drive → BoardTables → BoardTables
after zero d s = s
after (suc n) d s = let b = drive_at 4 3 in after n (served d b s none).drive (served_state d b s none)

-- Admitted at once: R = 4 leaves, r at the lowest; none is idle.
admitted :
    (changed_state (drive_at 4 1) (drive_at 4 1) (lent zeros zeros zeros zeros) none (over_order 9 3) ≡ lent (9 ∷ 9 ∷ 9 ∷ 9 ∷ []) (3 ∷ 0 ∷ 0 ∷ 0 ∷ []) zeros zeros)
    × (changed_answer (drive_at 4 1) (drive_at 4 1) (lent zeros zeros zeros zeros) none (over_order 9 3) ≡ record { number = 0; values = 0 ∷ [] })
unfolding digits uniform whole pieces weight nth single sound sum fill first fit spot put place fits rated_table held_for applies add_check least answers_in orders_in order_check plain.carried plain.carried_answer plain.carried_board size_check place_check pair_check both_start too_few share_check way_of board_order rates_after carried_rates carried_owed
admitted = (refl, refl)

-- C = 6, r = 5: R = 8 finds no room, and 10 says the 6 idle leaves, which exceed r; r = 0 is 7; kind 4 is 7.
refused :
    (changed_answer (drive_at 6 1) (drive_at 6 1) (lent (0 ∷ 0 ∷ zeros) (0 ∷ 0 ∷ zeros) (0 ∷ 0 ∷ zeros) (0 ∷ 0 ∷ zeros)) none (over_order 9 5) ≡ record { number = 10; values = 6 ∷ [] })
    × (changed_answer (drive_at 4 1) (drive_at 4 1) (lent zeros zeros zeros zeros) none (over_order 9 0) ≡ record { number = 7; values = 0 ∷ [] })
    × (changed_answer (drive_at 4 1) (drive_at 4 1) (lent zeros zeros zeros zeros) none (record { kind = 4; name = 9; weight = 1 }) ≡ record { number = 7; values = 0 ∷ [] })
unfolding digits uniform whole pieces weight single sound sum fits held_for applies add_check least answers_in orders_in order_check plain.carried plain.carried_answer size_check place_check pair_check both_start too_few share_check way_of board_order
refused = (refl, refl, refl)

-- An over-allocated order waits like any other where the other record is within a round; r = 0 does not.
waits :
    (way_of (drive_at 4 1) (drive_at 4 2) (lent zeros zeros zeros zeros) none (over_order 9 3) ∷ way_of (drive_at 4 1) (drive_at 4 2) (lent zeros zeros zeros zeros) none (over_order 9 0)
    ∷ way_of (drive_at 4 1) (drive_at 4 2) (lent zeros zeros zeros (1 ∷ 0 ∷ 0 ∷ 0 ∷ [])) none (over_order 9 3) ∷ [])
    ≡ (Ok moment.Later) ∷ (Err Weight) ∷ (Err Damaged) ∷ []
unfolding digits uniform whole pieces weight single sound fits applies least answers_in orders_in order_check size_check place_check pair_check both_start too_few share_check way_of
waits = refl

-- The slots of a round from a deficit of 0: 9 9 9 0; of -1: 9 9 0 9. After it the deficit is what it was, and the other drive's has not moved.
round_of_slots :
    (slots 4 (drive_at 4 1) (three 0) ≡ 9 ∷ 9 ∷ 9 ∷ 0 ∷ [])
    × (slots 4 (drive_at 4 1) (three 1) ≡ 9 ∷ 9 ∷ 0 ∷ 9 ∷ [])
    × (after 4 (drive_at 4 1) (three 1) ≡ three 1)
unfolding slots after digits leaf_at next_from uniform whole pieces weight single sound fits turns.turn_name turns.turn_owed turns.owed_next lowest held_for applies least answers_in orders_in size_check place_check pair_check both_start too_few share_check state_then list_then
round_of_slots = (refl, refl, refl)

-- C = 5, board 4 0 0 4 0: slot answers 5, and the order that waits is not carried out.
damaged :
    served_answer (drive_at 5 1) (drive_at 5 1) (lent (4 ∷ 0 ∷ 0 ∷ 4 ∷ 0 ∷ []) (0 ∷ zeros) (0 ∷ zeros) (0 ∷ zeros)) (set none 2 1) ≡ record { number = 5; values = zeros }
unfolding digits uniform whole pieces weight single sound fits applies size_check place_check pair_check too_few share_check
damaged = refl

-- A list of one over-allocated order, run by a slot that finds both records at the start of a round: its stream is served in that slot, and its answer is kept.
run_over :
    (served_answer (drive_at 4 1) (drive_at 4 1) (lent zeros zeros zeros zeros) (set (set (set (set (set none 2 1) 3 1) 4 3) 5 9) 6 3) ≡ record { number = 0; values = 9 ∷ 0 ∷ 0 ∷ 0 ∷ [] })
    × (served_state (drive_at 4 1) (drive_at 4 1) (lent zeros zeros zeros zeros) (set (set (set (set (set none 2 1) 3 1) 4 3) 5 9) 6 3) ≡ lent (9 ∷ 9 ∷ 9 ∷ 9 ∷ []) (3 ∷ 0 ∷ 0 ∷ 0 ∷ []) (1 ∷ 0 ∷ 0 ∷ 0 ∷ []) zeros)
    × (served_list (drive_at 4 1) (drive_at 4 1) (lent zeros zeros zeros zeros) (set (set (set (set (set none 2 1) 3 1) 4 3) 5 9) 6 3) ≡ set (set (set (set none 1 1) 3 1) 4 0) 6 3)
unfolding digits leaf_at next_from uniform whole pieces weight nth single sound sum fill first fit spot put place fits rated_table held_for turns.turn_name turns.turn_owed turns.owed_next lowest applies add_check least answers_in orders_in order_at orders_from waiting counted answered_at answered_from settled carried_all outcomes plain.carried plain.carried_board size_check place_check pair_check both_start too_few share_check board_order rates_after carried_rates carried_owed ran_state ran_list state_then list_then
run_over = (refl, refl, refl)

-- A remove moves the piece of another stream with its r: on 0 2 3 4, with r = 1 for 2 and 4, that of 3 moves 4 to leaf 0. Entries beyond C stay.
moved :
    changed_state (drive_at 4 1) (drive_at 4 1) (lent (0 ∷ 2 ∷ 3 ∷ 4 ∷ []) (0 ∷ 1 ∷ 0 ∷ 1 ∷ 7 ∷ []) zeros (0 ∷ 0 ∷ 0 ∷ 0 ∷ 8 ∷ [])) none (remove_order 3)
    ≡ lent (4 ∷ 2 ∷ 0 ∷ 0 ∷ []) (1 ∷ 1 ∷ 0 ∷ 0 ∷ 7 ∷ []) zeros (0 ∷ 0 ∷ 0 ∷ 0 ∷ 8 ∷ [])
unfolding digits uniform whole pieces weight nth single sound fill first copy move twin join pair step tidy clear fits settled_table held_for applies remove_check least answers_in orders_in order_check plain.carried_board size_check place_check pair_check both_start too_few share_check way_of board_order table_after carried_rates carried_owed
moved = refl
