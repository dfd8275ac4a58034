-- Calls with tables on boards worked by hand, computed from the definitions: the orders of refusals, and what a near miss would give otherwise.
-- Assumes nothing.
use mathlib.Core.Path.{◌≡◌, refl}
use mathlib.Core.List.{List, [], ◌∷◌}
use Prim.Native.Nat.{ℕ}
use lib.ListN.{replicate}
use Rattle.sequences.specs.SlotOrder.{digits, leaf_at, served_from, next_from}
use Rattle.pieces.specs.Board.{sound, single, pieces, nth, whole, uniform, weight, sum}
use Rattle.pieces.specs.Placing.{fill, first, fit, spot, put, place}
use Rattle.pieces.specs.Listing.{named}
use Rattle.pieces.specs.Fresh.{rising, rank, ranks, all_placed, largest_name}
use Rattle.tables.specs.Sharing.{fits, all_zero}
use Rattle.tables.specs.Settling.{settled_table, cleared_table}
use Rattle.tables.specs.Turns.{round_serves, served_weight}
use Rattle.calls.specs.declared.Drive.{Drive}
use Rattle.calls.specs.declared.Refusal.TheVariants.{Short, Position, Midround, Damaged, Name, Absent, Output}
use Rattle.std.specs.Prelude.{Ok, Err}
use Rattle.calls.specs.Records.{drive_at}
use Rattle.calls.specs.Refusals.{applies, open_check, round_check, held_check}
use Rattle.calls.specs.Results.{idle_board}
use Rattle.calls.specs.Spacing.{spacing_in}
use Rattle.sheets.specs.Sheet.{blocks}
use Rattle.sheets.specs.Entries.{entry_blocks}
use Rattle.drives.specs.Checks.{size_check, place_check, pair_check, both_start}
use Rattle.shares.specs.States.{BoardTables, lent}
use Rattle.shares.specs.Checks.{too_few, fit_check, placed_check, share_check}
use Rattle.share_boards.specs.Opening.{lent_check, opening_check, opened_state}
use Rattle.share_boards.specs.Looking.{rounding_check, reporting_check, rounded_output, reported_answer}
use Rattle.share_boards.specs.Starting.{start_check, level_check, saving_check_as, saving_check, saving_pieces_check, saved_answer, afresh, refreshed_state}

abbrev first_slot : ℕ → Drive
first_slot C = drive_at C 1

abbrev zeros : List ℕ
zeros = 0 ∷ 0 ∷ 0 ∷ 0 ∷ []

-- C = 4, r = 3, a deficit of -1, which is in range.
abbrev nine : BoardTables
nine = lent (9 ∷ 9 ∷ 9 ∷ 9 ∷ []) (3 ∷ 0 ∷ 0 ∷ 0 ∷ []) (1 ∷ 0 ∷ 0 ∷ 0 ∷ []) zeros

-- Round takes the deficit as 0 and writes nothing beyond the round.
a_round : rounded_output (first_slot 4) (first_slot 4) nine (7 ∷ 7 ∷ 7 ∷ 7 ∷ 8 ∷ []) ≡ 9 ∷ 9 ∷ 9 ∷ 0 ∷ 8 ∷ []
unfolding rounding_check share_check too_few pair_check size_check place_check applies digits round_check fits sound single pieces whole uniform weight round_serves leaf_at served_from next_from
a_round = refl

-- Report gives r and one piece, and the wait over the serves.
a_report : reported_answer (first_slot 4) (first_slot 4) nine 9 ≡ record { number = 0; values = 3 ∷ 1 ∷ 2 ∷ [] }
unfolding reporting_check share_check too_few pair_check size_check place_check applies digits held_check fits sound single pieces whole uniform weight sum served_weight round_serves leaf_at served_from next_from spacing_in
a_report = refl

-- 5 before 11 and before 6; 2 for a table of one entry less than C, before the other record's 3; 5 from round at any position.
checks :
    (rounding_check (first_slot 5) (first_slot 5) (lent (4 ∷ 0 ∷ 0 ∷ 4 ∷ 0 ∷ []) (replicate 5 0) (replicate 5 0) (replicate 5 0)) 0
    ∷ rounding_check (drive_at 4 2) (first_slot 4) nine 3 ∷ rounding_check (drive_at 4 2) (drive_at 4 8) nine 4
    ∷ rounding_check (first_slot 4) (drive_at 4 8) (lent (9 ∷ 9 ∷ 9 ∷ 9 ∷ []) (3 ∷ 0 ∷ 0 ∷ 0 ∷ []) zeros (0 ∷ 0 ∷ 0 ∷ [])) 4
    ∷ rounding_check (drive_at 4 2) (first_slot 4) (lent (9 ∷ 9 ∷ 9 ∷ 9 ∷ []) (0 ∷ 3 ∷ 0 ∷ 0 ∷ []) zeros zeros) 4
    ∷ reporting_check (first_slot 4) (first_slot 4) (lent (9 ∷ 9 ∷ 9 ∷ 9 ∷ []) (3 ∷ 0 ∷ 0 ∷ 0 ∷ []) zeros (4 ∷ 0 ∷ 0 ∷ 0 ∷ [])) 0
    ∷ reporting_check (first_slot 4) (first_slot 4) nine 0 ∷ reporting_check (first_slot 4) (first_slot 4) nine 8 ∷ [])
    ≡ Err Damaged ∷ Err Output ∷ Err Position ∷ Err Short ∷ Err Damaged ∷ Err Damaged ∷ Err Name ∷ Err Absent ∷ []
unfolding rounding_check reporting_check share_check too_few pair_check size_check place_check applies digits round_check held_check fits sound single pieces whole uniform weight
checks = refl

-- 4 of either drive before 5; 17 last, after 11; r a power of two is still 17.
saves :
    (start_check (first_slot 4) (drive_at 4 2) (lent (9 ∷ 0 ∷ 0 ∷ 9 ∷ []) zeros zeros zeros) ∷ start_check (first_slot 4) (first_slot 4) (lent (9 ∷ 0 ∷ 0 ∷ 9 ∷ []) zeros zeros zeros)
    ∷ saving_check (first_slot 4) (first_slot 4) nine 511 ∷ saving_check (first_slot 4) (first_slot 4) nine 512 ∷ [])
    ≡ Err Midround ∷ Err Damaged ∷ Err Output ∷ (Ok tt) ∷ []
unfolding placed_check saving_check_as fit_check both_start too_few pair_check size_check place_check applies digits fits sound single pieces whole uniform weight blocks
saves = refl

-- A sheet of pieces: 4 of different positions alone, and 17 last here too.
saves_pieces :
    (level_check (drive_at 4 2) (first_slot 4) nine ∷ saving_pieces_check (drive_at 4 2) (drive_at 4 2) nine 511 ∷ saving_pieces_check (drive_at 4 2) (drive_at 4 2) nine 512 ∷ [])
    ≡ Err Midround ∷ Err Output ∷ (Ok tt) ∷ []
unfolding placed_check saving_check_as fit_check too_few pair_check size_check place_check applies digits fits sound single pieces whole uniform weight named entry_blocks
saves_pieces = refl

kind : saved_answer (first_slot 4) (first_slot 4) (lent (0 ∷ 0 ∷ 6 ∷ 6 ∷ []) (0 ∷ 0 ∷ 2 ∷ 0 ∷ []) zeros zeros) (replicate 512 0) ≡ record { number = 17; values = 0 ∷ [] }
unfolding saving_check_as placed_check fit_check both_start too_few pair_check size_check place_check applies digits fits sound single pieces whole uniform weight blocks all_zero
kind = refl

-- An over-allocated stream of R = 2 and a plain one of weight 2 are ordered by name; r and both deficits follow, and entries beyond C stay.
relaid :
    refreshed_state (first_slot 4) (first_slot 4) (lent (7 ∷ 7 ∷ 5 ∷ 5 ∷ 1 ∷ []) (2 ∷ 0 ∷ 0 ∷ 0 ∷ 3 ∷ []) (1 ∷ 0 ∷ 0 ∷ 0 ∷ []) zeros)
    ≡ lent (5 ∷ 5 ∷ 7 ∷ 7 ∷ 1 ∷ []) (0 ∷ 0 ∷ 2 ∷ 0 ∷ 3 ∷ []) (0 ∷ 0 ∷ 1 ∷ 0 ∷ []) zeros
unfolding placed_check fit_check both_start too_few pair_check size_check place_check applies digits fits sound single pieces whole uniform weight afresh settled_table rising rank ranks all_placed largest_name nth fill first fit spot put place
relaid = refl

-- Open clears the first C entries of every table; where one is too short nothing is changed.
opens :
    (opened_state 2 (lent (8 ∷ 8 ∷ 8 ∷ []) (3 ∷ 4 ∷ 5 ∷ []) (1 ∷ 1 ∷ []) (0 ∷ 2 ∷ 2 ∷ [])) 259 ∷ opened_state 2 (lent (8 ∷ 8 ∷ []) (3 ∷ 4 ∷ []) (1 ∷ []) (0 ∷ 2 ∷ [])) 259 ∷ [])
    ≡ lent (0 ∷ 0 ∷ 8 ∷ []) (0 ∷ 0 ∷ 5 ∷ []) (0 ∷ 0 ∷ []) (0 ∷ 0 ∷ 2 ∷ []) ∷ lent (8 ∷ 8 ∷ []) (3 ∷ 4 ∷ []) (1 ∷ []) (0 ∷ 2 ∷ []) ∷ []
unfolding opening_check lent_check too_few open_check applies idle_board cleared_table
opens = refl
