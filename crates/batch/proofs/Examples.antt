-- Tables, computed: what stands in the places for the answers, and what is left of the board and of the list. Every place holds an old answer before the call.
-- Assumes nothing.
use mathlib.Core.Path.{◌≡◌, refl}
use mathlib.Core.List.{List, [], ◌∷◌, map}
use Prim.Native.Nat.{ℕ, zero, suc}
use lib.ListN.{replicate, take}
use Rattle.sequences.specs.SlotOrder.{digits}
use Rattle.pieces.specs.Board.{uniform, whole, pieces, weight, nth, single, sound, sum}
use Rattle.pieces.specs.Placing.{fill, first, fit, spot, put, place}
use Rattle.pieces.specs.Tidying.{copy, move, twin, join, pair, step, tidy, clear}
use Rattle.calls.specs.Records.{drive_at}
use Rattle.calls.specs.Refusals.{applies, add_check, remove_check}
use Rattle.waiting.specs.Layout.{least, answers_in, orders_in, counted, full, put_at, joined}
use Rattle.orders.specs.Checks.{order_check}
use Rattle.orders.specs.Results.{carried as made, carried_board}
use Rattle.drives.specs.Checks.{size_check, place_check, pair_check, both_start, way_of}
use Rattle.batch.specs.declared.Entry.{Entry}
use Rattle.batch.specs.Entries.{Left, ordered, ordered_board, ordered_list, carried, batch_of}

-- an entry with an old answer; what an entry is answered
abbrev asks : ℕ → ℕ → ℕ → Entry
asks k x w = record { kind = k; name = x; weight = w; number = 77; value = 99 }

abbrev answers : Left → List (List ℕ)
answers l = map (λ (e : Entry). e.number ∷ e.value ∷ []) l.table

abbrev none : List ℕ
none = replicate 259 0

-- With C = 0 and nothing lent a kind that is none is 7, and add and remove are 1.
kinds : answers (batch_of (drive_at 0 0) (drive_at 0 0) [] [] (asks 9 0 0 ∷ asks 1 5 1 ∷ asks 2 5 0 ∷ asks 0 5 1 ∷ asks 3 5 1 ∷ []))
    ≡ (7 ∷ 0 ∷ []) ∷ (1 ∷ 0 ∷ []) ∷ (1 ∷ 0 ∷ []) ∷ (7 ∷ 0 ∷ []) ∷ (7 ∷ 0 ∷ []) ∷ []
unfolding applies size_check place_check pair_check both_start way_of ordered ordered_board ordered_list carried batch_of
kinds = refl

-- At the start of a round, refused entries between those that are done: taken, no room, no kind, absent, no name, no weight.
abbrev morning : Left
morning = batch_of (drive_at 5 1) (drive_at 5 1) (replicate 6 0) none
    (asks 1 5 2 ∷ asks 1 5 1 ∷ asks 1 6 4 ∷ asks 3 6 1 ∷ asks 2 9 0 ∷ asks 1 6 3 ∷ asks 1 0 1 ∷ asks 1 7 0 ∷ asks 2 5 8 ∷ [])

loaded : (answers morning
    ≡ (0 ∷ 3 ∷ []) ∷ (8 ∷ 0 ∷ []) ∷ (10 ∷ 3 ∷ []) ∷ (7 ∷ 0 ∷ []) ∷ (9 ∷ 0 ∷ []) ∷ (0 ∷ 0 ∷ []) ∷ (6 ∷ 0 ∷ []) ∷ (7 ∷ 0 ∷ []) ∷ (0 ∷ 2 ∷ []) ∷ [])
    × (morning.board ≡ 0 ∷ 0 ∷ 6 ∷ 6 ∷ 6 ∷ 0 ∷ []) × (morning.list ≡ none)
unfolding digits uniform whole pieces weight nth single sound sum fill first fit spot put place copy move twin join pair step tidy clear least answers_in orders_in applies add_check remove_check order_check made carried_board size_check place_check pair_check both_start way_of ordered ordered_board ordered_list carried batch_of
loaded = (refl, refl, refl)

-- Where the other drive is away from 1 orders wait, and are looked at for their form alone; a kind that is none never waits.
abbrev later : Left
later = batch_of (drive_at 5 1) (drive_at 5 3) (replicate 5 0) none (asks 1 5 9 ∷ asks 3 5 1 ∷ asks 2 5 8 ∷ asks 1 0 1 ∷ asks 1 7 0 ∷ asks 1 5 9 ∷ [])

waits : (answers later ≡ (13 ∷ 1 ∷ []) ∷ (7 ∷ 0 ∷ []) ∷ (13 ∷ 2 ∷ []) ∷ (6 ∷ 0 ∷ []) ∷ (7 ∷ 0 ∷ []) ∷ (13 ∷ 3 ∷ []) ∷ [])
    × (later.board ≡ replicate 5 0) × (take 15 later.list ≡ 3 ∷ 0 ∷ 3 ∷ 1 ∷ 1 ∷ 5 ∷ 9 ∷ 2 ∷ 2 ∷ 5 ∷ 0 ∷ 3 ∷ 1 ∷ 5 ∷ 9 ∷ [])
unfolding digits uniform whole pieces single sound least answers_in orders_in counted full put_at joined applies order_check size_check place_check pair_check both_start way_of ordered ordered_board ordered_list carried batch_of
waits = (refl, refl, refl)

-- Of 66 adds at p = 3 the first 64 wait, under the tickets from 1 on, and the rest are 14.
adds : ℕ → List Entry
adds zero = []
adds (suc n) = asks 1 5 1 ∷ adds n

tickets : ℕ → ℕ → List (List ℕ)
tickets t zero = (14 ∷ 0 ∷ []) ∷ (14 ∷ 0 ∷ []) ∷ []
tickets t (suc n) = (13 ∷ t ∷ []) ∷ tickets (suc t) n

queue : answers (batch_of (drive_at 2 3) (drive_at 2 3) (replicate 2 0) none (adds 66)) ≡ tickets 1 64
unfolding adds tickets digits uniform whole pieces single sound least answers_in orders_in counted full put_at joined applies order_check size_check place_check pair_check both_start way_of ordered ordered_board ordered_list carried batch_of
queue = refl
