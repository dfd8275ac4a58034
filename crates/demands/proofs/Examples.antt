-- Histories, computed: what demand 3 speaks of happens, with these numbers. C = 11, on a longer slice; two records given by hand, whose number is the largest;
-- and C = 16 over several rounds. Assumes nothing.
use mathlib.Core.Path.{◌≡◌, refl}
use mathlib.Core.Bool.{Bool, true, false, ◌&&◌}
use mathlib.Core.List.{List, [], ◌∷◌, ◌++◌, map}
use Prim.Native.Nat.{ℕ, ◌+◌, ◌*◌}
use native.Mathlib.Omega.{arith}
use lib.Count.{ones, ones_in}
use lib.Dec.{ltb}
use lib.ListN.{take, replicate}
use Rattle.sequences.specs.SlotOrder.{leaf_at, next_from}
use Rattle.sequences.specs.Serving.{count_list}
use Rattle.sequences.specs.Scanning.{occurrences}
use Rattle.pieces.specs.Board.{uniform, whole, pieces, piece_count, weight, nth, single, sound, sum}
use Rattle.pieces.specs.Placing.{fill, first, fit, spot, put, place}
use Rattle.pieces.specs.Tidying.{copy, move, twin, join, pair, step, tidy, clear}
use Rattle.calls.specs.Refusals.{open_check, add_check, remove_check, slot_check, report_check}
use Rattle.calls.specs.Results.{idle_board}
use Rattle.demands.specs.Histories.{Act, Add, Remove, Slot, Report, State, Openable, opens, after, reach, log}
use Rattle.demands.specs.Holdings.{without, held_from, held}
use Rattle.demands.specs.Rounds.{names, names_from, FullRound, in_a_row, bound, power_bound}
use Rattle.demands.specs.Certificates.{certificates}
use Rattle.demands.specs.Stretches.{none_done, Still}

-- a and b differ by less than d, as a test
abbrev pub near : ℕ → ℕ → ℕ → Bool
near a b d = ltb a (b + d) && ltb b (a + d)

abbrev board : List ℕ
board = replicate 13 9

-- a stream of weight 8, one that has no room, one of weight 2, one that is taken
abbrev early : List Act
early = Add 7 8 ∷ Add 2 4 ∷ Add 2 2 ∷ Add 7 1 ∷ []

-- after the first slot of a round: ten slots, and between them changes that are refused
abbrev rest : List Act
rest = Remove 7 ∷ Slot ∷ Slot ∷ Add 5 1 ∷ Slot ∷ Slot ∷ Slot ∷ Slot ∷ Report 7 ∷ Slot ∷ Slot ∷ Slot ∷ Slot ∷ []

-- that round, then a stream removed, one that is absent, no name, no weight, and a stream that fills the board
abbrev later : List Act
later = early ++ (Slot ∷ rest) ++ (Remove 2 ∷ Remove 2 ∷ Add 0 1 ∷ Add 3 0 ∷ Add 3 3 ∷ [])

opened : Openable 11 board
opened = record { some = omega arith; few = omega arith; long = omega arith }

-- The numbers answered, two rounds in all; the values of the first four, ROOM's idle leaves among them; what is held at the first slot of each round; both
-- rounds are full; and the names that the first serves, stream 7 eight times. In its seven slots from slot 2 on that stream is served four times, so that
-- C s = 44 and w t = 56 differ by more than m C = 11, and by less than the bound.
history :
    (map (λ e. e.answer.number) (log (opens 11 board) (later ++ (Slot ∷ rest)))
    ≡ (0 ∷ 10 ∷ 0 ∷ 8 ∷ []) ++ (0 ∷ 4 ∷ 0 ∷ 0 ∷ 4 ∷ 0 ∷ 0 ∷ 0 ∷ 0 ∷ 0 ∷ 0 ∷ 0 ∷ 0 ∷ 0 ∷ []) ++ (0 ∷ 9 ∷ 6 ∷ 7 ∷ 0 ∷ []) ++ (0 ∷ 4 ∷ 0 ∷ 0 ∷ 4 ∷ 0 ∷ 0 ∷ 0 ∷ 0 ∷ 0 ∷ 0 ∷ 0 ∷ 0 ∷ 0 ∷ []))
    × (map (λ e. e.answer.values) (log (opens 11 board) early) ≡ (3 ∷ []) ∷ (3 ∷ []) ∷ (1 ∷ []) ∷ (0 ∷ []) ∷ [])
    × (held 11 board early ≡ record { name = 2; weight = 2 } ∷ record { name = 7; weight = 8 } ∷ [])
    × (held 11 board later ≡ record { name = 3; weight = 3 } ∷ record { name = 7; weight = 8 } ∷ [])
    × FullRound (reach 11 board early) rest
    × FullRound (reach 11 board later) rest
    × (names_from (reach 11 board early) rest ≡ 7 ∷ 7 ∷ 2 ∷ 7 ∷ 7 ∷ 0 ∷ 7 ∷ 7 ∷ 2 ∷ 7 ∷ 7 ∷ [])
    × (occurrences 7 (names_from (reach 11 board early) rest) ≡ 8)
    × (occurrences 7 (in_a_row 2 7 (names_from (reach 11 board early) rest)) ≡ 4)
    × (near (11 * 4) (8 * 7) (bound 11 8) ≡ true)
unfolding log after names held_from without open_check add_check remove_check slot_check report_check idle_board uniform whole pieces weight nth single sound sum fill first fit spot put place copy move twin join pair step tidy clear leaf_at next_from count_list ones ones_in
history = (refl, refl, refl, refl, record { first = refl; slots = refl }, record { first = refl; slots = refl }, refl, refl, refl, refl)

-- Seven slots of C = 3 with an add refused for MIDROUND among them: each says its round and its leaf, and the record then stands within round 2.
numbers :
    (certificates (log (opens 3 board) (Slot ∷ Slot ∷ Add 5 1 ∷ replicate 5 Slot))
    ≡ record { round = 0; leaf = 0 } ∷ record { round = 0; leaf = 2 } ∷ record { round = 0; leaf = 1 }
    ∷ record { round = 1; leaf = 0 } ∷ record { round = 1; leaf = 2 } ∷ record { round = 1; leaf = 1 }
    ∷ record { round = 2; leaf = 0 } ∷ [])
    × ((reach 3 board (replicate 7 Slot)).drive ≡ record { capacity = 3; position = 2; round = 2 })
unfolding log after certificates open_check add_check slot_check idle_board uniform whole pieces weight nth single sound sum leaf_at next_from
numbers = (refl, refl)

-- a record by hand, at its last position, with the largest number
abbrev last : ℕ → ℕ → State
last C p = record { drive = record { capacity = C; position = p; round = 18446744073709551615 }; board = 7 ∷ 8 ∷ [] }

-- C = 1: each slot is a round. C = 2: leaf 1 ends the round of the largest number, and leaf 0 and then leaf 1 are those of round 0.
wraps :
    (certificates (log (last 1 1) (Slot ∷ Slot ∷ Slot ∷ []))
    ≡ record { round = 18446744073709551615; leaf = 0 } ∷ record { round = 0; leaf = 0 } ∷ record { round = 1; leaf = 0 } ∷ [])
    × (certificates (log (last 2 3) (Slot ∷ Slot ∷ Slot ∷ Slot ∷ []))
    ≡ record { round = 18446744073709551615; leaf = 1 } ∷ record { round = 0; leaf = 0 } ∷ record { round = 0; leaf = 1 } ∷ record { round = 1; leaf = 0 } ∷ [])
unfolding log certificates slot_check leaf_at next_from
wraps = (refl, refl)

-- ---- C = 16, over three rounds and a half

-- three streams on an opened board
abbrev pub loaded : State
loaded = reach 16 (replicate 16 9) (Add 1 1 ∷ Add 2 6 ∷ Add 3 3 ∷ [])

-- 56 slots; between them changes that are refused, at the start of a round (taken, no room, absent) and within one
abbrev pub long : List Act
long = replicate 16 Slot ++ (Add 1 1 ∷ Add 4 7 ∷ Remove 5 ∷ []) ++ replicate 20 Slot ++ (Remove 1 ∷ Report 3 ∷ []) ++ replicate 20 Slot

abbrev pub round : List ℕ
round = 1 ∷ 3 ∷ 2 ∷ 0 ∷ 2 ∷ 0 ∷ 2 ∷ 0 ∷ 3 ∷ 3 ∷ 2 ∷ 0 ∷ 2 ∷ 0 ∷ 2 ∷ 0 ∷ []

-- what they serve
abbrev pub rounds : List ℕ
rounds = round ++ round ++ round ++ take 8 round

-- No change of them is done. Stream 3, of weight 3, has two pieces; from slot 8 on it is served 8 times in 34 slots, and from slot 10 on 7 times in 46, so that
-- C s = 128 and w t = 102, and then 112 and 138, are 26 apart: less than m C = 32, and more than C. Stream 1, of one piece, is served twice in the 47 slots from
-- slot 1 on: 32 and 47 are 15 apart, and one more would be m C.
pub stretch :
    Still loaded long
    × (piece_count 16 loaded.board 3 ≡ 2)
    × (names (log loaded long) ≡ rounds)
    × (occurrences 3 (in_a_row 8 34 rounds) ≡ 8)
    × (occurrences 3 (in_a_row 10 46 rounds) ≡ 7)
    × (occurrences 1 (in_a_row 1 47 rounds) ≡ 2)
    × (near (16 * 8) (3 * 34) (power_bound 16 2) ≡ true)
    × (near (16 * 7) (3 * 46) (power_bound 16 2) ≡ true)
    × (near (16 * 2) (1 * 47) (power_bound 16 1) ≡ true)
    × (near (16 * 8) (3 * 34) 16 ≡ false)
    × (near (16 * 7) (3 * 46) 16 ≡ false)
unfolding log after names none_done open_check add_check remove_check slot_check report_check idle_board uniform whole pieces weight nth single sound sum fill first fit spot put place copy move twin join pair step tidy clear leaf_at next_from count_list
stretch = (refl, refl, refl, refl, refl, refl, refl, refl, refl, refl, refl)
