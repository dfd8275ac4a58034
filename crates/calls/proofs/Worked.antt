-- Boards worked by hand (document 01, P1 to P10; document 02, No. 1): one statement over one table, computed. Each case is a run of acts, each given the
-- record and the board as the last one left them, with what the documents say of each. Assumes nothing.
use mathlib.Core.Path.{◌≡◌, refl}
use mathlib.Core.List.{List, [], ◌∷◌, map}
use Prim.Native.Nat.{ℕ, zero, suc}
use lib.ListN.{take, replicate}
use Rattle.sequences.specs.SlotOrder.{digits, leaf_at, next_from}
use Rattle.sequences.specs.Serving.{leaves_from}
use Rattle.pieces.specs.Board.{weight, sound, single, pieces, whole, uniform, nth, sum}
use Rattle.pieces.specs.Placing.{place, put, fill, spot, fit, first}
use Rattle.pieces.specs.Tidying.{clear, tidy, step, pair, join, twin, move, copy}
use Rattle.calls.specs.declared.Drive.{Drive}
use Rattle.calls.specs.Types.{Serving}
use Rattle.std.specs.Prelude.{Ok, Err}
use Rattle.calls.specs.Records.{drive_at}
use Rattle.calls.specs.Refusals.{number_of, open_check, add_check, remove_check, slot_check, change_check, round_check, report_check}
use Rattle.calls.specs.Answers.{Answer, check_answer, change_answer, report_answer}
use Rattle.calls.specs.Results.{idle_board, slot_names, opened, opened_board, added, added_board, removed, removed_board, served, rounded_output, reported}
use Rattle.calls.specs.Spacing.{spacing_in}

data WorkedCall : Type 0 where
  -- open a board of C leaves
  opens : ℕ → WorkedCall
  -- a board of C leaves as it is lent, with what the checks of a change find
  lends : ℕ → List ℕ → WorkedCall
  adds : ℕ → ℕ → WorkedCall
  removes : ℕ → WorkedCall
  -- what is reported of a name
  reports : ℕ → WorkedCall
  -- the leaves that n slots serve
  serves : ℕ → WorkedCall
  -- the names of a round
  rounds : WorkedCall
  -- the leaves of the board
  looks : WorkedCall

leaf_of : Serving → ℕ
leaf_of (Ok s) = s.leaf
leaf_of (Err r) = number_of r

-- n slots in a row: the record after them, and the leaves
slots : ℕ → Drive → List ℕ → Drive × List ℕ
unfolding leaf_of
slots zero d B = (d, [])
slots (suc n) d B =
    let s = served d B in
    let rest = slots n s.drive B in
    (rest.0, leaf_of s.answer ∷ rest.1)

told : Answer → List ℕ
told a = a.number ∷ a.values

-- the record and the board after an act, and what it says: an answer's number and values, or what was asked for
act : WorkedCall → Drive → List ℕ → Drive × List ℕ × List ℕ
unfolding slots told
act (opens C) d B = let lent : List ℕ = replicate C 9 in ((opened C lent).drive, opened_board C lent, told (check_answer (opened C lent).answer))
act (lends C L) d B = (drive_at C 1, L, told (check_answer (change_check (drive_at C 1) L)))
act (adds x w) d B = (d, added_board d B x w, told (change_answer (added d B x w).answer))
act (removes x) d B = (d, removed_board d B x, told (change_answer (removed d B x).answer))
act (reports x) d B = (d, B, told (report_answer (reported d B x).answer))
act (serves n) d B = let s = slots n d B in (s.0, B, s.1)
act rounds d B = let lent : List ℕ = replicate d.capacity 9 in (d, B, rounded_output d B lent)
act looks d B = (d, B, take d.capacity B)

run : List WorkedCall → Drive → List ℕ → List (List ℕ)
unfolding act
run [] d B = []
run (a ∷ rest) d B = let s = act a d B in s.2 ∷ run rest s.0 s.1

-- acts, each with what the documents say of it
abbrev Case : Type 0
Case = List (WorkedCall × List ℕ)

table : List Case
table =
    -- P1
    ((opens 1, 0 ∷ []) ∷ (serves 1, 0 ∷ []) ∷ [])
    ∷ ((opens 2, 0 ∷ []) ∷ (serves 2, 0 ∷ 1 ∷ []) ∷ [])
    -- P2
    ∷ ((opens 5, 0 ∷ []) ∷ (serves 5, 0 ∷ 2 ∷ 4 ∷ 1 ∷ 3 ∷ []) ∷ [])
    -- P3
    ∷ ((opens 6, 0 ∷ []) ∷ (serves 6, 0 ∷ 4 ∷ 2 ∷ 1 ∷ 5 ∷ 3 ∷ []) ∷ [])
    -- P4
    ∷ ((opens 15, 0 ∷ []) ∷ (serves 15, 0 ∷ 8 ∷ 4 ∷ 12 ∷ 2 ∷ 10 ∷ 6 ∷ 14 ∷ 1 ∷ 9 ∷ 5 ∷ 13 ∷ 3 ∷ 11 ∷ 7 ∷ []) ∷ [])
    -- P5
    ∷ ((opens 16, 0 ∷ []) ∷ (adds 1 1, 0 ∷ 15 ∷ []) ∷ (adds 2 2, 0 ∷ 13 ∷ []) ∷ (adds 3 4, 0 ∷ 9 ∷ []) ∷ (adds 4 4, 0 ∷ 5 ∷ [])
    ∷ (rounds, 1 ∷ 4 ∷ 3 ∷ 0 ∷ 2 ∷ 4 ∷ 3 ∷ 0 ∷ 0 ∷ 4 ∷ 3 ∷ 0 ∷ 2 ∷ 4 ∷ 3 ∷ 0 ∷ []) ∷ [])
    -- P6
    ∷ ((opens 8, 0 ∷ []) ∷ (adds 1 1, 0 ∷ 7 ∷ []) ∷ (adds 2 1, 0 ∷ 6 ∷ []) ∷ (adds 3 1, 0 ∷ 5 ∷ []) ∷ (adds 4 1, 0 ∷ 4 ∷ [])
    ∷ (adds 5 1, 0 ∷ 3 ∷ []) ∷ (adds 6 1, 0 ∷ 2 ∷ []) ∷ (adds 7 1, 0 ∷ 1 ∷ []) ∷ (adds 8 1, 0 ∷ 0 ∷ [])
    ∷ (looks, 1 ∷ 2 ∷ 3 ∷ 4 ∷ 5 ∷ 6 ∷ 7 ∷ 8 ∷ []) ∷ (removes 1, 0 ∷ 1 ∷ []) ∷ (removes 3, 0 ∷ 2 ∷ [])
    ∷ (looks, 4 ∷ 2 ∷ 0 ∷ 0 ∷ 5 ∷ 6 ∷ 7 ∷ 8 ∷ []) ∷ (adds 9 2, 0 ∷ 0 ∷ []) ∷ (looks, 4 ∷ 2 ∷ 9 ∷ 9 ∷ 5 ∷ 6 ∷ 7 ∷ 8 ∷ []) ∷ [])
    -- P7
    ∷ ((opens 3, 0 ∷ []) ∷ (adds 1 1, 0 ∷ 2 ∷ []) ∷ (adds 2 1, 0 ∷ 1 ∷ []) ∷ (adds 3 1, 0 ∷ 0 ∷ []) ∷ (looks, 2 ∷ 3 ∷ 1 ∷ [])
    ∷ (removes 1, 0 ∷ 1 ∷ []) ∷ (removes 2, 0 ∷ 2 ∷ []) ∷ (looks, 0 ∷ 0 ∷ 3 ∷ []) ∷ [])
    -- P8
    ∷ ((opens 8, 0 ∷ []) ∷ (adds 7 5, 0 ∷ 3 ∷ []) ∷ (looks, 7 ∷ 7 ∷ 7 ∷ 7 ∷ 7 ∷ 0 ∷ 0 ∷ 0 ∷ []) ∷ (rounds, 7 ∷ 7 ∷ 7 ∷ 0 ∷ 7 ∷ 0 ∷ 7 ∷ 0 ∷ [])
    ∷ (adds 2 4, 10 ∷ 3 ∷ []) ∷ (adds 2 3, 0 ∷ 0 ∷ []) ∷ [])
    -- P9
    ∷ ((opens 1, 0 ∷ []) ∷ (adds 5 1, 0 ∷ 0 ∷ []) ∷ (adds 6 1, 10 ∷ 0 ∷ []) ∷ (adds 0 0, 6 ∷ 0 ∷ []) ∷ (adds 5 9, 8 ∷ 0 ∷ []) ∷ [])
    -- P10
    ∷ ((lends 2 (4 ∷ 0 ∷ []), 0 ∷ []) ∷ (lends 5 (4 ∷ 0 ∷ 0 ∷ 4 ∷ 0 ∷ []), 5 ∷ []) ∷ [])
    -- No. 1: the board of the request; a stream on leaves 0, 1 and 3 of 5, and one served once; a board of one leaf; a stream that fills its board
    ∷ ((opens 8, 0 ∷ []) ∷ (adds 7 3, 0 ∷ 5 ∷ []) ∷ (rounds, 7 ∷ 0 ∷ 7 ∷ 0 ∷ 7 ∷ 0 ∷ 0 ∷ 0 ∷ []) ∷ (reports 7, 0 ∷ 3 ∷ 2 ∷ 4 ∷ []) ∷ [])
    ∷ ((lends 5 (7 ∷ 7 ∷ 2 ∷ 7 ∷ 0 ∷ []), 0 ∷ []) ∷ (reports 7, 0 ∷ 3 ∷ 2 ∷ 3 ∷ []) ∷ (reports 2, 0 ∷ 1 ∷ 1 ∷ 5 ∷ []) ∷ [])
    ∷ ((lends 1 (5 ∷ []), 0 ∷ []) ∷ (reports 5, 0 ∷ 1 ∷ 1 ∷ 1 ∷ []) ∷ (lends 3 (4 ∷ 4 ∷ 4 ∷ []), 0 ∷ []) ∷ (reports 4, 0 ∷ 3 ∷ 2 ∷ 1 ∷ []) ∷ [])
    ∷ []

worked : map (λ (c : Case). run (map (λ (s : WorkedCall × List ℕ). s.0) c) (drive_at 0 0) []) table ≡ map (λ (c : Case). map (λ (s : WorkedCall × List ℕ). s.1) c) table
unfolding table run open_check add_check remove_check slot_check round_check change_check report_check spacing_in idle_board slot_names digits leaf_at next_from leaves_from weight sound single pieces whole uniform sum place put fill spot nth fit first clear tidy step pair join twin move copy
worked = refl
