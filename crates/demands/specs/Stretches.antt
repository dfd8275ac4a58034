-- Request No. 13: calls in which nothing is changed, capacities that are a power of two, and how near to its share a stream is served.
-- Assumes nothing.
use Rattle.std.specs.Prelude.{◌≡◌, Bool, true, not, ◌&&◌, List, [], ◌∷◌, ℕ, zero, ◌+◌, ◌*◌, ◌^◌, ◌≤◌, ◌<◌, eqb, length}
use Rattle.sequences.specs.Scanning.{occurrences}
use Rattle.pieces.specs.Board.{piece_count}
use Rattle.demands.specs.Histories.{Act, State, Event, log}
use Rattle.pieces.specs.Streams.{Stream, held_of}
use Rattle.demands.specs.Holdings.{changes_board}
use Rattle.demands.specs.Rounds.{in_a_row, Near, bound, power_bound}

-- A change of the board that is done: an add, a remove or a fresh layout that answers 0.
abbrev pub is_done : Event → Bool
is_done e = changes_board e.act && eqb e.answer.number 0

-- None of them is.
unfoldable pub none_done : List Event → Bool
none_done [] = true
none_done (e ∷ es) = not (is_done e) && none_done es

-- No change among the calls is done: each add, each remove and each fresh layout of them is refused.
abbrev pub Still : State → List Act → Type 0
Still s acts = none_done (log s acts) ≡ true

-- C is a power of two.
abbrev pub PowerOfTwo : ℕ → Type 0
PowerOfTwo C = (n : ℕ) × (C ≡ 2 ^ n)

-- In any t successive ones of the slots that served these names a stream of weight w and m pieces is served s times, and C s and w t differ by less than m C. B is
-- the board, hs what is held on it.
abbrev pub PowerFair : ℕ → List ℕ → List Stream → List ℕ → Type 0
PowerFair C B hs served =
    (x w m i t : ℕ) → held_of x hs ≡ w → zero < w → piece_count C B x ≡ m → i + t ≤ length served → Near (C * occurrences x (in_a_row i t served)) (w * t) (power_bound C m)

-- In any t successive ones of them a stream of weight w is served s times, and C s and w t differ by less than m C + w h, with m ones in w and h in C.
abbrev pub StillFair : ℕ → List Stream → List ℕ → Type 0
StillFair C hs served = (x w i t : ℕ) → held_of x hs ≡ w → zero < w → i + t ≤ length served → Near (C * occurrences x (in_a_row i t served)) (w * t) (bound C w)
