-- What is held, as request No. 2 amends it: a stream is held from the moment its add is carried out until its remove is.
-- Assumes nothing.
use Rattle.std.specs.Prelude.{◌≡◌, true, cond, List, [], ◌∷◌, ℕ, zero, suc, ◌≤◌, eqb, length, get_or, Ok}
use Rattle.pieces.specs.Board.{good}
use Rattle.calls.specs.Refusals.{slot_check}
use Rattle.demands.specs.Histories.{State, log}
use Rattle.pieces.specs.Streams.{Stream}
use Rattle.demands.specs.Holdings.{held_from}
use Rattle.amended.specs.Histories.{following}
use Rattle.amended.specs.Carried.{acts_of}
use Rattle.amended.specs.Deeds.{Deed, Desk, leaves, restarts, stands_for, due}

-- The streams on n leaves: each leaf of a name counts 1 of its weight.
unfoldable pub on_leaves : List ℕ → ℕ → List Stream
on_leaves B zero = []
on_leaves B (suc n) = let others = on_leaves B n in cond (eqb (get_or B n 0) 0) others (record { name = get_or B n 0; weight = 1 } ∷ others)

-- The streams on a board.
abbrev pub on_board : State → List Stream
on_board s = on_leaves s.board s.drive.capacity

-- What is held after a call, where hs was held before: after an open or a read that is done what is on the board, and else by the answers of the plain calls
-- that it stands for.
abbrev pub held_next : List Stream → Deed → Desk → List Stream
held_next hs a s = cond (restarts a s) (on_board (leaves a s).state) (held_from hs (log s.state (stands_for a s)))

abbrev pub held_through : List Stream → Desk → List Deed → List Stream
held_through hs s deeds = following leaves held_next hs s deeds

-- What is held once the list has run, before a round's first slot is picked.
abbrev pub held_then : List Stream → Desk → List Stream
held_then hs s = held_from hs (log s.state (acts_of (due s)))

-- A desk that a history may begin with: the record and the board pass slot's checks, the board is good, the list is long enough. Every open and every read
-- that is done leaves such a desk.
pub record Ready (s : Desk) : Type 0 where
  pub clear : slot_check s.state.drive s.state.board ≡ Ok tt
  pub fine : good s.state.drive.capacity s.state.board ≡ true
  pub long : 259 ≤ length s.list
