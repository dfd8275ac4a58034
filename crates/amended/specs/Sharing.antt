-- What the demands say of two drives on one board: demand 1 of a call, what is held, which is one thing for both drives, and what becomes of an order.
-- Assumes nothing.
use Rattle.std.specs.Prelude.{◌≡◌, Bool, true, cond, List, [], ℕ, eqb, length, Ok}
use Rattle.pieces.specs.Board.{good}
use Rattle.demands.specs.Histories.{log}
use Rattle.pieces.specs.Streams.{Stream}
use Rattle.demands.specs.Holdings.{held_from}
use Rattle.waiting.specs.declared.Order.{Order}
use Rattle.drives.specs.Results.{rounded_output, saved_output_by}
use Rattle.amended.specs.Histories.{following}
use Rattle.amended.specs.Carried.{acts_of, in_turn}
use Rattle.amended.specs.Deeds as one
use Rattle.amended.specs.Deeds.{form_of, Deed, Opens, Reads, Adds, Removes, Slots, Rounds, Reports, Saves, Fetches, Refreshes}
use Rattle.amended.specs.Refusing as refusing
use Rattle.amended.specs.Refusing.{RefusedBy}
use Rattle.amended.specs.Holding.{on_board}
use Rattle.amended.specs.Fates as fates
use Rattle.amended.specs.Fates.{Fate, ran}
use Rattle.amended.specs.Turns.{Pair, exchanged, seen, shown, first_checks, save_checks, answers_own, returned, board_after, list_after, leaves_own, Turn, Own, Other, leaves, runs, due, shared}

-- ---- demand 1, of a call of the own drive; for the other's the records are exchanged

-- It is done: it answers 0; a fetch, that it hands an answer out.
abbrev pub is_done : Deed → Pair → Bool
is_done (Opens C) s = refusing.is_done (Opens C) (seen s)
is_done (Reads form S) s = refusing.is_done (Reads form S) (seen s)
is_done (Adds x w) s = eqb (answers_own (Adds x w) s).number 0
is_done (Removes x) s = eqb (answers_own (Removes x) s).number 0
is_done Slots s = eqb (answers_own Slots s).number 0
is_done (Rounds O) s = eqb (answers_own (Rounds O) s).number 0
is_done (Reports x) s = eqb (answers_own (Reports x) s).number 0
is_done (Saves form O) s = eqb (answers_own (Saves form O) s).number 0
is_done (Fetches t) s = refusing.is_done (Fetches t) (seen s)
is_done Refreshes s = eqb (answers_own Refreshes s).number 0

-- What it leaves in the output that it is lent.
abbrev pub writes : Deed → Pair → List ℕ
writes (Opens C) s = []
writes (Reads form S) s = []
writes (Adds x w) s = []
writes (Removes x) s = []
writes Slots s = []
writes (Rounds O) s = rounded_output s.own s.other s.board O
writes (Reports x) s = []
writes (Saves form O) s = saved_output_by (form_of form) (save_checks form s (length O)) s.own s.board O
writes (Fetches t) s = []
writes Refreshes s = []

-- It is not done.
abbrev pub Refused : Deed → Pair → Type 0
Refused a s = RefusedBy a (seen s) (answers_own a s) (returned a s) (board_after a s) (list_after a s) (writes a s)

-- ---- what is held

-- After a call, where hs was held before: after an open or a read that is done what is on the board, and else by the answers of the acts of both drives that it is.
abbrev pub held_own : List Stream → Deed → Pair → List Stream
held_own hs a s = cond (one.restarts a (seen s)) (on_board (shown (leaves_own a s))) (held_from hs (log (shown s) (shared a s)))

abbrev pub held_next : List Stream → Turn → Pair → List Stream
held_next hs (Own a) s = held_own hs a s
held_next hs (Other a) s = held_own hs a (exchanged s)

abbrev pub held_through : List Stream → Pair → List Turn → List Stream
held_through hs s turns = following leaves held_next hs s turns

-- What is held once the list has run, if it runs, before a round's first slot is picked.
abbrev pub held_then : List Stream → Pair → List Stream
held_then hs s = held_from hs (log (shown s) (acts_of (due s)))

-- What a history may begin with: records, board and list pass slot's checks, and the board is good. Every open and every read that is done leaves such.
pub record Ready (s : Pair) : Type 0 where
  pub clear : first_checks s ≡ Ok tt
  pub fine : good s.own.capacity s.board ≡ true

-- ---- what becomes of an order: t is its ticket, o the order, `ahead` the orders that waited when it was taken

-- Its fate after a call: a slot that runs the list answers it in its turn; every other call does to it what that of one drive does.
abbrev pub fate_own : ℕ → Order → List Order → Fate → Deed → Pair → Fate
fate_own t o ahead φ (Opens C) s = fates.fate_next t o ahead φ (Opens C) (seen s)
fate_own t o ahead φ (Reads form S) s = fates.fate_next t o ahead φ (Reads form S) (seen s)
fate_own t o ahead φ (Adds x w) s = φ
fate_own t o ahead φ (Removes x) s = φ
fate_own t o ahead φ Slots s = cond (runs s) (ran (in_turn (shown s) ahead o) φ) φ
fate_own t o ahead φ (Rounds O) s = φ
fate_own t o ahead φ (Reports x) s = φ
fate_own t o ahead φ (Saves form O) s = φ
fate_own t o ahead φ (Fetches u) s = fates.fate_next t o ahead φ (Fetches u) (seen s)
fate_own t o ahead φ Refreshes s = φ

abbrev pub fate_next : ℕ → Order → List Order → Fate → Turn → Pair → Fate
fate_next t o ahead φ (Own a) s = fate_own t o ahead φ a s
fate_next t o ahead φ (Other a) s = fate_own t o ahead φ a (exchanged s)

abbrev pub fate_through : ℕ → Order → List Order → Fate → Pair → List Turn → Fate
fate_through t o ahead φ s turns = following leaves (fate_next t o ahead) φ s turns
