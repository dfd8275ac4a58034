-- What becomes of one order, call by call, and what a fetch of its ticket says. t is its ticket, o the order, `ahead` the orders that waited when it was taken.
-- Assumes nothing.
use Rattle.std.specs.Prelude.{cond, List, [], ◌∷◌, ℕ, eqb}
use Rattle.calls.specs.Answers.{Answer}
use Rattle.waiting.specs.declared.Order.{Order}
use Rattle.amended.specs.Histories.{following}
use Rattle.amended.specs.Carried.{in_turn}
use Rattle.amended.specs.Deeds.{Deed, Opens, Reads, Adds, Removes, Slots, Rounds, Reports, Saves, Fetches, Refreshes, Desk, leaves, restarts, runs}

-- It waits; it is answered, and the answer is to be fetched; or its answer was fetched, or an open or a read struck it off.
pub data Fate : Type 0 where
  Waits : Fate
  Answered : Answer → Fate
  Gone : Fate

-- What a fetch of the ticket says: 13 and the ticket, the answer, 15.
abbrev pub told_of : ℕ → Fate → Answer
told_of t Waits = record { number = 13; values = t ∷ [] }
told_of t (Answered a) = a
told_of t Gone = record { number = 15; values = 0 ∷ [] }

-- A run answers it, if it waits; a fetch of its ticket takes its answer.
abbrev pub ran : Answer → Fate → Fate
ran a Waits = Answered a
ran a (Answered b) = Answered b
ran a Gone = Gone

abbrev pub handed_out : Fate → Fate
handed_out Waits = Waits
handed_out (Answered a) = Gone
handed_out Gone = Gone

-- Its fate after a call: a slot that runs the list answers it in its turn; a fetch of its own ticket takes the answer; an open or a read that is done strikes it
-- off; no other call does anything to it.
abbrev pub fate_next : ℕ → Order → List Order → Fate → Deed → Desk → Fate
fate_next t o ahead φ (Opens C) s = cond (restarts (Opens C) s) Gone φ
fate_next t o ahead φ (Reads form S) s = cond (restarts (Reads form S) s) Gone φ
fate_next t o ahead φ (Adds x w) s = φ
fate_next t o ahead φ (Removes x) s = φ
fate_next t o ahead φ Slots s = cond (runs s) (ran (in_turn s.state ahead o) φ) φ
fate_next t o ahead φ (Rounds O) s = φ
fate_next t o ahead φ (Reports x) s = φ
fate_next t o ahead φ (Saves form O) s = φ
fate_next t o ahead φ (Fetches u) s = cond (eqb u t) (handed_out φ) φ
fate_next t o ahead φ Refreshes s = φ

abbrev pub fate_through : ℕ → Order → List Order → Fate → Desk → List Deed → Fate
fate_through t o ahead φ s deeds = following leaves (fate_next t o ahead) φ s deeds
