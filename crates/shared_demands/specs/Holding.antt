-- What is held, and what a history may begin with: request No. 7 over the calls of two drives.
-- Assumes nothing.
use Rattle.std.specs.Prelude.{◌≡◌, true, cond, ◌&&◌, List, [], ◌∷◌, map, ℕ, ◌+◌, ◌*◌, eqb, Ok}
use Rattle.std.specs.Int.Count.{ones}
use Rattle.calls.specs.declared.Drive.{Drive}
use Rattle.calls.specs.Answers.{Answer}
use Rattle.tables.specs.Sharing.{all_zero}
use Rattle.demands.specs.Histories.{log}
use Rattle.pieces.specs.Streams.{Stream}
use Rattle.demands.specs.Holdings.{held_from}
use Rattle.waiting.specs.declared.Order.{Order}
use Rattle.orders.specs.Results.{carried_answer, carried_board}
use Rattle.shares.specs.Results.{board_order}
use Rattle.amended.specs.Histories.{following}
use Rattle.amended.specs.Carried as carried
use Rattle.amended.specs.Holding as holding
use Rattle.shared_demands.specs.Turns.{Pair, exchanged, shown, first_checks, Deed, Turn, Own, Other, leaves, due, carries_out, acts_for, shared}

-- What is held after a call, where hs was held before: by the answers of the acts of both drives that it is, so that an over-allocated stream holds R.
abbrev pub held_own : List Stream → Deed → Pair → List Stream
held_own hs a s = held_from hs (log (shown s) (shared a s))

abbrev pub held_next : List Stream → Turn → Pair → List Stream
held_next hs (Own a) s = held_own hs a s
held_next hs (Other a) s = held_own hs a (exchanged s)

abbrev pub held_through : List Stream → Pair → List Turn → List Stream
held_through hs s turns = following leaves held_next hs s turns

-- What is held once the list has run, if it runs, before a round's first slot is picked.
abbrev pub held_then : List Stream → Pair → List Stream
held_then hs s = held_from hs (log (shown s) (acts_for (due s)))

-- ---- r, by the answers alone

-- The r that each name has, after an order that is carried out and answered: an over-allocated add that is done gives its own, a remove that is done takes it away.
unfoldable pub asked_by : Answer → Order → (ℕ → ℕ) → ℕ → ℕ
asked_by a o g y = cond (eqb a.number 0 && eqb y o.name) (cond (eqb o.kind 3) o.weight (cond (eqb o.kind 2) 0 (g y))) (g y)

-- After orders, one after the other, on the board B.
unfoldable pub asked_all : Drive → List ℕ → (ℕ → ℕ) → List Order → ℕ → ℕ
unfolding asked_by
asked_all d B g [] = g
asked_all d B g (o ∷ os) = asked_all d (carried_board d B (board_order o)) (asked_by (carried_answer d B (board_order o)) o g) os

-- After calls.
abbrev pub asked_own : (ℕ → ℕ) → Deed → Pair → ℕ → ℕ
asked_own g a s = asked_all s.own s.state.board g (carries_out a s)

abbrev pub asked_next : (ℕ → ℕ) → Turn → Pair → ℕ → ℕ
asked_next g (Own a) s = asked_own g a s
asked_next g (Other a) s = asked_own g a (exchanged s)

abbrev pub asked_through : (ℕ → ℕ) → Pair → List Turn → ℕ → ℕ
asked_through g s turns = following leaves asked_next g s turns

-- Once the list has run, if it runs, before a round's first slot is picked.
abbrev pub asked_then : (ℕ → ℕ) → Pair → ℕ → ℕ
asked_then g s = asked_all s.own s.state.board g (due s)

-- ---- orders in their turn, and where a history begins

-- What an order is answered in its turn, when the orders ahead of it are carried out.
abbrev pub in_turn : Pair → List Order → Order → Answer
in_turn s ahead o = carried.in_turn (shown s) (map board_order ahead) (board_order o)

-- The streams on the board where a history begins.
abbrev pub streams_on : Pair → List Stream
streams_on s = holding.on_board (shown s)

-- What a history may begin with: records, board, tables and list pass the first checks, and no stream is over-allocated. Every open and every read that is done
-- leaves such, since it clears the tables.
pub record Ready (s : Pair) : Type 0 where
  pub clear : first_checks s ≡ Ok tt
  pub none : all_zero s.own.capacity s.state.rates ≡ true

-- C + R h, with h ones in C: the bound of demand 3 for one piece of R leaves.
abbrev pub piece_bound : ℕ → ℕ → ℕ
piece_bound C R = C + R * ones C
