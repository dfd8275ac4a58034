-- A stream's turn at each of its leaves, and the turns of a round: document 02, request No. 7.
-- Assumes nothing.
use Rattle.std.specs.Prelude.{◌≡◌, true, cond, List, [], ◌∷◌, ℕ, ◌+◌, ◌-◌, ◌≤◌, eqb, ltb, get_or, set, length, replicate}
use Rattle.sequences.specs.Serving.{leaves_from}
use Rattle.pieces.specs.Board.{weight, good}
use Rattle.tables.specs.Sharing.{held_for, lowest, rates_fit}

-- How far the deficit of a stream of weight r is below 0 after a turn: it exceeded -r, and the stream was served and r - R added; or r was added. So the deficit
-- itself moves: proofs/Laws, `deficit_served`, `deficit_passed`.
unfoldable pub owed_next : ℕ → ℕ → ℕ
unfolding held_for
owed_next r v = cond (ltb v r) (v + (held_for r - r)) (v - r)

-- The turn of the name x whose lowest leaf is l: the name that the slot goes to.
unfoldable pub turn_name : List ℕ → List ℕ → ℕ → ℕ → ℕ
turn_name T E l x = cond (eqb (get_or T l 0) 0) x (cond (ltb (get_or E l 0) (get_or T l 0)) x 0)

-- And the deficits after it.
unfoldable pub turn_owed : List ℕ → List ℕ → ℕ → List ℕ
unfolding owed_next
turn_owed T E l = cond (eqb (get_or T l 0) 0) E (set E l (owed_next (get_or T l 0) (get_or E l 0)))

-- The turn at leaf a of the board B.
abbrev pub name_at : ℕ → List ℕ → List ℕ → List ℕ → ℕ → ℕ
name_at C B T E a = turn_name T E (lowest C B (get_or B a 0)) (get_or B a 0)

abbrev pub owed_at : ℕ → List ℕ → List ℕ → List ℕ → ℕ → List ℕ
owed_at C B T E a = turn_owed T E (lowest C B (get_or B a 0))

-- The turns at leaves one after the other: the names, and the deficits after them.
unfoldable pub names_along : ℕ → List ℕ → List ℕ → List ℕ → List ℕ → List ℕ
unfolding turn_name turn_owed lowest
names_along C B T E [] = []
names_along C B T E (a ∷ leaves) = name_at C B T E a ∷ names_along C B T (owed_at C B T E a) leaves

unfoldable pub owed_along : ℕ → List ℕ → List ℕ → List ℕ → List ℕ → List ℕ
unfolding turn_owed lowest
owed_along C B T E [] = E
owed_along C B T E (a ∷ leaves) = owed_along C B T (owed_at C B T E a) leaves

-- The C names of a full round from p = 1, every deficit taken as 0.
unfoldable pub round_serves : ℕ → List ℕ → List ℕ → List ℕ
unfolding names_along leaves_from
round_serves C B T = names_along C B T (replicate C 0) (leaves_from C 1 C)

-- How often that round serves the name x, as it is reported: r where the stream is over-allocated, else its leaves (proofs/Laws, `round_serves_lem`).
unfoldable pub served_weight : ℕ → List ℕ → List ℕ → ℕ → ℕ
unfolding lowest
served_weight C B T x = cond (eqb (get_or T (lowest C B x) 0) 0) (weight C B x) (get_or T (lowest C B x) 0)

-- What turns rest on: a good board and rates that fit it, both long enough.
pub record Shared (C : ℕ) (B T : List ℕ) : Type 0 where
  pub few : C ≤ 4095
  pub board : C ≤ length B
  pub rates : C ≤ length T
  pub sound : good C B ≡ true
  pub fit : rates_fit C B T ≡ true
