-- Streams by name and weight. Assumes nothing.
use Rattle.std.specs.Prelude.{cond, List, [], ◌∷◌, ℕ, ◌+◌, eqb}

-- A name and the weight it holds, or is to hold.
pub record Stream : Type 0 where
  pub name : ℕ
  pub weight : ℕ

-- The weight of the name x among some streams, and the sum of their weights.
unfoldable pub held_of : ℕ → List Stream → ℕ
held_of x [] = 0
held_of x (h ∷ hs) = cond (eqb h.name x) h.weight 0 + held_of x hs

unfoldable pub total : List Stream → ℕ
total [] = 0
total (h ∷ hs) = h.weight + total hs
