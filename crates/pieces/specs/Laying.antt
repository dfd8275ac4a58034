-- What the functions of the fresh layout promise one another; inner to this crate. Assumes nothing.
use Rattle.std.specs.Prelude.{cond, List, [], ◌∷◌, ℕ, ◌≤◌, ◌<◌, ltb, length, get_or}
use Rattle.names.specs.Table.{Table, number_under}
use Rattle.pieces.specs.Fresh.{rising, ranks, Placeables}

-- The names of L that have a weight, in their order.
unfoldable pub holding : (ℕ → ℕ) → List ℕ → List ℕ
holding W [] = []
holding W (x ∷ L) =
    let others = holding W L in
    cond (ltb 0 (W x)) (x ∷ others) others

-- All names that have one, by the sizes M of a good board: a leaf holds 65,535 or less. No proof computes them.
unfoldable pub holders : List ℕ → List ℕ
holders M = holding (number_under M) (rising 1 65535)

-- r is below v, and no weight of the first n names of N lies between r and v.
pub record Heaviest (W : ℕ → ℕ) (N : List ℕ) (n v r : ℕ) : Type 0 where
  pub below : r < v
  pub most : (i : ℕ) → i < n → W (get_or N i 0) < v → W (get_or N i 0) ≤ r

-- A board D on which the streams of the names L, by the sizes M, can be placed.
pub record Layable (C : ℕ) (D M L : List ℕ) : Type 0 where
  pub small : C ≤ 4095
  pub sizes : Table M
  pub few : length L ≤ 4095
  pub ready : Placeables C D (ranks (number_under M) L C)
