-- A board laid out afresh, request No. 12: as if every stream had been added to an opened board by falling weight, then rising name. Assumes nothing.
use Rattle.std.specs.Prelude.{cond, List, [], ◌∷◌, ◌++◌, ℕ, zero, suc, max, ◌<◌, eqb, get_or}
use Rattle.pieces.specs.Board.{weight}
use Rattle.pieces.specs.Placing.{Placeable, fill, placed}
use Rattle.pieces.specs.Streams.{Stream}

-- The n names from x on, rising.
unfoldable pub rising : ℕ → ℕ → List ℕ
rising x zero = []
rising x (suc n) = x ∷ rising (suc x) n

-- The streams of the weight w, by the names L in their order. W gives the weight of each name.
unfoldable pub rank : (ℕ → ℕ) → ℕ → List ℕ → List Stream
rank W w [] = []
rank W w (x ∷ L) =
    let others = rank W w L in
    cond (eqb (W x) w) (record { name = x; weight = w } ∷ others) others

-- The streams of the weights w to 1, by falling weight, and those of one weight by the names L in their order.
unfoldable pub ranks : (ℕ → ℕ) → List ℕ → ℕ → List Stream
ranks W L zero = []
ranks W L (suc w) = rank W (suc w) L ++ ranks W L w

-- D with streams placed on it, one after the other.
unfoldable pub all_placed : ℕ → List ℕ → List Stream → List ℕ
all_placed C D [] = D
all_placed C D (s ∷ ss) = all_placed C (placed C D s.name s.weight) ss

-- Each of them can be added when its turn comes: a good board with room that does not hold it.
unfoldable pub Placeables : ℕ → List ℕ → List Stream → Type 0
Placeables C D [] = Unit {0}
Placeables C D (s ∷ ss) = Placeable C D s.name s.weight × (0 < s.weight) × Placeables C (placed C D s.name s.weight) ss

-- The largest name that a leaf holds.
unfoldable pub largest_name : ℕ → List ℕ → ℕ
largest_name zero B = 0
largest_name (suc n) B = max (largest_name n B) (get_or B n 0)

-- B with its leaves idle.
abbrev pub idle : ℕ → List ℕ → List ℕ
idle C B = fill B 0 C 0

-- The streams of a board, by falling weight, then rising name.
abbrev pub streams : ℕ → List ℕ → List Stream
streams C B = ranks (weight C B) (rising 1 (largest_name C B)) C

-- The board laid out afresh.
abbrev pub fresh : ℕ → List ℕ → List ℕ
fresh C B = all_placed C (idle C B) (streams C B)
