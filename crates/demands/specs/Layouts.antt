-- Request No. 12: the adds as which a fresh layout leaves the board, one for each stream, by falling weight, then rising name.
-- Assumes nothing.
use Rattle.std.specs.Prelude.{◌≡◌, List, [], ◌∷◌, ℕ}
use Rattle.pieces.specs.Fresh.{streams}
use Rattle.pieces.specs.Streams.{Stream}
use Rattle.demands.specs.Histories.{Act, Add, Event}

-- An add for each of these streams, in their order.
unfoldable pub adds_of : List Stream → List Act
adds_of [] = []
adds_of (s ∷ ss) = Add s.name s.weight ∷ adds_of ss

-- An add for each stream of a board, by falling weight, then rising name.
abbrev pub stream_adds : ℕ → List ℕ → List Act
stream_adds C B = adds_of (streams C B)

-- Every act is done.
unfoldable pub AllDone : List Event → Type 0
AllDone [] = Unit {0}
AllDone (e ∷ es) = (e.answer.number ≡ 0) × AllDone es
