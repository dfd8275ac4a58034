-- The type of what became of a weight, by the name that the definitions use.
-- Assumes nothing.
use Rattle.std.specs.Prelude.{ℕ, Result}
use Rattle.pieces.specs.declared.NoRoom.{NoRoom}

-- The idle leaves left.
abbrev pub Admission : Type 0
Admission = Result ℕ NoRoom
