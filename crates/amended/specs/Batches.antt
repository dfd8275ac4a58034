-- A table of changes within a history of two drives: the single calls that it stands for, and what it leaves. For one drive its record stands in both places.
-- Assumes nothing.
use Rattle.std.specs.Prelude.{List, [], ◌∷◌, ◌++◌}
use Rattle.batch.specs.declared.Entry.{Entry}
use Rattle.batch.specs.Entries.{by_kind, batch_of}
use Rattle.amended.specs.Deeds.{Adds, Removes}
use Rattle.amended.specs.Turns.{Pair, Turn, Own}

-- The call that an entry stands for, a turn of the own drive; a kind that is none stands for no call.
abbrev pub turn_of : Entry → List Turn
turn_of e = by_kind e.kind (Own (Adds e.name e.weight) ∷ []) (Own (Removes e.name) ∷ []) []

unfoldable pub turns_of : List Entry → List Turn
turns_of [] = []
turns_of (e ∷ T) = turn_of e ++ turns_of T

-- What a table leaves, called for the own drive.
abbrev pub batched : Pair → List Entry → Pair
batched s T =
    let l = batch_of s.own s.other s.board s.list T in
    record { own = l.drive; other = s.other; board = l.board; list = l.list }
