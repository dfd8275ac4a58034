-- What the calls on an entry and on a table promise, for every input: the result, and what the board (E), the list (F) and the table (U) hold at exit.
-- Assumes nothing.
use Rattle.std.specs.Prelude.{◌≡◌, List, ℕ}
use Rattle.calls.specs.declared.Drive.{Drive}
use Rattle.batch.specs.declared.Entry.{Entry}
use Rattle.batch.specs.declared.Carried.{Carried}
use Rattle.batch.specs.Entries.{ordered_board, ordered_list, carried, batch_of}

abbrev pub Carries : Drive → Drive → List ℕ → List ℕ → Entry → Carried → List ℕ → List ℕ → Type 0
Carries a b B L e r E F = (r ≡ carried a b B L e) × (E ≡ ordered_board a b B L e) × (F ≡ ordered_list a b B L e)

abbrev pub Batches : Drive → Drive → List ℕ → List ℕ → List Entry → Drive → List ℕ → List ℕ → List Entry → Type 0
Batches a b B L T r E F U =
    (r ≡ (batch_of a b B L T).drive) × (E ≡ (batch_of a b B L T).board) × (F ≡ (batch_of a b B L T).list) × (U ≡ (batch_of a b B L T).table)
