-- What the calls on an entry and on a table promise, for every input: the result, and what the board and the tables (t), the list (F) and the table of changes (U)
-- hold at exit.
-- Assumes nothing.
use Rattle.std.specs.Prelude.{◌≡◌, List, ℕ}
use Rattle.calls.specs.declared.Drive.{Drive}
use Rattle.shares.specs.States.{BoardTables}
use Rattle.batch.specs.declared.Entry.{Entry}
use Rattle.batch.specs.declared.Carried.{Carried}
use Rattle.share_batch.specs.Entries.{ordered_state, ordered_list, carried, batch_of}

abbrev pub Carries : Drive → Drive → BoardTables → List ℕ → Entry → Carried → BoardTables → List ℕ → Type 0
Carries a b s L e r t F = (r ≡ carried a b s L e) × (t ≡ ordered_state a b s L e) × (F ≡ ordered_list a b s L e)

abbrev pub Batches : Drive → Drive → BoardTables → List ℕ → List Entry → Drive → BoardTables → List ℕ → List Entry → Type 0
Batches a b s L T r t F U =
    (r ≡ (batch_of a b s L T).drive) × (t ≡ (batch_of a b s L T).state) × (F ≡ (batch_of a b s L T).list) × (U ≡ (batch_of a b s L T).table)
