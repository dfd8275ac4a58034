-- What take and fetch promise: the answer, and what the list holds at exit (F).
-- Assumes nothing.
use Rattle.std.specs.Prelude.{◌≡◌, List, ℕ}
use Rattle.waiting.specs.declared.Order.{Order}
use Rattle.waiting.specs.Types.{Taking, Fetching}
use Rattle.waiting.specs.Layout.{taken, taken_list, fetched, fetched_list}

abbrev pub Takes : List ℕ → Order → Taking → List ℕ → Type 0
Takes L o r F = (r ≡ taken L) × (F ≡ taken_list L o)

abbrev pub Fetches : List ℕ → ℕ → Fetching → List ℕ → Type 0
Fetches L t r F = (r ≡ fetched L t) × (F ≡ fetched_list L t)
