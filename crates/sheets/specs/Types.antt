-- The types of what save answers, by the names that the definitions use.
-- Assumes nothing.
use Rattle.std.specs.Prelude.{ℕ, Result}
use Rattle.calls.specs.declared.Refusal.{Refusal}
use Rattle.calls.specs.declared.Returned.{Returned}

-- How many bytes were written.
abbrev pub Saving : Type 0
Saving = Result ℕ Refusal

abbrev pub Saved : Type 0
Saved = Returned Saving
