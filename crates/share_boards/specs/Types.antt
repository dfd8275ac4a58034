-- The types of what save answers where tables are lent, by the names that the definitions use.
-- Assumes nothing.
use Rattle.std.specs.Prelude.{ℕ, Result}
use Rattle.calls.specs.declared.Returned.{Returned}
use Rattle.share_boards.specs.declared.starting.Unsaved.{Unsaved}

-- How many bytes were written.
abbrev pub ShareSaving : Type 0
ShareSaving = Result ℕ Unsaved

abbrev pub ShareSaved : Type 0
ShareSaved = Returned ShareSaving
