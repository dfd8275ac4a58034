-- The types of what an import answers, by the names that the definitions use.
-- Assumes nothing.
use Rattle.std.specs.Prelude.{Result}
use Rattle.calls.specs.declared.Returned.{Returned}
use Rattle.groups.specs.declared.Unimported.{Unimported}

abbrev pub Importing : Type 0
Importing = Result (Unit {0}) Unimported

abbrev pub Imported : Type 0
Imported = Returned Importing
