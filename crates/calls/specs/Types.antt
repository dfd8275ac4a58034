-- What the checks before a call find: nothing, or the first refusal that applies. And the answers of the calls that have values.
-- Assumes nothing.
use Rattle.std.specs.Prelude.{ℕ, Result}
use Rattle.calls.specs.declared.Refusal.{Refusal}
use Rattle.calls.specs.declared.Unchanged.{Unchanged}
use Rattle.calls.specs.declared.Slot.{Slot}
use Rattle.calls.specs.declared.Stream.{Stream}
use Rattle.calls.specs.declared.Returned.{Returned}

abbrev pub Check : Type 0
Check = Result (Unit {0}) Refusal

-- Of add and remove: the idle leaves left.
abbrev pub Change : Type 0
Change = Result ℕ Unchanged

abbrev pub Serving : Type 0
Serving = Result Slot Refusal

abbrev pub Report : Type 0
Report = Result Stream Refusal

-- The record and the answer that a call gives back.
abbrev pub Checked : Type 0
Checked = Returned Check

abbrev pub Changed : Type 0
Changed = Returned Change

abbrev pub Served : Type 0
Served = Returned Serving

abbrev pub Reported : Type 0
Reported = Returned Report
