-- What the loop of `sheet_cases::show_lengths` keeps. Assumes nothing.
use Rattle.std.proofs.Common.{◌≤◌}
use Rattle.sheet_cases.proofs.show_lengths.Given as goal

abbrev pub invariant-loop-n : goal.invariant-loop-n
invariant-loop-n g l = (l.clear ≤ l.n) × (l.block ≤ l.n)
