-- What the loop of `groups::GroupTable::write_slots` keeps. Assumes nothing.
use Rattle.std.proofs.Common.{◌≡◌, ◌≤◌, length, replicate}
use Rattle.groups.specs.Rounds.{Pointing, pointers_after}
use Rattle.groups.proofs.RoundSteps.{written}
use Rattle.groups.proofs.GroupTable.write_slots.Given as goal

abbrev pub invariant-loop-t : goal.invariant-loop-t
invariant-loop-t l =
    (l.t ≤ l.c) × (length l.output ≡ length l.initial.output) × Pointing l.self.k l.self.starts.now l.pointers × (l.pointers ≡ pointers_after l.self.k l.self.starts.now (replicate l.self.k 0) 0 l.t)
    × (l.output ≡ written l.self.k l.self.starts.now l.self.names.now (replicate l.self.k 0) l.initial.output l.t)
