-- What the loop of `tree::descend` keeps. Assumes nothing.
use Rattle.std.proofs.Common.{◌≡◌, suc, ◌-◌, ◌*◌, ◌^◌, ◌≤◌, length}
use Rattle.tree.specs.Marks.{node_from, marks_from}
use Rattle.tree.proofs.descend.Given as goal

abbrev pub invariant-loop : goal.invariant-loop
invariant-loop l =
    (length l.marks ≡ length l.initial.marks) × (2 ^ (l.d - l.counter) * suc (suc l.node) ≤ 2 * 2 ^ l.d)
    × (node_from (l.d - l.counter) l.marks l.node ≡ node_from l.d l.initial.marks 0)
    × (marks_from (l.d - l.counter) l.marks l.node ≡ marks_from l.d l.initial.marks 0)
