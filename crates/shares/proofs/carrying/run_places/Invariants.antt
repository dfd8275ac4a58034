-- What the loop of `shares::carrying::run_places` keeps. Assumes nothing.
use Rattle.std.proofs.Common.{◌≡◌, ◌-◌}
use Rattle.waiting.proofs.Laws.{state_from, list_from}
use Rattle.shares.specs.States.{held, same}
use Rattle.shares.specs.Checks.{Ready}
use Rattle.shares.specs.Results.{doing, saying}
use Rattle.shares.proofs.carrying.run_places.Given as goal

abbrev pub invariant-loop-i : goal.invariant-loop-i
invariant-loop-i l = record {
  same : same l.initial.lent l.lent;
  ready : Ready l.drive (held l.lent);
  state : state_from (doing l.drive) (saying l.drive) (held l.lent) l.list l.i (l.end - l.i) ≡ state_from (doing l.drive) (saying l.drive) (held l.initial.lent) l.initial.list l.first (l.end - l.first);
  list : list_from (doing l.drive) (saying l.drive) (held l.lent) l.list l.i (l.end - l.i) ≡ list_from (doing l.drive) (saying l.drive) (held l.initial.lent) l.initial.list l.first (l.end - l.first);
}
