-- What the loop of `telling::stores::mark` keeps. Assumes nothing.
use Rattle.std.proofs.Common.{◌<◌}
use Rattle.telling.proofs.stores.mark.Given as goal

abbrev pub invariant-loop-x : goal.invariant-loop-x
invariant-loop-x g l = l.t < 65521
