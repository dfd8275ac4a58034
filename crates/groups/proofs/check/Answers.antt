-- `groups::check` meets its contract. Assumes nothing.
use Rattle.std.proofs.Common.{arith}
use Rattle.tree.specs.Marks.{levels}
use Rattle.tree.proofs.Laws.{levels_few}
use Rattle.groups.proofs.check.Goals as goal

pub faulty-requires : goal.faulty-requires
unfolding levels
faulty-requires c = levels_few c.args.c (grind arith) (grind arith) c.if-c-gt1.false
