-- `sequences::six` meets its contract. Assumes nothing.
use Rattle.std.proofs.Common.{arith}
use Rattle.sequences.proofs.Reverse.{rb_split}
use Rattle.sequences.proofs.six.Goals as goal

pub returns : goal.returns
returns c = omega (arith, rb_split c.args.i 3 3)
