-- `sequences::three` meets its contract. Assumes nothing.
use Rattle.std.proofs.Common.{arith}
use Rattle.sequences.specs.Sequences.{rb}
use Rattle.sequences.proofs.three.Goals as goal

pub returns : goal.returns
unfolding rb
returns c = omega arith
