-- `sequences::term` meets its contract. Assumes nothing.
use Rattle.std.proofs.Common.{add-one}
use lib.Count.{count_trailing_zeros}
use Rattle.sequences.specs.SlotOrder.{term}
use Rattle.sequences.proofs.term.Goals as goal

pub returns : goal.returns
unfolding term
returns c = add-one (count_trailing_zeros 64 c.args.p)
