-- `sequences::leaf` meets its contract. Assumes nothing.
use Rattle.std.proofs.Common.{◌≡◌, ◌+◌, arith}
use Rattle.sequences.specs.SlotOrder.{leaf_at}
use Rattle.sequences.proofs.Stepping.{column_small, term_small, leaf_64, leaf_small}
use Rattle.sequences.proofs.leaf.Goals as goal
use Rattle.sequences.proofs.leaf.Goals.{After-reversed}

pub start-requires : goal.start-requires
start-requires c = omega (arith, column_small c.args.c c.args.p c.requires)

pub overflow_shr-p : goal.overflow_shr-p
overflow_shr-p c = omega (arith, term_small c.args.c c.args.p c.requires)

pub reversed-requires : goal.reversed-requires
reversed-requires c = omega (arith, column_small c.args.c c.args.p c.requires)

-- The sum is the leaf.
is : (c : After-reversed) → c.start.result + c.reversed.result ≡ leaf_at c.args.c c.args.p
is c = cc (leaf_64 c.args.c c.args.p c.requires)

pub overflow_add-result : goal.overflow_add-result
overflow_add-result c = omega (arith, is c, leaf_small c.args.c c.args.p c.requires)

pub returns : goal.returns
returns c = is c
