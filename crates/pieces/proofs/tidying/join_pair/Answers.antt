-- `pieces::tidying::join_pair` meets its contract. Assumes nothing.
use Rattle.std.proofs.Common.{◌∙◌, ◌+◌, ◌^◌, arith, le-leb}
use borrow.Author.Tests.{lt-leb}
use Rattle.pieces.proofs.Joining.{pair_size, pair_ends, apart_first, apart_second}
use Rattle.pieces.proofs.LoopSteps.{twin_le}
use Rattle.pieces.specs.Tidying as tidying
use Rattle.pieces.proofs.tidying.join_pair.Goals as goal

pub twin-t-requires : goal.twin-t-requires
twin-t-requires c = omega (arith, pair_size _ _ _ _ _ c.requires.2, pair_ends _ _ _ _ _ c.requires.2)

pub overflow_add-t : goal.overflow_add-t
overflow_add-t c = omega (arith, pair_size _ _ _ _ _ c.requires.2, pair_ends _ _ _ _ _ c.requires.2, twin_le c.args.p.second c.args.p.exponent, c.twin-t.ensures, c.size_of-z.ensures)

pub move_run-requires : goal.move_run-requires
move_run-requires c = rw (c.twin-t.ensures, c.size_of-z.ensures) (apart_second _ _ _ _ _ c.requires.2 c.requires.1 c.requires.0 (omega (arith, c.if-t-z.true, c.twin-t.ensures, c.size_of-z.ensures)))

pub twin-requires : goal.twin-requires
twin-requires c = omega (arith, pair_size _ _ _ _ _ c.requires.2, pair_ends _ _ _ _ _ c.requires.2)

pub move_run-requires-else-t-z : goal.move_run-requires-else-t-z
move_run-requires-else-t-z c = rw (c.twin.ensures, c.size_of-z.ensures) (apart_first _ _ _ _ _ c.requires.2 c.requires.1 c.requires.0)

pub returns-then-t-z : goal.returns-then-t-z
unfolding tidying.join
returns-then-t-z c = c.move_run.ensures ∙ simp (c.twin-t.ensures, c.size_of-z.ensures, le-leb (tidying.twin c.args.p.second c.args.p.exponent + 2 ^ c.args.p.exponent) c.args.c (omega (arith, c.if-t-z.true, c.twin-t.ensures, c.size_of-z.ensures)))

pub returns-else-t-z : goal.returns-else-t-z
unfolding tidying.join
returns-else-t-z c = c.move_run-else-t-z.ensures ∙ simp (c.twin.ensures, c.size_of-z.ensures, lt-leb (tidying.twin c.args.p.second c.args.p.exponent + 2 ^ c.args.p.exponent) c.args.c (omega (arith, c.if-t-z.false, c.twin-t.ensures, c.size_of-z.ensures)))
