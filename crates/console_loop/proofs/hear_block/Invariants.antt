-- The loop of `console_loop::hear_block` follows from the start; what is left of the block falls. Assumes nothing.
use Rattle.std.proofs.Common.{length}
use Rattle.console_loop.specs.Serving.{Follows}
use Rattle.console_loop.proofs.hear_block.Given as goal

abbrev pub invariant-loop-rest : goal.invariant-loop-rest
invariant-loop-rest g l = Follows l.initial.session l.initial.board l.initial.list l.session l.board l.list

abbrev pub decreases-loop-rest : goal.decreases-loop-rest
decreases-loop-rest g l = length l.rest
