-- The loop of `console_loop::talk` follows from the start. Assumes nothing.
use Rattle.lines.specs.Sessions.{started}
use Rattle.console_loop.specs.Serving.{Follows}
use Rattle.console_loop.proofs.talk.Given as goal

abbrev pub invariant-loop : goal.invariant-loop
invariant-loop g l = Follows started l.initial.board l.initial.list l.session l.board l.list
