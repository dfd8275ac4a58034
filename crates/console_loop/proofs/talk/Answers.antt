-- `console_loop::talk` meets its contract. Assumes nothing.
use Rattle.console_loop.proofs.Hearing.{at_first, then, follows_served}
use Rattle.console_loop.proofs.talk.Goals as goal

pub loop-init : goal.loop-init
loop-init g c = rw (← c.new-session.ensures) (at_first _ _ _)

pub returns-in_err-take_turn : goal.returns-in_err-take_turn
returns-in_err-take_turn g c = follows_served _ _ _ _ _ (then _ _ _ _ _ _ _ _ _ c.loop.invariant c.take_turn.ensures)

pub loop-preserved : goal.loop-preserved
loop-preserved g c = then _ _ _ _ _ _ _ _ _ c.loop.invariant c.take_turn.ensures
