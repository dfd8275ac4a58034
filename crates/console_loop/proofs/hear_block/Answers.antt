-- `console_loop::hear_block` meets its contract. Assumes nothing.
use Rattle.console_loop.proofs.Hearing.{at_first, fed_follows, then}
use Rattle.console_loop.proofs.hear_block.Goals as goal

pub loop-rest-init : goal.loop-rest-init
loop-rest-init g c = at_first _ _ _

pub returns-in_err-say : goal.returns-in_err-say
returns-in_err-say g c = then _ _ _ _ _ _ _ _ _ c.loop-rest.invariant (fed_follows _ _ _ _ _ _ _ _ _ c.feed-fed.ensures)

pub returns-then-fed-eq0 : goal.returns-then-fed-eq0
returns-then-fed-eq0 g c = then _ _ _ _ _ _ _ _ _ c.loop-rest.invariant (fed_follows _ _ _ _ _ _ _ _ _ c.feed-fed.ensures)

pub loop-rest-preserved : goal.loop-rest-preserved
loop-rest-preserved g c = then _ _ _ _ _ _ _ _ _ c.loop-rest.invariant (fed_follows _ _ _ _ _ _ _ _ _ c.feed-fed.ensures)
