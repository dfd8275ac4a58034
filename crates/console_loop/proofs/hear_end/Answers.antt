-- `console_loop::hear_end` meets its contract. Assumes nothing.
use Rattle.console_loop.proofs.Hearing.{fed_follows}
use Rattle.console_loop.proofs.hear_end.Goals as goal

pub returns-in_err-say : goal.returns-in_err-say
returns-in_err-say g c = fed_follows _ _ _ _ _ _ _ _ _ c.finish-fed.ensures

pub returns : goal.returns
returns g c = fed_follows _ _ _ _ _ _ _ _ _ c.finish-fed.ensures
