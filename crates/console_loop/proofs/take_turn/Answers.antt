-- `console_loop::take_turn` meets its contract: where the read failed nothing was heard. Assumes nothing.
use Rattle.console_loop.proofs.Hearing.{at_first}
use Rattle.console_loop.proofs.take_turn.Goals as goal

pub returns-in-Err : goal.returns-in-Err
returns-in-Err g c = at_first _ _ _
