-- `pieces::weigh` meets its contract. Assumes nothing.
use Rattle.std.proofs.Common.{◌∙◌}
use Rattle.pieces.proofs.LoopSteps.{count_weight}
use Rattle.pieces.proofs.weigh.Goals as goal

pub returns : goal.returns
returns c = c.count.ensures ∙ count_weight _ _ _
