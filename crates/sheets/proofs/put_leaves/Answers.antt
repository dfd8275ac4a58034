-- `put_leaves` meets its contract. Assumes nothing.
use Rattle.sheets.proofs.Putting.{leaves_put}
use Rattle.sheets.proofs.put_leaves.Goals as goal

pub returns : goal.returns
returns c = leaves_put _ _ _ c.requires.0 _ _ c.put.ensures.says c.put.ensures.output
