-- `pieces::tidying::move_run` meets its contract. Assumes nothing.
use Rattle.std.proofs.Common.{◌∙◌}
use Rattle.pieces.specs.Tidying as tidying
use Rattle.pieces.proofs.tidying.move_run.Goals as goal

pub returns : goal.returns
unfolding tidying.move
returns c = c.fill.ensures ∙ simp c.copy_run.ensures
