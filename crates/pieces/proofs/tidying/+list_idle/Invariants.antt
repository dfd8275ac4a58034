-- What falls at each call of `pieces::tidying::list_idle` by itself. Assumes nothing.
use Rattle.pieces.proofs.tidying.+list_idle.Given as goal

abbrev pub decreases-list_idle : goal.decreases-list_idle
decreases-list_idle l = l.l
