-- What falls at each call of `pieces::placing::seek` by itself. Assumes nothing.
use Rattle.pieces.proofs.placing.+seek.Given as goal

abbrev pub decreases-seek : goal.decreases-seek
decreases-seek l = l.l
