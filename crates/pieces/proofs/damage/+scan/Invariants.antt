-- What falls at each call of `pieces::damage::scan` by itself. Assumes nothing.
use Rattle.pieces.proofs.damage.+scan.Given as goal

abbrev pub decreases-scan : goal.decreases-scan
decreases-scan l = l.l
