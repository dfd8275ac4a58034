-- What falls where `lines::writing::digit_count` calls itself. Assumes nothing.
use Rattle.lines.proofs.writing.+digit_count.Given as goal

abbrev pub decreases-digit_count : goal.decreases-digit_count
decreases-digit_count l = l.n
