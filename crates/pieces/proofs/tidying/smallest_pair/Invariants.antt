-- What the loop of `pieces::tidying::smallest_pair` keeps. Assumes nothing.
use Rattle.std.proofs.Common.{◌≡◌, ◌-◌}
use Rattle.pieces.specs.Placing.{first}
use Rattle.pieces.specs.Halving.{is_paired}
use Rattle.pieces.proofs.tidying.smallest_pair.Given as goal

abbrev pub invariant-loop-exponent : goal.invariant-loop-exponent
invariant-loop-exponent l = first (is_paired l.starts) l.exponent (12 - l.exponent) ≡ first (is_paired l.starts) 0 12
