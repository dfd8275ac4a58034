-- `pieces::good` meets its contract. Assumes nothing.
use Rattle.std.proofs.Common.{refl, arith}
use Rattle.names.proofs.Laws.{blank_empty}
use Rattle.pieces.proofs.good.Goals as goal

pub weights-requires : goal.weights-requires
weights-requires c =
    let e = c.empty-sizes.ensures in
    (omega arith, omega arith, rw e (blank_empty 12290 refl))
