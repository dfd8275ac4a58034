-- `tables::fitting::fits` meets its contract. Assumes nothing.
use Rattle.std.proofs.Common.{refl, arith}
use Rattle.names.proofs.Laws.{blank_empty}
use Rattle.tables.proofs.Entries.{fits_two}
use Rattle.tables.proofs.fitting.fits.Goals as goal

pub weights-requires : goal.weights-requires
weights-requires c = (omega arith, omega arith, rw c.empty-sizes.ensures (blank_empty 12290 refl))

pub returns-then-owed_fit : goal.returns-then-owed_fit
returns-then-owed_fit c = let f = fits_two c.args.c c.args.board.now c.args.rates.now c.args.owed.now c.args.owed_other.now in grind arith

pub returns-else-owed_fit : goal.returns-else-owed_fit
returns-else-owed_fit c = let f = fits_two c.args.c c.args.board.now c.args.rates.now c.args.owed.now c.args.owed_other.now in grind arith
