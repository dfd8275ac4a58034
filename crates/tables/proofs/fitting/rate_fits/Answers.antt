-- `tables::fitting::rate_fits` meets its contract. Assumes nothing.
use Rattle.std.proofs.Common.{arith, eq-eqb}
use Rattle.std.proofs.lemmas.Bool.Decides.{nat_tests}
use Rattle.tables.proofs.Holding.{held_some}
use Rattle.tables.specs.Looking as looking
use Rattle.tables.proofs.fitting.rate_fits.Goals as goal

pub returns-then-r-eq0 : goal.returns-then-r-eq0
unfolding looking.rate_test
returns-then-r-eq0 c = simp (eq-eqb _ _ c.if-r-eq0.true)

pub nonzero_rem-result : goal.nonzero_rem-result
nonzero_rem-result c = omega (arith, c.held_for-held.ensures, held_some c.args.r (omega arith))

pub returns-then-number_of-held : goal.returns-then-number_of-held
unfolding looking.rate_test
returns-then-number_of-held c = grind (arith, nat_tests)

pub returns-else-number_of-held : goal.returns-else-number_of-held
unfolding looking.rate_test
returns-else-number_of-held c = grind (arith, nat_tests)
