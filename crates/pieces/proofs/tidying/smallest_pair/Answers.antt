-- `pieces::tidying::smallest_pair` meets its contract. Assumes nothing.
use Rattle.std.proofs.Common.{sym, ◌∙◌, arith}
use Rattle.pieces.specs.Halving.{is_paired}
use Rattle.pieces.proofs.LoopSteps.{first_next}
use Rattle.pieces.proofs.IdleListing.{few_starts, pair_here, pair_none}
use Rattle.pieces.proofs.tidying.smallest_pair.Goals as goal

pub returns : goal.returns
returns c = pair_none _ _ (omega arith) c.loop-exponent.invariant

pub returns-in-Some : goal.returns-in-Some
returns-in-Some c = pair_here _ _ (omega arith) c.loop-exponent.invariant _ (sym c.pair_of.ensures ∙ c.in-Some.is)

pub loop-exponent-preserved : goal.loop-exponent-preserved
loop-exponent-preserved c =
    let e = c.loop-exponent.exponent in
    sym (first_next (is_paired c.args.starts.now) e 12 (omega arith) (few_starts c.args.starts.now e _ _ (sym c.pair_of.ensures ∙ c.in_default.is))) ∙ c.loop-exponent.invariant
