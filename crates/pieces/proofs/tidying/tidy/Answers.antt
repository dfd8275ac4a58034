-- `pieces::tidying::tidy` meets its contract. Assumes nothing.
use Rattle.std.proofs.Common.{refl, sym, ap, ◌∙◌, List, ℕ, arith}
use Rattle.pieces.proofs.Joining.{join_step}
use Rattle.pieces.proofs.Tidied.{tidy_next, tidy_end}
use Rattle.pieces.specs.Tidying as tidying
use Rattle.pieces.proofs.tidying.tidy.Goals as goal

pub loop-step-init : goal.loop-step-init
unfolding tidying.tidy
loop-step-init c = refl

pub returns-in-None : goal.returns-in-None
returns-in-None c = c.loop-step.invariant ∙ sym (tidy_end _ _ _ (omega arith) (rw (c.in-None.is, c.loop-step.invariant) at c.find_pair.ensures))

pub loop-step-preserved : goal.loop-step-preserved
loop-step-preserved c = c.join_pair.ensures ∙ join_step _ _ _ _ _ (rw c.in-Some.is at c.find_pair.ensures) ∙ ap (λ (L : List ℕ). tidying.step c.args.c L) c.loop-step.invariant ∙ sym (tidy_next _ _ _)
