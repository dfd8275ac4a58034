-- `shares::carrying::carry_out` meets its contract. Assumes nothing.
use Rattle.std.proofs.Common.{arith, sym, ◌∙◌, refl}
use Rattle.shares.specs.States.{held}
use Rattle.shares.proofs.Readying.{ready_change}
use Rattle.shares.proofs.Doings.{same_lent, remove_said, remove_state, over_said, over_state, plain_said, plain_state}
use Rattle.shares.proofs.carrying.carry_out.Goals as goal

pub remove_settled-requires : goal.remove_settled-requires
remove_settled-requires c = let p = c.requires in (ready_change _ _ p.0 p.1, p.0.rates, p.0.owed, p.0.other)

pub admit_over-requires : goal.admit_over-requires
admit_over-requires c = let p = c.requires in (ready_change _ _ p.0 p.1, p.0.rates)

pub carry_out-requires : goal.carry_out-requires
carry_out-requires c = let p = c.requires in ready_change _ _ p.0 p.1

pub returns-in-2-clause-says : goal.returns-in-2-clause-says
returns-in-2-clause-says c = c.remove_settled.ensures.0 ∙ sym (remove_said _ (held c.args.lent.now) _ c.in-2.is)

pub returns-in-2-clause-does : goal.returns-in-2-clause-does
returns-in-2-clause-does c =
    let k = c.remove_settled.ensures in
    same_lent k.1 k.2 k.3 k.4 ∙ sym (remove_state _ (held c.args.lent.now) _ c.in-2.is)

pub returns-in-3-clause-says : goal.returns-in-3-clause-says
returns-in-3-clause-says c = c.admit_over.ensures.0 ∙ sym (over_said _ (held c.args.lent.now) _ c.in-3.is)

pub returns-in-3-clause-does : goal.returns-in-3-clause-does
returns-in-3-clause-does c =
    let k = c.admit_over.ensures in
    same_lent k.1 k.2 refl refl ∙ sym (over_state _ (held c.args.lent.now) _ c.in-3.is)

pub returns-in_default-clause-says : goal.returns-in_default-clause-says
returns-in_default-clause-says c = c.carry_out.ensures.0 ∙ sym (plain_said _ (held c.args.lent.now) _ (λ e. omega arith) (λ e. omega arith))

pub returns-in_default-clause-does : goal.returns-in_default-clause-does
returns-in_default-clause-does c = same_lent c.carry_out.ensures.1 refl refl refl ∙ sym (plain_state _ (held c.args.lent.now) _ (λ e. omega arith) (λ e. omega arith))
