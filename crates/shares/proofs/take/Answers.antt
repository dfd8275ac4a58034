-- `shares::take` meets its contract. Assumes nothing.
use Rattle.std.proofs.Common.{◌≡◌, sym, ◌∙◌, arith, Err}
use Rattle.orders.specs.declared.Declined.TheVariants.{Refused}
use Rattle.orders.proofs.Laws.{made_says, taken_says}
use Rattle.shares.specs.States.{held}
use Rattle.shares.specs.Checks.{way_of}
use Rattle.shares.proofs.Readying.{list_long, way_found, way_clear, now_ready}
use Rattle.shares.proofs.take.Goals as goal
use Rattle.shares.proofs.take.Goals.{After-way_of}

found : (c : After-way_of) → c.way_of.result ≡ way_of c.args.own c.args.other (held c.args.lent.now) c.args.list.now c.args.order
found c = way_found _ _ _ _ _ _ _ _ (rw c.look.ensures at c.check_shares-check.ensures) c.both_start-begins.ensures c.way_of.ensures

pub way_of-requires : goal.way_of-requires
way_of-requires c = λ e. list_long _ _ _ _ (sym (rw c.look.ensures at c.check_shares-check.ensures) ∙ e)

pub returns-in_err-way_of-clause-orders : goal.returns-in_err-way_of-clause-orders
returns-in_err-way_of-clause-orders c =
    let w = found (goal.at.returns-in_err-way_of-clause-orders c).After-way_of in
    let e = sym w ∙ c.in_err-way_of.was in
    let r : c.from_residual.result ≡ Err (Refused c.in_err-way_of.field-0.0) = grind arith in
    rw r (simp e, simp e, simp e, simp e)

pub take-requires : goal.take-requires
take-requires c =
    let w = found (goal.at.take-requires c).After-way_of in
    list_long _ _ _ _ (way_clear _ _ (held c.args.lent.now) _ c.args.order (sym w ∙ rw c.in-Later.is at c.in_ok-way_of.was))

pub carry_out-requires : goal.carry_out-requires
carry_out-requires c =
    let w = found (goal.at.carry_out-requires c).After-way_of in
    now_ready _ _ (held c.args.lent.now) c.args.list.now c.args.order (sym w ∙ rw c.in-Now.is at c.in_ok-way_of.was)

pub returns-in-Later-clause-orders : goal.returns-in-Later-clause-orders
returns-in-Later-clause-orders c =
    let w = found (goal.at.returns-in-Later-clause-orders c).After-way_of in
    let e = sym w ∙ rw c.in-Later.is at c.in_ok-way_of.was in
    let t = c.take.ensures in
    (simp (e, c.listed.ensures, t.0), simp (e, c.listed.ensures, t.0) (taken_says _), simp e, simp (e, t.1))

pub returns-in-Now-clause-orders : goal.returns-in-Now-clause-orders
returns-in-Now-clause-orders c =
    let w = found (goal.at.returns-in-Now-clause-orders c).After-way_of in
    let e = sym w ∙ rw c.in-Now.is at c.in_ok-way_of.was in
    let k = c.carry_out.ensures in
    (simp (e, c.made.ensures, k.says), simp (e, c.made.ensures, k.says) (made_says _ _ _), simp e k.does, simp e)
