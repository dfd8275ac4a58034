-- `shares::carrying::run_places` meets its contract. Assumes nothing.
use Rattle.std.proofs.Common.{arith, sym, ◌∙◌, rules}
use Rattle.waiting.proofs.Laws.{state_none, list_none}
use Rattle.shares.specs.States.{held}
use Rattle.shares.specs.Results.{doing, saying}
use Rattle.shares.proofs.Running.{ran_next}
use Rattle.shares.proofs.carrying.run_places.Goals as goal

pub loop-i-preserved : goal.loop-i-preserved
loop-i-preserved c =
    let w = c.loop-i in
    let k = c.run_place.ensures in
    let n = ran_next c.args.drive (held w.lent) w.list w.i c.args.end c.loop-i-test.true w.invariant.ready _ _ k.does k.list in
    record { same = search rules; ready = n.0; state = n.1 ∙ w.invariant.state; list = n.2 ∙ w.invariant.list }

pub returns-clause-does : goal.returns-clause-does
returns-clause-does c =
    let w = c.loop-i in
    sym (state_none (doing c.args.drive) (saying c.args.drive) (held w.lent) w.list w.i c.args.end (omega arith)) ∙ w.invariant.state

pub returns-clause-list : goal.returns-clause-list
returns-clause-list c =
    let w = c.loop-i in
    sym (list_none (doing c.args.drive) (saying c.args.drive) (held w.lent) w.list w.i c.args.end (omega arith)) ∙ w.invariant.list
