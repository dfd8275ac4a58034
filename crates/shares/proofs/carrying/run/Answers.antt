-- `shares::carrying::run` meets its contract. Assumes nothing.
use Rattle.std.proofs.Common.{◌∙◌}
use Rattle.shares.proofs.Running.{ran_all}
use Rattle.shares.proofs.carrying.run.Goals as goal

pub returns-clause-does : goal.returns-clause-does
returns-clause-does c =
    let k = c.counts-n.ensures in
    let p = c.run_places.ensures in
    (ran_all _ _ _ _ _ _ _ k.0 k.1 p.does p.list).0

pub returns-clause-list : goal.returns-clause-list
returns-clause-list c =
    let k = c.counts-n.ensures in
    let p = c.run_places.ensures in
    c.settle.ensures ∙ (ran_all _ _ _ _ _ _ _ k.0 k.1 p.does p.list).1
