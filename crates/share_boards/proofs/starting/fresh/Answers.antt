-- `share_boards::starting::fresh` meets its contract. Assumes nothing.
use Rattle.std.proofs.Common.{◌≡◌, ◌∙◌, Ok, rules, arith}
use Rattle.shares.specs.States.{lent}
use Rattle.share_boards.specs.Starting.{start_check}
use Rattle.share_boards.proofs.Looks.{ready_sized, ready_shared}
use Rattle.share_boards.proofs.Starts.{start_ready, fresh_done}
use Rattle.share_boards.proofs.starting.fresh.Goals as goal
use Rattle.share_boards.proofs.starting.fresh.Goals.{Then-is_ok}

clear : (c : Then-is_ok) → start_check c.args.own c.args.other (lent c.args.board.now c.args.rates.now c.args.owed.now c.args.owed_other.now) ≡ Ok tt
clear c = grind arith

pub remember-old-requires : goal.remember-old-requires
remember-old-requires c =
    let r = start_ready _ _ _ (clear (goal.at.remember-old-requires c).Then-is_ok) in
    let z = ready_sized _ _ r in
    (z.long, z.few)

pub lay_out-requires : goal.lay_out-requires
lay_out-requires c =
    let r = start_ready _ _ _ (clear (goal.at.lay_out-requires c).Then-is_ok) in
    let z = ready_sized _ _ r in
    (z.long, z.few, (ready_shared _ _ r).sound)

pub settle_tables-requires : goal.settle_tables-requires
settle_tables-requires c =
    let r = start_ready _ _ _ (clear (goal.at.settle_tables-requires c).Then-is_ok) in
    let z = ready_sized _ _ r in
    let few = z.few in
    let long = z.long in
    let rates = r.rates in
    let owed = r.owed in
    let other = r.other in
    search rules

pub returns-then-is_ok : goal.returns-then-is_ok
returns-then-is_ok c =
    let e = clear (goal.at.returns-then-is_ok c).Then-is_ok in
    let k = c.settle_tables.ensures in
    let x : c.check_start-answer.result ≡ Ok tt = c.check_start-answer.ensures ∙ e in
    rw x (fresh_done _ _ _ _ _ _ e c.remember-old.result c.remember-old.ensures c.lay_out.ensures k.0 k.1 k.2)
