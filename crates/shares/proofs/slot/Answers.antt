-- `shares::slot` meets its contract. Assumes nothing.
use Rattle.std.proofs.Common.{◌≡◌, Ok, sym, ◌∙◌, rules, length}
use Rattle.drives.proofs.Laws.{start_both}
use Rattle.shares.specs.States.{lent}
use Rattle.shares.specs.Checks.{list_check}
use Rattle.shares.proofs.Readying.{share_ready, list_long}
use Rattle.shares.proofs.Doings.{same_lent}
use Rattle.shares.proofs.Turning.{slot_ready, slot_done}
use Rattle.shares.proofs.slot.Goals as goal
use Rattle.shares.proofs.slot.Goals.{In_default}

clear : (c : In_default) → list_check c.args.own c.args.other (lent c.args.board.now c.args.rates.now c.args.owed.now c.args.owed_other.now) (length c.args.list.now) ≡ Ok tt
clear c = rw c.look.ensures at (sym c.check_shares.ensures ∙ c.in_default.is)

pub start-requires : goal.start-requires
start-requires c =
    let e = clear (goal.at.start-requires c).In_default in
    (share_ready _ _ _ _ e, λ t. (start_both _ _ (sym c.both_start-begins.ensures ∙ t)).0, list_long _ _ _ _ e)

pub serve-requires : goal.serve-requires
serve-requires c =
    let e = clear (goal.at.serve-requires c).In_default in
    slot_ready _ _ _ _ e _ _ (same_lent (search rules) (search rules) (search rules) (search rules) ∙ c.start.ensures.does)

pub returns : goal.returns
returns c =
    let e = clear (goal.at.returns c).In_default in
    let k = same_lent (search rules) (search rules) (search rules) (search rules) ∙ c.start.ensures.does in
    let g = c.serve.ensures in
    slot_done _ _ _ _ e _ _ k c.both_start-begins.ensures _ c.start.ensures.list _ _ g.0 g.1
