-- `share_boards::looking::check_report` meets its contract. Assumes nothing.
use Rattle.std.proofs.Common.{refl, sym, ◌∙◌}
use Rattle.shares.proofs.Laws.{share_ready, ready_change}
use Rattle.share_boards.specs.Looking.{reporting_check}
use Rattle.share_boards.proofs.Looks.{ready_first, ready_held}
use Rattle.share_boards.proofs.looking.check_report.Goals as goal

pub check_remove-requires : goal.check_remove-requires
check_remove-requires c = rw c.new-start.ensures (ready_change _ _ (ready_first _ _ (share_ready _ _ _ _ (sym c.check_shares.ensures ∙ c.in_ok-check_shares.was))) refl)

pub returns : goal.returns
unfolding reporting_check
returns c =
    let e = sym c.check_shares.ensures ∙ c.in_ok-check_shares.was in
    let n = c.new-start.ensures in
    rw e (c.check_remove.ensures ∙ rw n (ready_held _ _ (share_ready _ _ _ _ e) _))
