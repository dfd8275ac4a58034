-- `share_boards::opening::read` meets its contract. Assumes nothing.
use Rattle.std.proofs.Common.{sym, ◌∙◌}
use Rattle.sheets.specs.Results.{leaf_form}
use Rattle.share_boards.proofs.Openings.{reading_refused, read_within, read_takes}
use Rattle.share_boards.proofs.opening.read.Goals as goal

pub clear_after-requires : goal.clear_after-requires
clear_after-requires c = read_within leaf_form _ _ _ _ _ c.args.list.now (sym c.check_head.ensures ∙ c.in-Ok.is) c.read.ensures

pub returns-in-Err : goal.returns-in-Err
returns-in-Err c =
    let e = reading_refused leaf_form _ _ _ _ (sym c.check_head.ensures ∙ c.in-Err.is) in
    (simp (e, c.new.ensures), simp e, simp e, simp e)

pub returns-in-Ok : goal.returns-in-Ok
returns-in-Ok c =
    let k = c.clear_after.ensures in
    read_takes leaf_form _ _ _ _ _ c.args.list.now (sym c.check_head.ensures ∙ c.in-Ok.is) c.read.ensures k.0 k.1 k.2 k.3
