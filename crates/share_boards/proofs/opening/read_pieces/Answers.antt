-- `share_boards::opening::read_pieces` meets its contract. Assumes nothing.
use Rattle.std.proofs.Common.{sym, ◌∙◌}
use Rattle.sheets.specs.Results.{piece_form}
use Rattle.share_boards.proofs.Openings.{reading_refused, read_within, read_takes}
use Rattle.share_boards.proofs.opening.read_pieces.Goals as goal

pub clear_after-requires : goal.clear_after-requires
clear_after-requires c = read_within piece_form _ _ _ _ _ c.args.list.now (sym c.check_head.ensures ∙ c.in-Ok.is) c.read_pieces.ensures

pub returns-in-Err : goal.returns-in-Err
returns-in-Err c =
    let e = reading_refused piece_form _ _ _ _ (sym c.check_head.ensures ∙ c.in-Err.is) in
    (simp (e, c.new.ensures), simp e, simp e, simp e)

pub returns-in-Ok : goal.returns-in-Ok
returns-in-Ok c =
    let k = c.clear_after.ensures in
    read_takes piece_form _ _ _ _ _ c.args.list.now (sym c.check_head.ensures ∙ c.in-Ok.is) c.read_pieces.ensures k.0 k.1 k.2 k.3
