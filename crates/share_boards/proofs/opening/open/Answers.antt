-- `share_boards::opening::open` meets its contract. Assumes nothing.
use Rattle.std.proofs.Common.{sym, ◌∙◌}
use Rattle.share_boards.proofs.Openings.{opening_ready, open_done}
use Rattle.share_boards.proofs.opening.open.Goals as goal

pub clear_tables-requires : goal.clear_tables-requires
clear_tables-requires c = opening_ready _ _ _ (sym c.check_open.ensures ∙ c.in-Ok.is)

pub returns-in-Ok : goal.returns-in-Ok
returns-in-Ok c =
    let e = sym c.check_open.ensures ∙ c.in-Ok.is in
    let k = c.clear_tables.ensures in
    open_done _ _ c.args.list.now e c.«open».ensures k.0 k.1 k.2
