-- `share_boards::opening::check_head` meets its contract. Assumes nothing.
use Rattle.std.proofs.Common.{sym, ◌∙◌}
use Rattle.sheets.proofs.Laws.{head_long}
use Rattle.share_boards.proofs.opening.check_head.Goals as goal

pub capacity_of-requires : goal.capacity_of-requires
capacity_of-requires c = head_long _ _ (sym c.check_head.ensures ∙ c.in_ok-check_head.was)
