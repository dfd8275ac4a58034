-- `share_boards::looking::write_round` meets its contract. Assumes nothing.
use Rattle.std.proofs.Common.{sym, ◌∙◌}
use Rattle.share_boards.proofs.Looks.{rounding_done}
use Rattle.share_boards.proofs.looking.write_round.Goals as goal

pub write_round-requires : goal.write_round-requires
write_round-requires c = rounding_done _ _ _ _ (sym c.check_round.ensures ∙ c.in_ok-check_round.was)
