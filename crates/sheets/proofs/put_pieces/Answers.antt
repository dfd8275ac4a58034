-- `put_pieces` meets its contract. Assumes nothing.
use Rattle.sheets.specs.Entries.{entry_bytes, entry_page}
use Rattle.sheets.proofs.Putting.{pieces_put}
use Rattle.general.specs.Lists.{blank}
use Rattle.sheets.proofs.put_pieces.Goals as goal

pub returns : goal.returns
unfolding entry_bytes entry_page blank
returns c = pieces_put _ _ _ _ _ _ _ c.list_pieces-n.ensures.0 c.zeros-list.ensures c.list_pieces-n.ensures.1 c.list_pieces-n.ensures.2 _ _ c.put.ensures.says c.put.ensures.output
