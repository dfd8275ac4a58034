-- `pieces::tidying::find_pair` meets its contract. Assumes nothing.
use Rattle.pieces.specs.Halving.{no_starts}
use Rattle.std.proofs.lemmas.List.{get_or-replicate}
use Rattle.pieces.proofs.IdleListing.{listed_pair}
use Rattle.pieces.proofs.tidying.find_pair.Goals as goal

pub returns : goal.returns
returns c = rw c.smallest_pair.ensures (listed_pair _ _ _ _ _ c.requires.1 (λ i h. get_or-replicate 12 i no_starts no_starts h) c.list_idle.ensures)
