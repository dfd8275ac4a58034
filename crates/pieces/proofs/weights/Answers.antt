-- `pieces::weights` meets its contract. Assumes nothing.
use Rattle.pieces.proofs.DamageTest.{empty_clear, scanned_weighed}
use Rattle.pieces.proofs.weights.Goals as goal

pub returns : goal.returns
returns c = scanned_weighed _ _ c.requires.1 _ _ _ (empty_clear _ c.requires.2) c.scan.ensures
