-- `shares::serve` meets its contract. Assumes nothing.
use Rattle.shares.proofs.Turning.{turn_ready}
use Rattle.shares.proofs.serve.Goals as goal

pub turn_at-name-requires : goal.turn_at-name-requires
turn_at-name-requires c = turn_ready _ _ c.requires _ c.slot-served.ensures.0 _ c.in-Ok.is
