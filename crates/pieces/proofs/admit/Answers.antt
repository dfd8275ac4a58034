-- `pieces::admit` meets its contract. Assumes nothing.
use Rattle.pieces.proofs.Admitting.{all_placed}
use Rattle.pieces.proofs.admit.Goals as goal

pub returns : goal.returns
returns c = all_placed _ _ _ _ _ c.requires
    c.weigh-idle.ensures c.if-idle-weight.false _ c.place.ensures
