-- `pieces::placing::place_power` meets its contract. Assumes nothing.
use Rattle.std.proofs.Common.{◌∙◌, arith}
use Rattle.pieces.proofs.IdleSearch.{spotted_nowhere, spotted_spot, spot_ends}
use Rattle.pieces.specs.Placing as placing
use Rattle.pieces.proofs.placing.place_power.Goals as goal

pub fill-requires : goal.fill-requires
fill-requires c =
    let p = c.requires in
    omega (arith, spotted_spot _ _ _ p.small p.piece _ (rw c.in-Some.is at c.seek.ensures), spot_ends _ _ _ p.small p.piece, c.size_of.ensures)

pub returns-in_default : goal.returns-in_default
returns-in_default c = absurd (spotted_nowhere _ _ _ c.requires.small c.requires.piece c.in_default.ensures)

pub returns-in-Some : goal.returns-in-Some
unfolding placing.put
returns-in-Some c =
    let p = c.requires in
    c.fill.ensures ∙ simp (spotted_spot _ _ _ p.small p.piece _ (rw c.in-Some.is at c.seek.ensures), c.size_of.ensures)
