-- `pieces::listing::list_pieces` meets its contract. Assumes nothing.
use Rattle.std.proofs.Common.{refl, arith, pow_pos}
use Rattle.pieces.proofs.Blocks.{whole_end}
use Rattle.pieces.proofs.PiecesByStart.{left_all, left_more}
use Rattle.pieces.proofs.listing.list_pieces.Goals as goal

pub loop-a-init : goal.loop-a-init
loop-a-init c = (omega arith, omega arith, refl, left_all _ _ _ c.requires.1)

pub loop-a-preserved : goal.loop-a-preserved
loop-a-preserved c = let ends = whole_end _ _ _ _ _ c.exponent_at-l.ensures.0.run in (omega arith, omega (arith, c.list_run-n.ensures.1, pow_pos c.exponent_at-l.result), omega (arith, c.list_run-n.auto.list), left_more _ _ _ _ _ _ _ _ _ _ _ c.loop-a.invariant.3 c.loop-a-test.true c.exponent_at-l.ensures.0 c.size_of-a.ensures c.list_run-n.ensures.0 c.list_run-n.ensures.2)
