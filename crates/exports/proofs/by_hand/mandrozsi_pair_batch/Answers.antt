-- `exports::by_hand::mandrozsi_pair_batch` meets its contract: what the rest of the table leaves stands behind the entries that are carried out. Assumes nothing.
use Rattle.std.proofs.Common.{refl, arith}
use Rattle.exports.proofs.Turns.{turn, ends}
use Rattle.exports.proofs.by_hand.mandrozsi_pair_batch.Goals as goal

pub loop-entry-preserved : goal.loop-entry-preserved
loop-entry-preserved c = turn _ _ _ _ _ _ _ _ _ _ _ _ c.loop-entry.invariant (omega arith) refl c.carry_entry-done.ensures

pub returns : goal.returns
returns c = ends _ _ _ _ _ _ _ c.loop-entry.invariant (omega arith)
