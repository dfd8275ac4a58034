-- What the loop of `exports::by_hand::mandrozsi_pair_batch` keeps, and what falls at each turn. Assumes nothing.
use Rattle.batch.specs.Entries.{batch_of}
use Rattle.exports.proofs.Turns.{Part}
use Rattle.exports.proofs.by_hand.mandrozsi_pair_batch.Given as goal

abbrev pub invariant-loop-entry : goal.invariant-loop-entry
invariant-loop-entry l = Part (batch_of l.fn.own l.other l.initial.board l.initial.list l.initial.table) l.here l.other l.board l.list l.table l.entry-index
