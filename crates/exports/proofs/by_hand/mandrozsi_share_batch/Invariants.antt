-- What the loop of `exports::by_hand::mandrozsi_share_batch` keeps, and what falls at each turn. Assumes nothing.
use Rattle.shares.specs.States.{lent}
use Rattle.share_batch.specs.Entries.{batch_of}
use Rattle.exports.proofs.ShareTurns.{Part}
use Rattle.exports.proofs.by_hand.mandrozsi_share_batch.Given as goal

abbrev pub invariant-loop-entry : goal.invariant-loop-entry
invariant-loop-entry l = Part (batch_of l.fn.own l.other (lent l.initial.board l.initial.rates l.initial.owed l.initial.owed_other) l.initial.list l.initial.table) l.here l.other (lent l.board l.rates l.owed l.owed_other) l.list l.table l.entry-index
