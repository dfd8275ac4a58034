-- `groups::import_by` meets its contract. Assumes nothing.
use Rattle.std.proofs.Common.{length}
use Rattle.tree.specs.Marks.{levels}
use Rattle.groups.proofs.Checked.{Importable, importable, opened_placeable, made}
use Rattle.groups.proofs.import_by.Goals as goal
use Rattle.groups.proofs.import_by.Goals.{In-Ok}

-- no refusal applies
clear : (c : In-Ok)
    → Importable c.args.capacity c.args.starts.now c.args.names.now c.args.board.now (length c.args.list.now) (length c.args.output.now)
clear c = importable _ _ _ _ _ _ (c.requires c.in-Ok.is)

pub invariant_of-table : goal.invariant_of-table
unfolding levels
invariant_of-table c = let w = clear (goal.at.invariant_of-table c).In-Ok in record { few = w.small; sound = w.table }

pub write_round-requires : goal.write_round-requires
unfolding levels
write_round-requires c = let w = clear (goal.at.write_round-requires c).In-Ok in w.room

pub empty-requires : goal.empty-requires
empty-requires c = (clear (goal.at.empty-requires c).In-Ok).listed

pub admit_all-requires : goal.admit_all-requires
unfolding levels
admit_all-requires c = let w = clear (goal.at.admit_all-requires c).In-Ok in
    rw c.open-opened.ensures.2 (opened_placeable _ _ _ _ _ _ w)

pub returns-in-Ok : goal.returns-in-Ok
unfolding levels
returns-in-Ok c = let p = c.open-opened.ensures in
    made _ _ _ _ _ _ _ c.in-Ok.is c.requires _ _ _ _ _ p.0 p.2 c.admit_all.ensures c.empty.ensures c.write_round.ensures
