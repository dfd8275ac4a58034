-- What the loop of `groups::GroupTable::admit_all` keeps. Assumes nothing.
use Rattle.std.proofs.Common.{◌≡◌, ◌-◌, ◌≤◌, length}
use Rattle.pieces.specs.Fresh.{all_placed, Placeables}
use Rattle.groups.specs.Table.{offset, streams_from, table_streams}
use Rattle.groups.proofs.GroupTable.admit_all.Given as goal

abbrev pub invariant-loop-i : goal.invariant-loop-i
invariant-loop-i l = (l.i ≤ l.self.k) × (l.from ≡ offset l.self.k l.self.starts.now l.i) × (length l.board ≡ length l.initial.board) × Placeables l.c l.board (streams_from l.self.k l.self.starts.now l.self.names.now l.i (l.self.k - l.i))
    × (all_placed l.c l.board (streams_from l.self.k l.self.starts.now l.self.names.now l.i (l.self.k - l.i)) ≡ all_placed l.c l.initial.board (table_streams l.self.k l.self.starts.now l.self.names.now))
