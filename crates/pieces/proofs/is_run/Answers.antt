-- `pieces::is_run` meets its contract. Assumes nothing.
use Rattle.std.proofs.Common.{sym, ne_eqb, arith}
use Rattle.pieces.proofs.Blocks.{beyond}
use Rattle.pieces.proofs.Entries.{whole_counted, whole_last}
use Rattle.pieces.proofs.is_run.Goals as goal

pub returns-then-c-a : goal.returns-then-c-a
returns-then-c-a c = sym (beyond _ _ _ _ _ (omega (arith, c.if-c-a.true, c.size_of-size.ensures)))

pub returns-else-board-a : goal.returns-else-board-a
returns-else-board-a c = rw (ne_eqb _ _ c.if-board-a.false) (sym (whole_last _ _ _ _ _ _ c.size_of-size.ensures c.if-board-a.false))

pub returns-then-board-a : goal.returns-then-board-a
returns-then-board-a c = whole_counted _ _ _ _ _ _ _ c.size_of-size.ensures (omega (arith, c.if-c-a.false)) c.count.ensures
