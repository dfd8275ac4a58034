-- `check_head` meets its contract. Assumes nothing.
use Rattle.std.proofs.Common.{sym, ◌∙◌}
use Rattle.sheets.proofs.Checked.{head_short, head_next}
use Rattle.sheets.proofs.check_head.Goals as goal

pub returns-then-sheet-lt512 : goal.returns-then-sheet-lt512
returns-then-sheet-lt512 c = head_short _ _ c.if-sheet-lt512.true

pub returns : goal.returns
returns c = c.check_open.ensures ∙ rw c.capacity_of.ensures.0 (sym (head_next _ _ c.if-sheet-lt512.false))
