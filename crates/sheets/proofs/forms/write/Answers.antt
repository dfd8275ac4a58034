-- `forms::write` meets its contract. Assumes nothing.
use Rattle.std.proofs.Common.{sym, ◌∙◌, arith}
use Rattle.calls.proofs.Laws.{slot_sized, first_clear}
use Rattle.sheets.proofs.forms.write.Goals as goal

pub put-requires : goal.put-requires
put-requires g c = let sized = slot_sized _ _ (first_clear _ _ (sym c.check_standing.ensures ∙ c.in_ok-check_standing.was)) in omega arith
