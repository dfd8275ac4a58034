-- `forms::check_standing` meets its contract. Assumes nothing.
use Rattle.std.proofs.Common.{sym, ◌∙◌, arith}
use Rattle.calls.proofs.Laws.{slot_sized}
use Rattle.sheets.proofs.Checked.{good_check_lem, bad_check}
use Rattle.sheets.proofs.forms.check_standing.Goals as goal

pub good-requires : goal.good-requires
good-requires g c = let sized = slot_sized _ _ (sym c.check_slot.ensures ∙ c.in_ok-check_slot.was) in omega arith

pub returns-then-not-good : goal.returns-then-not-good
returns-then-not-good g c =
    let slot = sym c.check_slot.ensures ∙ c.in_ok-check_slot.was in
    let position = sym c.check_position.ensures ∙ c.in_ok-check_position.was in
    sym (rw (slot, position) (bad_check _ _ (sym c.good.ensures ∙ c.if-not-good.true)))

pub returns : goal.returns
returns g c =
    let slot = sym c.check_slot.ensures ∙ c.in_ok-check_slot.was in
    let position = sym c.check_position.ensures ∙ c.in_ok-check_position.was in
    sym (rw (slot, position) (good_check_lem _ _ (sym c.good.ensures ∙ c.if-not-good.false)))
