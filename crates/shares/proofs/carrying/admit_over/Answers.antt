-- `shares::carrying::admit_over` meets its contract. Assumes nothing.
use Rattle.std.proofs.Common.{◌≡◌, arith, sym, Err}
use Rattle.calls.proofs.Laws.{change_slot, slot_sized}
use Rattle.shares.proofs.Doings.{over_not, over_held, over_done}
use Rattle.shares.proofs.carrying.admit_over.Goals as goal

pub enter_rate-requires : goal.enter_rate-requires
enter_rate-requires c =
    let a = c.args in
    let s = slot_sized _ _ (change_slot _ _ (sym c.requires.0)) in
    (omega (arith, s.long, c.add_by.auto.board), c.requires.1, s.few, over_held _ _ a.rates.now _ a.weight _ c.asked_for.ensures _ _ c.add_by.ensures _ c.in_ok-idle.was)

pub returns-in_err-idle : goal.returns-in_err-idle
returns-in_err-idle c =
    let a = c.args in
    let e : c.from_residual.result ≡ Err c.in_err-idle.field-0.0 = grind arith in
    rw e (over_not _ _ a.rates.now _ a.weight _ c.asked_for.ensures _ _ c.add_by.ensures _ c.in_err-idle.was)

pub returns : goal.returns
returns c = let a = c.args in over_done _ _ a.rates.now _ a.weight _ c.asked_for.ensures _ _ c.add_by.ensures _ c.in_ok-idle.was _ c.enter_rate.ensures
