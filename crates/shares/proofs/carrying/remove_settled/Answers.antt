-- `shares::carrying::remove_settled` meets its contract. Assumes nothing.
use Rattle.std.proofs.Common.{◌≡◌, arith, sym, Err}
use Rattle.calls.proofs.Laws.{change_slot, slot_sized}
use Rattle.shares.proofs.Doings.{remove_not, remove_done}
use Rattle.shares.proofs.carrying.remove_settled.Goals as goal

pub remember-old-requires : goal.remember-old-requires
remember-old-requires c = let s = slot_sized _ _ (change_slot _ _ (sym c.requires.0)) in (s.long, s.few)

pub settle_tables-requires : goal.settle_tables-requires
settle_tables-requires c =
    let p = c.requires in
    let s = slot_sized _ _ (change_slot _ _ (sym p.0)) in
    (omega (arith, s.few), omega (arith, s.long, c.remove_by.auto.board), s.few, p.1, p.2, p.3)

pub returns-in_err-idle : goal.returns-in_err-idle
returns-in_err-idle c =
    let a = c.args in
    let e : c.from_residual.result ≡ Err c.in_err-idle.field-0.0 = grind arith in
    rw e (remove_not _ _ a.rates.now a.owed.now a.owed_other.now _ _ _ c.remove_by.ensures _ c.in_err-idle.was)

pub returns : goal.returns
returns c =
    let a = c.args in
    let k = c.settle_tables.ensures in
    remove_done _ _ a.rates.now a.owed.now a.owed_other.now _ _ _ c.remove_by.ensures _ c.in_ok-idle.was _ c.remember-old.ensures _ _ _ k.0 k.1 k.2
