-- `calls::Drive::open` meets its contract. Assumes nothing.
use Rattle.std.proofs.Common.{sym, ◌∙◌, arith}
use Rattle.calls.proofs.Checking.{open_clear}
use Rattle.calls.proofs.Writing.{idle_opened}
use Rattle.calls.proofs.Drive.open.Goals as goal

pub fill-requires : goal.fill-requires
fill-requires c =
    let s = open_clear _ _ (sym c.check_open.ensures ∙ c.in-Ok.is) in
    omega (arith, s.long, s.few)

pub returns-in-Ok : goal.returns-in-Ok
returns-in-Ok c =
    let e = sym c.check_open.ensures ∙ c.in-Ok.is in
    (simp (e, c.new-in-Ok.ensures), simp e, c.fill.ensures ∙ idle_opened _ _ (open_clear _ _ e).long ∙ sym (simp e))
