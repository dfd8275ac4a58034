-- `calls::Drive::place` meets its contract. Assumes nothing.
use Rattle.std.proofs.Common.{◌≡◌, Err, sym, ◌∙◌, arith}
use Rattle.calls.specs.declared.Unchanged.TheVariants.{Refused}
use Rattle.calls.proofs.Checking.{admit_clear}
use Rattle.calls.proofs.Admitting.{placed_few, add_early, add_placed, add_room}
use Rattle.calls.proofs.Drive.place.Goals as goal

pub admit-requires : goal.admit-requires
admit-requires c = admit_clear _ _ _ _ (sym c.check_admit.ensures ∙ c.in_ok-check_admit.was)

pub overflow_cast-result : goal.overflow_cast-result
overflow_cast-result c = omega (arith, (admit_clear _ _ _ _ (sym c.check_admit.ensures ∙ c.in_ok-check_admit.was)).small, placed_few _ _ _ _ _ (sym c.in-Ok.is ∙ c.admit.ensures.0))

pub returns-in_err-check_admit : goal.returns-in_err-check_admit
returns-in_err-check_admit c =
    let e : c.from_residual.result ≡ Err (Refused c.in_err-check_admit.field-0.0) = grind arith in
    rw e (add_early _ _ _ _ _ (sym c.check_admit.ensures ∙ c.in_err-check_admit.was))

pub returns-in-Ok : goal.returns-in-Ok
returns-in-Ok c = add_placed _ _ _ _ (sym c.check_admit.ensures ∙ c.in_ok-check_admit.was) _ _ c.admit.ensures.1 (sym c.in-Ok.is ∙ c.admit.ensures.0)

pub returns-in-Err : goal.returns-in-Err
returns-in-Err c = add_room _ _ _ _ (sym c.check_admit.ensures ∙ c.in_ok-check_admit.was) _ _ c.admit.ensures.1 (sym c.in-Err.is ∙ c.admit.ensures.0)
