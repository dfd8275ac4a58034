-- `shares::check_placed` meets its contract. Assumes nothing.
use Rattle.std.proofs.Common.{◌≡◌, ◌∙◌, arith, Err}
use Rattle.shares.specs.States.{looked}
use Rattle.shares.proofs.Readying.{found_lengths, found_refused, found_away, found_next}
use Rattle.shares.proofs.check_placed.Goals as goal

pub check_fit-requires : goal.check_fit-requires
check_fit-requires c =
    let a = c.args in
    found_lengths a.own a.other (looked a.lent) a.short _ _ _ c.max-c.ensures c.lacks-lacking.ensures c.check_pair.ensures c.in_ok-check_pair.was

pub returns-in_err-check_pair : goal.returns-in_err-check_pair
returns-in_err-check_pair c =
    let a = c.args in
    let e : c.from_residual.result ≡ Err c.in_err-check_pair.field-0.0 = grind arith in
    e ∙ found_refused a.own a.other (looked a.lent) a.short _ _ _ c.max-c.ensures c.lacks-lacking.ensures c.check_pair.ensures _ _ c.in_err-check_pair.was

pub returns-then-there : goal.returns-then-there
returns-then-there c =
    let a = c.args in
    found_next a.own a.other (looked a.lent) a.short _ _ _ c.max-c.ensures c.lacks-lacking.ensures c.check_pair.ensures _ _ c.in_ok-check_pair.was c.if-there.true c.check_fit.ensures

pub returns-else-there : goal.returns-else-there
returns-else-there c =
    let a = c.args in
    found_away a.own a.other (looked a.lent) a.short _ _ _ c.max-c.ensures c.lacks-lacking.ensures c.check_pair.ensures _ c.in_ok-check_pair.was c.if-there.false
