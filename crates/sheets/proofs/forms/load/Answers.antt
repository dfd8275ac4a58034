-- `forms::load` meets its contract. Assumes nothing.
use Rattle.std.proofs.Common.{◌≡◌, Err, sym, ◌∙◌, arith}
use Rattle.calls.proofs.Laws.{open_clear}
use Rattle.sheets.proofs.Checked.{head_long, head_open, read_unfit, read_rest, read_kept, read_set}
use Rattle.sheets.proofs.forms.load.Goals as goal

pub returns-in_err-check_head : goal.returns-in_err-check_head
returns-in_err-check_head g c =
    let F = g.F.SheetForm.form in
    let e : c.from_residual.result ≡ Err c.in_err-check_head.field-0.0 = grind arith in
    rw e (read_kept F _ _ _ (read_unfit F _ _ _ c.check_head.ensures _ c.in_err-check_head.was))

pub capacity_of-requires : goal.capacity_of-requires
capacity_of-requires g c = head_long _ _ (sym c.check_head.ensures ∙ c.in_ok-check_head.was)

pub hold-requires : goal.hold-requires
hold-requires g c =
    let head = sym c.check_head.ensures ∙ c.in_ok-check_head.was in
    let long = head_long _ _ head in
    let sized = open_clear _ _ (head_open _ _ head) in
    let is = c.capacity_of.ensures.0 in
    omega arith

pub returns : goal.returns
returns g c =
    let F = g.F.SheetForm.form in
    let is = c.capacity_of.ensures.0 in
    read_set F _ _ _ _ _ is (read_rest F _ _ _ c.check_head.ensures _ _ c.in_ok-check_head.was is c.hold.ensures.0) c.hold.ensures.1
