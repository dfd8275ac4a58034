-- `share_boards::starting::save_leaves` meets its contract. Assumes nothing.
use Rattle.std.proofs.Common.{◌≡◌, Err, sym, ◌∙◌, arith, refl}
use Rattle.sheets.specs.Results.{leaf_form}
use Rattle.share_boards.specs.declared.starting.Unsaved.TheVariants.{Refused}
use Rattle.share_boards.proofs.Starts.{placed_board, placed_rates, save_refused, save_puts, save_kind}
use Rattle.share_boards.proofs.starting.save_leaves.Goals as goal

pub all_zero-requires : goal.all_zero-requires
all_zero-requires c = placed_rates _ _ _ _ (sym c.check_start.ensures ∙ c.in_ok-check_start.was)

pub put_leaves-requires : goal.put_leaves-requires
put_leaves-requires c = placed_board _ _ _ _ (sym c.check_start.ensures ∙ c.in_ok-check_start.was)

pub leaf_bytes-requires : goal.leaf_bytes-requires
leaf_bytes-requires c = (placed_board _ _ _ _ (sym c.check_start.ensures ∙ c.in_ok-check_start.was)).1

pub returns-in_err-check_start : goal.returns-in_err-check_start
returns-in_err-check_start c =
    let r : c.from_residual.result ≡ Err (Refused c.in_err-check_start.field-0.0) = grind arith in
    rw r (save_refused leaf_form _ _ _ c.args.output.now _ (sym c.check_start.ensures ∙ c.in_err-check_start.was))

pub returns : goal.returns
returns c =
    let none = sym c.all_zero.ensures ∙ c.if-not-all_zero.false in
    save_puts leaf_form _ _ _ c.args.output.now (sym c.check_start.ensures ∙ c.in_ok-check_start.was) none _ _ _ c.put_leaves.ensures (rw c.in_ok-put_leaves.was refl)

pub returns-then-not-all_zero : goal.returns-then-not-all_zero
returns-then-not-all_zero c =
    let some = sym c.all_zero.ensures ∙ c.if-not-all_zero.true in
    save_kind leaf_form _ _ _ c.args.output.now (sym c.check_start.ensures ∙ c.in_ok-check_start.was) some _ _ c.leaf_bytes.ensures c.no_sheet.ensures

pub returns-in_err-put_leaves : goal.returns-in_err-put_leaves
returns-in_err-put_leaves c =
    let none = sym c.all_zero.ensures ∙ c.if-not-all_zero.false in
    let r : c.from_residual-in_err-put_leaves.result ≡ Err (Refused c.in_err-put_leaves.field-0.0) = grind arith in
    rw r (save_puts leaf_form _ _ _ c.args.output.now (sym c.check_start.ensures ∙ c.in_ok-check_start.was) none _ _ _ c.put_leaves.ensures (rw c.in_err-put_leaves.was refl))
