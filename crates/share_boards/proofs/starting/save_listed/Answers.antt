-- `share_boards::starting::save_listed` meets its contract. Assumes nothing.
use Rattle.std.proofs.Common.{◌≡◌, Err, sym, ◌∙◌, arith, refl}
use Rattle.sheets.specs.Results.{piece_form}
use Rattle.share_boards.specs.declared.starting.Unsaved.TheVariants.{Refused}
use Rattle.share_boards.proofs.Starts.{placed_board, placed_rates, save_refused, save_puts, save_kind}
use Rattle.share_boards.proofs.starting.save_listed.Goals as goal

pub all_zero-requires : goal.all_zero-requires
all_zero-requires c = placed_rates _ _ _ _ (sym c.check_level.ensures ∙ c.in_ok-check_level.was)

pub put_pieces-requires : goal.put_pieces-requires
put_pieces-requires c = let z = placed_board _ _ _ _ (sym c.check_level.ensures ∙ c.in_ok-check_level.was) in omega arith

pub piece_bytes-requires : goal.piece_bytes-requires
piece_bytes-requires c = placed_board _ _ _ _ (sym c.check_level.ensures ∙ c.in_ok-check_level.was)

pub returns-in_err-check_level : goal.returns-in_err-check_level
returns-in_err-check_level c =
    let r : c.from_residual.result ≡ Err (Refused c.in_err-check_level.field-0.0) = grind arith in
    rw r (save_refused piece_form _ _ _ c.args.output.now _ (sym c.check_level.ensures ∙ c.in_err-check_level.was))

pub returns : goal.returns
returns c =
    let none = sym c.all_zero.ensures ∙ c.if-not-all_zero.false in
    save_puts piece_form _ _ _ c.args.output.now (sym c.check_level.ensures ∙ c.in_ok-check_level.was) none _ _ _ c.put_pieces.ensures (rw c.in_ok-put_pieces.was refl)

pub returns-then-not-all_zero : goal.returns-then-not-all_zero
returns-then-not-all_zero c =
    let some = sym c.all_zero.ensures ∙ c.if-not-all_zero.true in
    save_kind piece_form _ _ _ c.args.output.now (sym c.check_level.ensures ∙ c.in_ok-check_level.was) some _ _ c.piece_bytes.ensures c.no_sheet.ensures

pub returns-in_err-put_pieces : goal.returns-in_err-put_pieces
returns-in_err-put_pieces c =
    let none = sym c.all_zero.ensures ∙ c.if-not-all_zero.false in
    let r : c.from_residual-in_err-put_pieces.result ≡ Err (Refused c.in_err-put_pieces.field-0.0) = grind arith in
    rw r (save_puts piece_form _ _ _ c.args.output.now (sym c.check_level.ensures ∙ c.in_ok-check_level.was) none _ _ _ c.put_pieces.ensures (rw c.in_err-put_pieces.was refl))
