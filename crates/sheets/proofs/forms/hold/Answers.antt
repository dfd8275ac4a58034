-- `forms::hold` meets its contract. Assumes nothing.
use Rattle.std.proofs.Common.{◌≡◌, false, refl, sym, ◌∙◌}
use Rattle.general.proofs.Laws.{by_bool}
use Rattle.sheets.proofs.Putting.{holds_broken}
use Rattle.sheets.proofs.forms.hold.Goals as goal

pub returns-then-not-may_be_laid : goal.returns-then-not-may_be_laid
returns-then-not-may_be_laid g c =
    let a = c.args in
    let F = g.F.SheetForm in
    let broken : F.form.laid a.c a.sheet.now ≡ false =
    by_bool (F.form.laid a.c a.sheet.now) (λ t. let s = F.shows a.c a.sheet.now t in let f = c.may_be_laid.ensures in let n = c.if-not-may_be_laid.true in cc) (λ f. f) in
    holds_broken F.form a.c a.sheet.now a.board.now _ refl broken
