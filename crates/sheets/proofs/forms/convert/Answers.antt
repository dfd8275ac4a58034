-- `forms::convert` meets its contract. Assumes nothing.
use Rattle.std.proofs.Common.{◌≡◌, Err, sym, ◌∙◌, arith}
use Rattle.sheets.proofs.Converting.{read_sized, converts_not, converts_away, converts_all}
use Rattle.general.specs.Lists.{blank}
use Rattle.sheets.proofs.forms.convert.Goals as goal

pub returns-in_err-load : goal.returns-in_err-load
unfolding blank
returns-in_err-load g c =
    let e : c.from_residual.result ≡ Err c.in_err-load.field-0.0 = grind arith in
    rw e (converts_not g.F.SheetForm.form _ _ _ c.zeros-scratch.ensures c.load.ensures.0 g.G.SheetForm.form g.G.SheetForm.at _ _ c.in_err-load.was)

pub position-p-requires : goal.position-p-requires
unfolding blank
position-p-requires g c = (read_sized g.F.SheetForm.form _ _ _ c.zeros-scratch.ensures c.load.ensures.0 c.in_ok-load.was).0.long

pub returns-in_err-check_position : goal.returns-in_err-check_position
unfolding blank
returns-in_err-check_position g c =
    let e : c.from_residual-in_err-check_position.result ≡ Err c.in_err-check_position.field-0.0 = grind arith in
    let at = rw c.position-p.ensures.0 at c.check_position.ensures in
    rw e (converts_away g.F.SheetForm.form _ _ _ c.zeros-scratch.ensures c.load.ensures.0 c.in_ok-load.was g.G.SheetForm.form g.G.SheetForm.at _ _ (sym at ∙ c.in_err-check_position.was))

pub capacity_of-requires : goal.capacity_of-requires
unfolding blank
capacity_of-requires g c = (read_sized g.F.SheetForm.form _ _ _ c.zeros-scratch.ensures c.load.ensures.0 c.in_ok-load.was).0.long

pub put-requires : goal.put-requires
unfolding blank
put-requires g c =
    let r = read_sized g.F.SheetForm.form _ _ _ c.zeros-scratch.ensures c.load.ensures.0 c.in_ok-load.was in
    let sized = r.1 in
    omega (arith, sized.few, sized.long)

pub returns : goal.returns
unfolding blank
returns g c =
    let at = rw c.position-p.ensures.0 at c.check_position.ensures in
    converts_all g.F.SheetForm.form _ _ _ c.zeros-scratch.ensures c.load.ensures.0 c.in_ok-load.was g.G.SheetForm.form g.G.SheetForm.at _ _ _ _ _ _
    c.capacity_of.ensures.0 c.position-p.ensures.0 c.load.ensures.1 (sym at ∙ c.in_ok-check_position.was) c.put.ensures
