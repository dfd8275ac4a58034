-- `forms::read` meets its contract. Assumes nothing.
use Rattle.std.proofs.Common.{sym, ◌∙◌}
use Rattle.sheets.proofs.Checked.{clear_read}
use Rattle.sheets.proofs.forms.read.Goals as goal

pub capacity_of-requires : goal.capacity_of-requires
capacity_of-requires g c = (clear_read g.F.SheetForm.form _ _ (sym c.load.ensures.0 ∙ c.in-Ok.is)).long

pub position-requires : goal.position-requires
position-requires g c = (clear_read g.F.SheetForm.form _ _ (sym c.load.ensures.0 ∙ c.in-Ok.is)).long
