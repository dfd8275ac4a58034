-- `groups::bad_name` meets its contract. Assumes nothing.
use Rattle.std.proofs.Common.{◌∙◌, eqb, arith, get_or}
use Rattle.groups.proofs.AnyPart.{any_part}
use Rattle.groups.proofs.Faults.{name_before}
use Rattle.groups.proofs.bad_name.Goals as goal

pub returns-else-x-eq0 : goal.returns-else-x-eq0
returns-else-x-eq0 c =
    let a = c.args in
    name_before a.names.now a.i _ c.if-x-eq0.false (c.contains.ensures.value ∙ any_part (λ y. eqb y (get_or a.names.now a.i 0)) a.names.now 0 a.i (omega (arith, c.requires.0)))
