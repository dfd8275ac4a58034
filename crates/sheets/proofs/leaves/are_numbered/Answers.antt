-- `are_numbered` meets its contract. Assumes nothing.
use Rattle.std.proofs.Common.{refl, ◌∙◌, arith, rules, tests}
use Rattle.std.proofs.lemmas.Iterator.{YieldsList-from_range}
use Rattle.std.proofs.lemmas.Iterator.Search.{all_from_yields_List}
use Rattle.sheets.specs.Sheet.{numbered}
use Rattle.sheets.proofs.Layouts.{all_every}
use Rattle.sheets.proofs.leaves.are_numbered.Goals as goal

pub returns : goal.returns
unfolding numbered
returns c =
    let a = c.args in
    all_from_yields_List (numbered a.sheet.now a.c) _ _ c.all.result c.all.ensures.ran (YieldsList-from_range 0 a.n a.n refl (omega arith)) (λ x b q h. search (rules, tests)) ∙ all_every (numbered a.sheet.now a.c) a.n
