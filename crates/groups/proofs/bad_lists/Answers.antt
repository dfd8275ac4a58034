-- `groups::bad_lists` meets its contract. Assumes nothing.
use Rattle.std.proofs.Common.{refl, ◌∙◌, arith, rules, tests}
use Rattle.std.proofs.lemmas.Iterator.{YieldsList-from_range}
use Rattle.std.proofs.lemmas.Iterator.Search.{any_from_yields_List}
use Rattle.groups.specs.Table.{bad_list}
use Rattle.groups.proofs.Faults.{any_range}
use Rattle.groups.proofs.bad_lists.Goals as goal

pub returns : goal.returns
returns c =
    let a = c.args in
    any_from_yields_List (bad_list a.k a.starts.now) _ _ c.any.result c.any.ensures.ran (YieldsList-from_range 0 a.k a.k refl (omega arith)) (λ x b q h. search (rules, tests)) ∙ any_range (bad_list a.k a.starts.now) a.k 0
