-- `groups::find` meets its contract. Assumes nothing.
use Rattle.std.proofs.Common.{◌≡◌, ◌-◌, arith, rules, tests, ltb, length, take, drop, length-take}
use Rattle.std.proofs.lemmas.List.{length-drop}
use Rattle.std.proofs.lemmas.Iterator.{YieldsList-from_slice}
use Rattle.std.proofs.lemmas.Iterator.Search.{position_from_yields_List}
use Rattle.groups.proofs.RoundSteps.{list_place}
use Rattle.groups.proofs.find.Goals as goal

pub returns : goal.returns
returns c =
    let a = c.args in
    let found = position_from_yields_List (λ y. ltb a.v y) _ _ c.position.result c.position.ensures.ran (YieldsList-from_slice (take (length a.starts.now - 1) (drop 1 a.starts.now)) cc) (λ x b q k. search (rules, tests)) in
    let place = list_place a.starts.now a.k a.v c.requires in
    let long : length (take (length a.starts.now - 1) (drop 1 a.starts.now)) ≡ a.k = omega (arith, length-take (length a.starts.now - 1) (drop 1 a.starts.now), length-drop 1 a.starts.now, c.requires) in
    rw (long, place) at found
