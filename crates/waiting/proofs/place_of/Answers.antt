use Rattle.std.proofs.Common.{◌+◌, ◌*◌, refl, arith, rules, tests, get_or}
use lib.Dec.{eqb}
use Rattle.std.proofs.lemmas.Iterator.{YieldsList-from_range}
use Rattle.std.proofs.lemmas.Iterator.Search.{position_from_yields_List}
use Rattle.std.proofs.lemmas.List.FromFn.{length-range_with_len}
use Rattle.waiting.proofs.Listing.{ticket_place}
use Rattle.waiting.proofs.place_of.Goals as goal

pub returns : goal.returns
returns c =
    let a = c.args in
    let found = position_from_yields_List (λ j. eqb (get_or a.list.now (3 + 4 * j) 0) a.ticket) _ _ c.position.result c.position.ensures.ran (YieldsList-from_range 0 a.n a.n refl (omega arith)) (λ x b q k. search (rules, tests)) in
    rw (length-range_with_len 0 a.n, ticket_place a.list.now a.ticket a.n) at found
