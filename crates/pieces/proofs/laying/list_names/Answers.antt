-- `pieces::laying::list_names` meets its contract. Assumes nothing.
use Rattle.std.proofs.Common.{arith, ◌<◌}
use Rattle.pieces.proofs.LayingOut.{listing_none, listing_place, listing_next, listing_all}
use Rattle.pieces.proofs.laying.list_names.Goals as goal

pub loop-x-init : goal.loop-x-init
loop-x-init c = listing_none _ _

pub list_name-n-requires : goal.list_name-n-requires
list_name-n-requires c =
    let p = c.requires in
    let L = c.loop-x in
    let t : L.x < 65536 = omega arith in
    let s = L.invariant in
    let e = c.number_of.ensures in
    (t, omega (arith, s.long, p.1), λ h. omega (arith, listing_place _ _ _ _ s t p.2 (rw e at h), p.1))

pub loop-x-preserved : goal.loop-x-preserved
loop-x-preserved c =
    let p = c.requires in
    let L = c.loop-x in
    let t : L.x < 65536 = omega arith in
    let f = c.list_name-n in
    let e = c.number_of.ensures in
    rw (f.ensures.0, f.ensures.1, e) (listing_next _ L.names L.n L.x L.invariant t (omega (arith, p.1)) p.2)

pub returns : goal.returns
returns c =
    let p = c.requires in
    let L = c.loop-x in
    (omega (arith, L.invariant.long, p.1), listing_all _ _ _ _ L.invariant (omega arith))
