-- `pieces::lay_out` meets its contract. Assumes nothing.
use Rattle.std.proofs.Common.{refl, ◌∙◌, arith, rules}
use Rattle.names.proofs.Laws.{blank_empty}
use Rattle.pieces.proofs.LayingOut.{holders_few, layable, laid_fresh}
use Rattle.pieces.proofs.lay_out.Goals as goal

pub weights-requires : goal.weights-requires
weights-requires c =
    let e = c.empty-sizes.ensures in
    let p = c.requires in
    (p.0, p.1, rw e (blank_empty 12290 refl))

pub list_names-n-requires : goal.list_names-n-requires
list_names-n-requires c =
    let p = c.requires in
    let k = c.slice_known-1.given in
    (c.weights.ensures.table, search rules, holders_few _ c.args.board.now _ p.1 p.0 (λ i. omega (arith, k i)) c.weights.ensures p.2)

pub place_all-requires : goal.place_all-requires
place_all-requires c =
    let p = c.requires in
    let k = c.slice_known-1.given in
    let l = c.list_names-n.ensures in
    layable _ c.args.board.now _ p.1 p.0 (λ i. omega (arith, k i)) c.weights.ensures p.2 _ _ l.1 c.fill.ensures

pub returns : goal.returns
returns c =
    let p = c.requires in
    let k = c.slice_known-1.given in
    let l = c.list_names-n.ensures in
    c.place_all.ensures
    ∙ laid_fresh _ c.args.board.now _ p.1 p.0 (λ i. omega (arith, k i)) c.weights.ensures p.2 _ _ l.1 c.fill.ensures
