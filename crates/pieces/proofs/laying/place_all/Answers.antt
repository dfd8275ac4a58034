-- `pieces::laying::place_all` meets its contract. Assumes nothing.
use Rattle.std.proofs.Common.{sym, ap, subst, ◌∙◌, List, ℕ, suc, add-one, arith, length}
use Rattle.names.specs.Table.{number_under}
use Rattle.pieces.specs.Fresh.{all_placed, Placeables}
use Rattle.pieces.specs.Streams.{Stream}
use Rattle.pieces.specs.Laying.{Heaviest}
use Rattle.pieces.proofs.LayingOut.{heaviest_next, ranks_none, weight_turn, weight_next}
use Rattle.pieces.proofs.laying.place_all.Goals as goal

pub loop-w-init : goal.loop-w-init
loop-w-init c =
    let b = c.args in
    let W = number_under b.sizes.now in
    let h : Heaviest W b.names.now (length b.names.now) (suc b.c) c.heaviest-w.result = subst (λ (v : ℕ). Heaviest W b.names.now (length b.names.now) v c.heaviest-w.result) (add-one b.c) c.heaviest-w.ensures in
    let e = heaviest_next W b.names.now b.c c.heaviest-w.result h in
    (subst (λ (ss : List Stream). Placeables b.c b.board.now ss) e c.requires.ready, ap (all_placed b.c b.board.now) (sym e))

pub place_rank-requires : goal.place_rank-requires
place_rank-requires c =
    let L = c.loop-w in
    (c.requires.sizes, weight_turn c.args.c (number_under c.args.sizes.now) c.args.names.now L.board L.w c.loop-w-test.true L.invariant.0)

pub loop-w-preserved : goal.loop-w-preserved
loop-w-preserved c =
    let b = c.args in
    let L = c.loop-w in
    let f = c.place_rank in
    let r = weight_next b.c (number_under b.sizes.now) b.names.now L.board L.w c.heaviest-w-in-loop-w.result c.loop-w-test.true c.heaviest-w-in-loop-w.ensures L.invariant.0 in
    (rw f.ensures r.0, rw f.ensures (r.1 ∙ L.invariant.1))

pub returns : goal.returns
returns c =
    let b = c.args in
    let L = c.loop-w in
    ranks_none b.c (number_under b.sizes.now) b.names.now L.board L.w (omega arith) ∙ L.invariant.1
