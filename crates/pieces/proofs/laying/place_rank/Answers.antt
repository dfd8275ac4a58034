-- `pieces::laying::place_rank` meets its contract. Assumes nothing.
use Rattle.std.proofs.Common.{sym, ◌∙◌, arith}
use Rattle.names.specs.Table.{number_under}
use Rattle.pieces.proofs.LayingOut.{left_none, turn_placeable, turn_rest, turn_laid}
use Rattle.pieces.proofs.laying.place_rank.Goals as goal

pub place_turn-requires : goal.place_turn-requires
place_turn-requires c =
    let a = c.args in
    let L = c.loop-x in
    λ e. turn_placeable a.c (number_under a.sizes.now) a.w a.names.now L.board L.x-index (omega arith) L.invariant.0 (sym c.number_of.ensures ∙ e)

pub loop-x-preserved : goal.loop-x-preserved
loop-x-preserved c =
    let a = c.args in
    let L = c.loop-x in
    let W = number_under a.sizes.now in
    let f = c.place_turn in (
      rw (f.ensures, c.number_of.ensures) (turn_rest a.c W a.w a.names.now L.board L.x-index (omega arith) L.invariant.0),
      rw (f.ensures, c.number_of.ensures) (turn_laid a.c W a.w a.names.now L.board L.x-index (omega arith) ∙ L.invariant.1),
    )

pub returns : goal.returns
returns c =
    let L = c.loop-x in
    left_none c.args.c (number_under c.args.sizes.now) c.args.w c.args.names.now L.board L.x-index (omega arith) ∙ L.invariant.1
