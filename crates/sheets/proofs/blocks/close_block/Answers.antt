-- `close_block` meets its contract. Assumes nothing.
use Rattle.std.proofs.Common.{◌≡◌, ◌*◌, ◌+◌, arith}
use Rattle.sheets.specs.Blocks.{closing}
use Rattle.sheets.proofs.blocks.close_block.Goals as goal

pub returns : goal.returns
unfolding closing
returns c =
    let b = c.args.b in
    let e : 2 * (256 * b + 255) ≡ 512 * b + 510 = omega arith in
    rw e at c.put_number.ensures
