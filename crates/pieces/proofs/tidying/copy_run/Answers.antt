-- `pieces::tidying::copy_run` meets its contract. Assumes nothing.
use Rattle.std.proofs.Common.{◌≡◌, ◌+◌, ◌-◌, sym, ◌∙◌, arith}
use Rattle.pieces.proofs.Filled.{copy_paste}
use Rattle.pieces.proofs.tidying.copy_run.Goals as goal

pub returns : goal.returns
returns c =
    let k : c.args.from + c.args.size - c.args.from ≡ c.args.size = omega arith in
    rw k at c.copy_within.ensures.after ∙ sym (copy_paste c.args.board.now c.args.from c.args.to c.args.size c.requires.source c.requires.target)
