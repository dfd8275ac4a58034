-- `lines::talking::tell_unknown` meets its contract. Assumes nothing.
use Rattle.std.proofs.Common.{[], ◌∷◌, refl, sym, arith}
use Rattle.lines.specs.Printing.{unknown_line}
use Rattle.lines.proofs.Decimals.{sets_front}
use Rattle.lines.proofs.talking.tell_unknown.Goals as goal

pub returns : goal.returns
unfolding unknown_line
returns c = record { to = refl; bytes = rw c.copy_from_slice.ensures.after (sym (sets_front (63 ∷ 10 ∷ []) c.args.out.now (omega arith))); within = omega arith }
