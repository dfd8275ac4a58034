-- The loop of `blocks::write_sheet` keeps: the blocks passed are written. Assumes nothing.
use Rattle.std.proofs.Common.{◌≡◌, ℕ}
use lib.Seq.{sets}
use Rattle.sheets.specs.Blocks.{bytes_of, block, stack}
use Rattle.sheets.proofs.blocks.write_sheet.Given as goal

abbrev pub invariant-loop-b : goal.invariant-loop-b
invariant-loop-b g l =
    let f = g.F.BlockForm in
    l.output ≡ sets l.initial.output 0 (bytes_of (stack (λ (b : ℕ). block (f.number b) l.c (f.held l.p l.list b)) 0 l.b))
