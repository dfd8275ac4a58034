-- The loop of `lines::writing::put_fields` keeps: what is written is the values so far. Assumes nothing.
use Rattle.std.proofs.Common.{◌≡◌, length, take}
use lib.Seq.{sets}
use Rattle.lines.specs.Printing.{fields}
use Rattle.lines.proofs.writing.put_fields.Given as goal

abbrev pub invariant-loop-n : goal.invariant-loop-n
invariant-loop-n l = (l.at ≡ length (fields (take l.n-index l.values))) × (l.out ≡ sets l.initial.out 0 (fields (take l.n-index l.values)))
