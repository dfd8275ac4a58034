-- The loop of `lines::reading::number` keeps: the word is the number that its digits so far and what is left of it give; the value stays within the limit.
-- Assumes nothing.
use Rattle.std.proofs.Common.{◌≡◌, ◌≤◌, drop}
use Rattle.lines.specs.Grammar.{numeral}
use Rattle.lines.proofs.Spelling.{read_on}
use Rattle.lines.proofs.reading.number.Given as goal

abbrev pub invariant-loop-b : goal.invariant-loop-b
invariant-loop-b l = (l.value ≤ l.limit) × (numeral l.most l.limit l.word ≡ read_on l.limit l.value (drop l.b-index l.word))
