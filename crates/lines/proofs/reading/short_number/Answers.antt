-- `lines::reading::short_number` meets its contract. Assumes nothing.
use Rattle.std.proofs.Common.{sym, ◌∙◌, arith}
use Rattle.std.proofs.lemmas.Result.{Ok-from_Ok_iff}
use Rattle.lines.proofs.Spelling.{numeral_limit}
use Rattle.lines.proofs.reading.short_number.Goals as goal

pub returns : goal.returns
returns c = let e = rw c.from.ensures at (sym c.number.ensures ∙ c.in_ok-n.was) in
    let fits = numeral_limit _ _ c.args.word.now c.in_ok-n.n e in
    c.ok.ensures.value ∙ rw (Ok-from_Ok_iff _ _ _ c.try_from.ensures (omega (arith, fits))) (sym e)
