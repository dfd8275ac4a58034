-- `put_zeros` meets its contract. Assumes nothing.
use Rattle.std.proofs.Common.{◌≡◌, refl, ◌∙◌, ◌+◌, ◌-◌, ◌*◌, length, take, drop, replicate, length-take-le, arith}
use Rattle.std.proofs.lemmas.List.{length-drop}
use Rattle.sheets.proofs.Stores.{zeros_fill}
use Rattle.sheets.proofs.blocks.put_zeros.Goals as goal

pub returns : goal.returns
returns c =
    let a = c.args in
    let k : 2 * (a.a + a.n) - 2 * a.a ≡ 2 * a.n = omega arith in
    let m : length (take (2 * a.n) (drop (2 * a.a) a.sheet.now)) ≡ 2 * a.n = length-take-le _ _ (omega (arith, length-drop (2 * a.a) a.sheet.now)) in
    let e : c.fill.new.self ≡ replicate (2 * a.n) 0 = c.fill.ensures.after (λ y same. same) ∙ rw (k, m) refl in
    rw (k, e) (zeros_fill a.sheet.now a.a a.n c.requires)
