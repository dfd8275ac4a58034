-- `pieces::fill` meets its contract. Assumes nothing.
use Rattle.std.proofs.Common.{◌≡◌, refl, ◌∙◌, ◌+◌, ◌-◌, length, take, drop, replicate, length-take-le, arith}
use Rattle.std.proofs.lemmas.List.{length-drop}
use Rattle.pieces.proofs.Filled.{fill_mid}
use Rattle.pieces.proofs.fill.Goals as goal

pub returns : goal.returns
returns c =
    let k : c.args.a + c.args.size - c.args.a ≡ c.args.size = omega arith in
    let m : length (take c.args.size (drop c.args.a c.args.board.now)) ≡ c.args.size = length-take-le _ _ (omega (arith, length-drop c.args.a c.args.board.now)) in
    let e : c.fill.new.self ≡ replicate c.args.size c.args.name =
    c.fill.ensures.after (λ y same. same) ∙ rw (k, m) refl in
    rw (k, e) (fill_mid c.args.board.now c.args.a c.args.size c.args.name c.requires.0)
