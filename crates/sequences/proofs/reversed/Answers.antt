-- `sequences::reversed` meets its contract. Assumes nothing.
use Rattle.std.proofs.Common.{◌≡◌, ap, ◌∙◌, ℕ, ◌+◌, ◌-◌, ◌*◌, ◌/◌, ◌^◌, arith}
use Rattle.sequences.specs.Sequences.{rb}
use Rattle.sequences.proofs.Reverse.{rb_split, rb_from}
use Rattle.sequences.proofs.reversed.Goals as goal
use Rattle.sequences.proofs.reversed.Goals.{After-six-2}

-- The two sixes are the 12 digits.
twelve : (c : After-six-2) → c.six.result * 64 + c.six-2.result ≡ rb c.args.i 12
twelve c = omega (arith, rb_split c.args.i 6 6)

pub returns : goal.returns
returns c =
    ap (λ (x : ℕ). x / 2 ^ (12 - c.args.j)) (twelve c) ∙ rb_from c.args.i 12 c.args.j (omega arith)
