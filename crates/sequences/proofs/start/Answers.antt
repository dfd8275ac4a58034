-- `sequences::start` meets its contract. Assumes nothing.
use Rattle.std.proofs.Common.{◌≡◌, ◌∙◌, ℕ, suc, ◌*◌, ◌%◌, ◌^◌, ◌<◌, arith, pow_pos, shl_exact}
use Rattle.sequences.proofs.start.Goals as goal

-- 2 shifted by j is 2 ^ (j + 1) in 64 digits.
size : (j : ℕ) → j < 63 → 2 * 2 ^ j % 2 ^ 64 ≡ 2 ^ suc j
size j h = shl_exact 2 j 64 (omega arith) (omega arith) ∙ (omega arith)

pub nonzero_rem-result : goal.nonzero_rem-result
nonzero_rem-result c = omega (arith, size c.args.j c.requires, pow_pos (suc c.args.j))
