-- The board after an add that passes its checks. Assumes nothing.
use mathlib.Core.Path.{◌≡◌, sym, ◌∙◌}
use mathlib.Core.Bool.{true}
use mathlib.Core.List.{List}
use Prim.Native.Nat.{ℕ, ◌+◌, ◌≤◌}
use native.Mathlib.Omega.{arith}
use lib.ListN.{get_or, length}
use Rattle.pieces.specs.Board.{good, Good, weight}
use Rattle.pieces.specs.Placing.{Placeable, placed}
use Rattle.pieces.proofs.Blocks.{total}
use Rattle.pieces.proofs.Literal.{good_intro, good_elim}
use Rattle.pieces.proofs.Weight as weights
use Rattle.pieces.proofs.Adding as adding

module _ (C : ℕ) (B : List ℕ) (x w : ℕ) (may : Placeable C B x w) where
  same : (D : List ℕ) (y : ℕ) → weight C D y ≡ total C D y
  same D y = weights.weight_total C D y (omega (arith, may.small))

  sound : Good C B
  sound = good_elim C B may.sound

  absent : total C B x ≡ 0
  absent = sym (same B x) ∙ may.absent

  room : w ≤ total C B 0
  room = rw (same B 0) at may.room

  added : adding.Added C B (placed C B x w) x w (adding.digit w 12)
  added = adding.placed_added C B x w may.small may.long may.named sound absent room

  -- It has as many entries.
  pub placed_length : length (placed C B x w) ≡ length B
  placed_length = added.size

  -- It is good.
  pub placed_good : good C (placed C B x w) ≡ true
  placed_good = good_intro C (placed C B x w) (adding.placed_good C B x w may.small may.long may.named sound absent room)

  -- The stream holds its weight.
  pub placed_weight : weight C (placed C B x w) x ≡ w
  placed_weight = same (placed C B x w) x ∙ adding.placed_weight C B x w may.small may.long may.named sound absent room

  -- The idle leaves lose it.
  pub placed_idle : weight C (placed C B x w) 0 + w ≡ weight C B 0
  placed_idle = rw (same (placed C B x w) 0, same B 0) added.idle

  -- Every other stream keeps its weight.
  pub placed_others : (y : ℕ) → (y ≡ 0 → ⊥) → (y ≡ x → ⊥) → weight C (placed C B x w) y ≡ weight C B y
  placed_others y n m = rw (same (placed C B x w) y, same B y) (adding.placed_others C B x w may.small may.long may.named sound absent room y n m)

  -- It keeps its very leaves, too.
  pub placed_leaf : (i : ℕ) → (get_or B i 0 ≡ 0 → ⊥) → get_or (placed C B x w) i 0 ≡ get_or B i 0
  placed_leaf = added.leaf

  -- Entries beyond C stay.
  pub placed_beyond : (i : ℕ) → C ≤ i → get_or (placed C B x w) i 0 ≡ get_or B i 0
  placed_beyond = added.beyond
