-- What admit says and leaves, by the idle leaves that it counts. Assumes nothing.
use mathlib.Core.Path.{◌≡◌, refl}
use mathlib.Core.List.{List}
use Prim.Native.Nat.{ℕ, ◌-◌, ◌≤◌}
use native.Mathlib.Omega.{arith}
use borrow.Author.Tests.{le-ltb}
use Rattle.pieces.specs.Board.{weight}
use Rattle.pieces.specs.Placing.{Admissible, Placeable, placed, admitted, admission}
use Rattle.std.specs.Prelude.{Ok}
use Rattle.pieces.proofs.Laws.{placed_idle}

module _ (C : ℕ) (B : List ℕ) (x w idle : ℕ) (may : Admissible C B x) (counted : idle ≡ weight C B 0) where
  pub placeable : w ≤ idle → Placeable C B x w
  placeable l = record {
    small = may.small;
    long = may.long;
    sound = may.sound;
    named = may.named;
    absent = may.absent;
    room = omega arith;
  }

  pub all_placed : w ≤ idle → (D : List ℕ) → D ≡ placed C B x w → (Ok (idle - w) ≡ admission C B x w) × (D ≡ admitted C B x w)
  all_placed l D e =
      let left : idle - w ≡ weight C (placed C B x w) 0 = omega (arith, placed_idle C B x w (placeable l)) in
      rw (← counted, le-ltb idle w l, left, e) (refl, refl)
