-- What a call answers that goes by the first refusal of a list. Assumes nothing.
use mathlib.Core.Path.{◌≡◌, refl}
use mathlib.Core.Bool.{Bool, true, false, cond}
use mathlib.Core.List.{List, [], ◌∷◌}
use Prim.Native.Nat.{ℕ}
use native.Mathlib.Omega.{arith}
use lib.Dec.{eqb}
use Rattle.general.proofs.Laws.{clash}
use Rattle.pieces.specs.Board.{weight}
use Rattle.calls.specs.declared.Refusal.{Refusal}
use Rattle.calls.specs.declared.Refusal.TheVariants.{Damaged, Room}
use Rattle.calls.specs.Types.{Check}
use Rattle.std.specs.Prelude.{Ok, Err}
use Rattle.calls.specs.Refusals.{Asked, number_of, applies, first_of, refuse_if, numbers, among}
use Rattle.calls.specs.Answers.{Answer, number_by, values_by, beside}
use Rattle.calls.specs.Results.{if_clear}
use Rattle.calls.proofs.Laws.{number_tells, clear_number, other_number}
use Rattle.demands.specs.Histories.{State}
use Rattle.demands.specs.Refusing.{zeros, refused_values}
use Rattle.demands.proofs.Checks.{first_applies}

-- DAMAGED only if that applies
pub undamaged : (rs : List Refusal) (q : Asked) → applies Damaged q ≡ false → number_by (first_of rs q) ≡ 5 → ⊥
undamaged rs q fine = go (first_of rs q) refl
  where
    go : (k : Check) → first_of rs q ≡ k → number_by k ≡ 5 → ⊥
    go (Ok tt) g h = absurd (omega arith)
    go (Err r) g h = let d : r ≡ Damaged = number_tells r Damaged h in clash (rw d at (first_applies q rs r g)) fine

-- ROOM by its check alone
pub room_number : (b : Bool) → number_by (refuse_if b Room (Ok tt)) ≡ cond b 10 0
room_number true = refl
room_number false = refl

-- and then the idle leaves; any other refusal says zero
pub room_says : (k : Check) (vs : List ℕ) (idle : ℕ) → number_by k ≡ 10 → values_by k vs (λ r. beside (number_of r) idle ∷ []) ≡ idle ∷ []
room_says (Ok tt) vs idle e = absurd (omega arith)
room_says (Err r) vs idle e = rw e refl

pub beside_says : (n idle : ℕ) → beside n idle ∷ [] ≡ cond (eqb n 10) (idle ∷ []) (0 ∷ [])
beside_says n idle = go (eqb n 10)
  where
    go : (b : Bool) → cond b idle 0 ∷ [] ≡ cond b (idle ∷ []) (0 ∷ [])
    go true = refl
    go false = refl

-- a call that has not ROOM in its list says zeros
pub zeros_say : (rs : List Refusal) (s : State) (a : Answer) → among a.number rs ≡ true → among 10 rs ≡ false → a.values ≡ zeros a.values → a.values ≡ refused_values s a
unfolding among
zeros_say rs s a m f z = rw (other_number (numbers rs) a.number 10 m f) z

-- the idle number of a change that is done is that of the board it leaves
pub done_idle : (C : ℕ) (done B : List ℕ) (k : Check) (instead : Refusal → List ℕ) → number_by k ≡ 0
    → values_by k (weight C done 0 ∷ []) instead ≡ weight C (if_clear k done B) 0 ∷ []
done_idle C done B k instead h = rw (clear_number k h) refl
