-- The checks before a call: what it means that none of a list of refusals applies, and that one is the first. Assumes nothing.
use mathlib.Core.Path.{◌≡◌, refl, sym, ap, ◌∙◌}
use mathlib.Core.Bool.{Bool, true, false}
use mathlib.Core.List.{List, [], ◌∷◌, ◌++◌}
use Prim.Native.Nat.{ℕ}
use native.Mathlib.Omega.{arith}
use Rattle.calls.specs.declared.Refusal.{Refusal}
use Rattle.calls.specs.Types.{Check}
use Rattle.std.specs.Prelude.{Ok, Err}
use Rattle.calls.specs.Refusals.{Asked, applies, first_of, refuse_if}
use Rattle.calls.proofs.Laws.{first_next}

-- 0 for no refusal
abbrev code : Check → ℕ
code (Ok tt) = 0
code (Err r) = 1

-- the refusal, where there is one
abbrev which : Refusal → Check → Refusal
which q (Ok tt) = q
which q (Err r) = r

apart : {P : Type 0} {c : Check} {r : Refusal} → c ≡ Ok tt → c ≡ Err r → P
apart p q = absurd (let e : ◌≡◌ {A = ℕ} 0 1 = ap code (sym p ∙ q) in omega arith)

module _ (a : Asked) where
  pub none_applies : (r : Refusal) (rs : List Refusal) → applies r a ≡ false → first_of rs a ≡ Ok tt → first_of (r ∷ rs) a ≡ Ok tt
  unfolding first_of
  none_applies r rs f e = rw f e

  pub first_applies : (rs : List Refusal) (r : Refusal) → first_of rs a ≡ Err r → applies r a ≡ true
  unfolding first_of
  first_applies [] r e = apart refl e
  first_applies (q ∷ rs) r e = go (applies q a) refl e (first_applies rs r)
    where
      go : (b : Bool) → applies q a ≡ b → refuse_if b q (first_of rs a) ≡ Err r → (first_of rs a ≡ Err r → applies r a ≡ true) → applies r a ≡ true
      go true f e ih = let g : q ≡ r = ap (which q) e in rw (← g) f
      go false f e ih = ih e

  pub first_after : (rs qs : List Refusal) → first_of rs a ≡ Ok tt → first_of (rs ++ qs) a ≡ first_of qs a
  first_after rs qs e = first_next rs qs a ∙ rw e refl
