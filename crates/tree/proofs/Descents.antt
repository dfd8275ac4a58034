-- What the code of a walk goes by: one step of it, where it ends for any marks, and what no refusal says. Assumes nothing.
use mathlib.Core.Path.{◌≡◌, refl}
use mathlib.Core.Bool.{Bool, true, false, ◌||◌, cond}
use mathlib.Core.List.{List}
use Prim.Native.Nat.{ℕ, zero, suc, ◌+◌, ◌-◌, ◌*◌, ◌^◌, ◌≤◌, ◌<◌}
use native.Mathlib.Nat.{mul-le-mul_right}
use native.Mathlib.Decide.{ℕ_discrete}
use native.Mathlib.Omega.{arith}
use lib.Count.{ones}
use lib.Dec.{ltb}
use lib.ListN.{length, get_or, set}
use lib.Pow.{pow_pos}
use borrow.Author.Tests.{eq-eqb, ne_eqb, ltb-false}
use Rattle.general.proofs.Laws.{neither}
use Rattle.calls.specs.Refusals.{applies, asked_open, open_check}
use Rattle.calls.specs.declared.Refusal.TheVariants.{Capacity, Short}
use Rattle.std.specs.Prelude.{Ok, Err}
use Rattle.calls.proofs.Laws.{open_clear}
use Rattle.tree.specs.Marks.{flipped, below, node_from, marks_from, levels}
use Rattle.tree.specs.Results.{finding}
use Rattle.tree.specs.Types.{Finding}
use Rattle.tree.specs.declared.Unwalked.TheVariants as unwalked
use Rattle.tree.proofs.Nodes.{dbl}
use Rattle.tree.proofs.Powers.{power, exponent_le}

-- the node below is one of the two
below_range : (m i : ℕ) → (2 * i + 1 ≤ below m i) × (below m i ≤ 2 * i + 2)
below_range m i = elim (ℕ_discrete m 0) [
  | yes e ↦ rw (eq-eqb m 0 e) (omega arith)
  | no e ↦ rw (ne_eqb m 0 e) (omega arith)
]

-- one step of a walk with l levels left
pub step_next : (l : ℕ) (M : List ℕ) (i : ℕ) → zero < l
    → (node_from (l - 1) (set M i (flipped (get_or M i 0))) (below (get_or M i 0) i) ≡ node_from l M i)
    × (marks_from (l - 1) (set M i (flipped (get_or M i 0))) (below (get_or M i 0) i) ≡ marks_from l M i)
unfolding node_from marks_from
step_next zero M i h = absurd (omega arith)
step_next (suc l) M i h = let e : suc l - 1 ≡ l = omega arith in (rw e refl, rw e refl)

-- a node with l levels below it is one of the first D - 1,
pub node_fits : (l i D : ℕ) → zero < l → 2 ^ l * suc (suc i) ≤ 2 * D → suc (suc i) ≤ D
node_fits zero i D h b = absurd (omega arith)
node_fits (suc l) i D h b =
    let z = dbl l (suc (suc i)) in
    let g : 1 * suc (suc i) ≤ 2 ^ l * suc (suc i) = mul-le-mul_right (suc (suc i)) (pow_pos l) in
    omega arith

-- and so is the one that the walk goes to, with l - 1 below it
pub below_fits : (l m i D : ℕ) → zero < l → 2 ^ l * suc (suc i) ≤ 2 * D → 2 ^ (l - 1) * suc (suc (below m i)) ≤ 2 * D
below_fits zero m i D h b = absurd (omega arith)
below_fits (suc l) m i D h b =
    let z = dbl l (suc (suc i)) in
    let r = below_range m i in
    let g : suc (suc (below m i)) * 2 ^ l ≤ 2 * suc (suc i) * 2 ^ l = mul-le-mul_right (2 ^ l) (omega arith) in
    let e : suc l - 1 ≡ l = omega arith in
    rw e (omega arith)

-- d levels below node i: where a walk ends, for any marks
pub node_range : (d : ℕ) (M : List ℕ) (i : ℕ) → (2 ^ d * suc i ≤ suc (node_from d M i)) × (suc (node_from d M i) < 2 ^ d * suc (suc i))
unfolding node_from
node_range zero M i = (omega arith, omega arith)
node_range (suc d) M i =
    let c = below (get_or M i 0) i in
    let b = below_range (get_or M i 0) i in
    let r = node_range d (set M i (flipped (get_or M i 0))) c in
    let y = dbl d (suc i) in
    let z = dbl d (suc (suc i)) in
    let g : 2 * suc i * 2 ^ d ≤ suc c * 2 ^ d = mul-le-mul_right (2 ^ d) (omega arith) in
    let h : suc (suc c) * 2 ^ d ≤ 2 * suc (suc i) * 2 ^ d = mul-le-mul_right (2 ^ d) (omega arith) in
    (omega arith, omega arith)

-- What no refusal says.
pub record Walkable (C : ℕ) (B : List ℕ) (m : ℕ) : Type 0 where
  pub some : zero < C
  pub few : C ≤ 4095
  pub one : ones C ≤ 1
  pub power : C ≡ 2 ^ levels C
  pub opens : open_check C B ≡ Ok tt
  pub long : C ≤ length B
  pub marked : C - 1 ≤ m

passed : (b : Bool) (f g : Finding) → (f ≡ Ok tt → ⊥) → cond b f g ≡ Ok tt → (b ≡ false) × (g ≡ Ok tt)
passed true f g n e = absurd (n e)
passed false f g n e = (refl, e)

pub walkable : (C : ℕ) (B : List ℕ) (m : ℕ) → finding C B m ≡ Ok tt → Walkable C B m
unfolding finding open_check
walkable C B m e =
    let p = passed (applies Capacity (asked_open C B)) (Err (unwalked.Refused Capacity)) _ (λ z. cc) e in
    let q = passed (ltb 1 (ones C)) (Err unwalked.Power) _ (λ z. cc) p.1 in
    let r = passed (applies Short (asked_open C B) || ltb m (C - 1)) (Err (unwalked.Refused Short)) _ (λ z. cc) q.1 in
    let s = neither (applies Short (asked_open C B)) (ltb m (C - 1)) r.0 in
    let o : open_check C B ≡ (Ok tt) = rw (p.0, s.0) refl in
    let z = open_clear C B o in
    let single = ltb-false 1 (ones C) q.0 in
    record {
      some = z.some;
      few = z.few;
      one = single;
      power = power C z.some z.few single;
      opens = o;
      long = z.long;
      marked = ltb-false m (C - 1) s.1;
    }

-- what its code needs: how many levels, and that the node it ends at is one of the C leaves
module _ (C : ℕ) (B : List ℕ) (m : ℕ) (is : Walkable C B m) where
  pub level_marks : (levels C ≤ 11) × (2 ^ levels C ≤ suc m)
  level_marks =
      let e = is.power in
      let f = is.few in
      let n = is.marked in
      (exponent_le (levels C) (omega arith), omega arith)

  pub ends_leaf : (M : List ℕ) → (C - 1 ≤ node_from (levels C) M 0) × (node_from (levels C) M 0 - (C - 1) < C)
  ends_leaf M =
      let e = is.power in
      let s = is.some in
      let r = node_range (levels C) M 0 in
      (omega arith, omega arith)
