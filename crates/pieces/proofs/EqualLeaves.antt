-- Placing hangs on the leaves alone: boards with equal leaves have equal leaves when the same streams are placed on them. Assumes nothing.
use mathlib.Core.Path.{◌≡◌, refl, sym, ap, ◌∙◌}
use mathlib.Core.Bool.{Bool}
use mathlib.Core.List.{List, [], ◌∷◌}
use Prim.Native.Nat.{ℕ, zero, suc, ◌+◌, ◌-◌, ◌^◌, ◌/◌, ◌%◌, ◌≤◌, ◌<◌}
use native.Mathlib.Nat.{two-pow-succ}
use native.Mathlib.Omega.{arith}
use native.Mathlib.Decide.{dec_lt, dec_le}
use lib.Dec.{ltb, eqb}
use lib.ListN.{length, get_or}
use Rattle.general.proofs.Laws.{by_bool}
use Rattle.pieces.specs.Board.{pieces, nth}
use Rattle.pieces.specs.Placing.{fill, first, fit, spot, put, place, placed}
use Rattle.pieces.specs.Fresh.{all_placed}
use Rattle.pieces.specs.Streams.{Stream}
use Rattle.pieces.proofs.Blocks.{pieces_runs}
use Rattle.pieces.proofs.Replace.{Agree, whole_local, runs_local}
use Rattle.pieces.proofs.Adding.{length_fill, fill_in, fill_out}

-- Boards with C entries or more, and equal leaves.
pub record Alike (C : ℕ) (B B'' : List ℕ) : Type 0 where
  pub long : (C ≤ length B) × (C ≤ length B'')
  pub leaf : (i : ℕ) → i < C → get_or B i 0 ≡ get_or B'' i 0

module _ (C : ℕ) (B B'' : List ℕ) where
  pieces_local : (x e a l : ℕ) → Agree C B B'' a l → pieces C B x e a l ≡ pieces C B'' x e a l
  pieces_local x e a l s = omega (arith, pieces_runs C B x e a l, pieces_runs C B'' x e a l, runs_local C B B'' x e a l s, runs_local C B B'' x (suc e) a l s)

  nth_local : (x e k a l : ℕ) → Agree C B B'' a l → nth C B x e k a l ≡ nth C B'' x e k a l
  unfolding nth
  nth_local x e k a zero s = refl
  nth_local x e k a (suc l) s =
      let low : Agree C B B'' a l = λ i c p q. s i c p (omega (arith, two-pow-succ l)) in
      let high : Agree C B B'' (a + 2 ^ l) l = λ i c p q. s i c (omega arith) (omega (arith, two-pow-succ l)) in
      rw (whole_local C B B'' x a (suc l) s, pieces_local x e a l low, nth_local x e k a l low, nth_local x e (k - pieces C B'' x e a l) (a + 2 ^ l) l high) refl

first_same : (p q : ℕ → Bool) → ((e : ℕ) → p e ≡ q e) → (e k : ℕ) → first p e k ≡ first q e k
unfolding first
first_same p q h e zero = refl
first_same p q h e (suc k) = rw (h e, first_same p q h (suc e) k) refl

module _ (C : ℕ) where
  put_local : (B B'' : List ℕ) → Alike C B B'' → (x n : ℕ) → Alike C (put C B x n) (put C B'' x n)
  unfolding put spot fit
  put_local B B'' s x n =
      let all : Agree C B B'' 0 12 = λ i c p q. s.leaf i c in
      let f : fit C B n ≡ fit C B'' n = first_same (λ e. ltb 0 (pieces C B 0 e 0 12)) (λ e. ltb 0 (pieces C B'' 0 e 0 12)) (λ e. ap (ltb 0) (pieces_local C B B'' 0 e 0 12 all)) n 13 in
      let a : spot C B n ≡ spot C B'' n = ap (λ (e : ℕ). nth C B 0 e 0 0 12) f ∙ nth_local C B B'' 0 (fit C B'' n) 0 0 12 all in
      filled (spot C B n) (spot C B'' n) a
    where
      filled : (u v : ℕ) → u ≡ v → Alike C (fill B u (2 ^ n) x) (fill B'' v (2 ^ n) x)
      filled u v e = rw e (record {
        long = (omega (arith, length_fill B v (2 ^ n) x, s.long.0), omega (arith, length_fill B'' v (2 ^ n) x, s.long.1));
        leaf = λ i c. elim (dec_le v i) [
          | yes l ↦ elim (dec_lt i (v + 2 ^ n)) [
            | yes h ↦ fill_in B v (2 ^ n) x i l h (omega (arith, s.long.0)) ∙ sym (fill_in B'' v (2 ^ n) x i l h (omega (arith, s.long.1)))
            | no h ↦ fill_out B v (2 ^ n) x i (λ p q. h q) ∙ s.leaf i c ∙ sym (fill_out B'' v (2 ^ n) x i (λ p q. h q))
          ]
          | no l ↦ fill_out B v (2 ^ n) x i (λ p q. l p) ∙ s.leaf i c ∙ sym (fill_out B'' v (2 ^ n) x i (λ p q. l p))
        ];
      })

  place_local : (k : ℕ) (B B'' : List ℕ) → Alike C B B'' → (x w : ℕ) → Alike C (place C B x w k) (place C B'' x w k)
  unfolding place
  place_local zero B B'' s x w = s
  place_local (suc k) B B'' s x w = by_bool (eqb (w / 2 ^ k % 2) 1)
      (λ t. rw t (place_local k (put C B x k) (put C B'' x k) (put_local B B'' s x k) x w))
      (λ f. rw f (place_local k B B'' s x w))

  pub laid_local : (ss : List Stream) (B B'' : List ℕ) → Alike C B B'' → Alike C (all_placed C B ss) (all_placed C B'' ss)
  unfolding all_placed
  laid_local [] B B'' s = s
  laid_local (t ∷ ss) B B'' s = laid_local ss (placed C B t.name t.weight) (placed C B'' t.name t.weight) (place_local 12 B B'' s t.name t.weight)
