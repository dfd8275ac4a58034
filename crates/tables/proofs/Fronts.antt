-- The first entries of a table taken as one: copied, cleared, searched. Assumes nothing.
use Rattle.std.proofs.Common.{◌≡◌, refl, sym, ap, ◌∙◌, cond, Bool, ltb, le-ltb, lt-ltb, List, [], ◌∷◌, ◌++◌, ℕ, zero, suc, ◌+◌, ◌≤◌, length, get_or, take, drop, replicate, Some, None, inl, inr, arith}
use mathlib.Core.List.{append_assoc}
use native.Mathlib.Decide.{dec_lt}
use lib.ListN.{length-replicate}
use lib.Seq.{drop-cons, set_at, take-suc, length-take-le}
use Rattle.std.specs.Prelude.{unwrap_or}
use Rattle.std.specs.List.{position_or_len}
use Rattle.std.proofs.lemmas.Bool.{cases_Bool}
use Rattle.std.proofs.lemmas.List.{get_or-replicate, take-replicate}
use Rattle.pieces.specs.Placing.{first}
use Rattle.tables.specs.Settling.{written}
use Rattle.tables.proofs.Entries.{written_same}

pub written_copy : (S T : List ℕ) (n : ℕ) → n ≤ length S → n ≤ length T → take n S ++ drop n T ≡ written (λ i. get_or S i 0) n T
unfolding written
written_copy S T zero h k = refl
written_copy S T (suc n) h k =
    let e = written_copy S T n (omega arith) (omega arith) in
    rw (← e, drop-cons T n 0 (omega arith), set_at (take n S) (get_or T n 0) (drop (suc n) T) (get_or S n 0) n (length-take-le n S (omega arith)), take-suc S n 0 h)
    (append_assoc (take n S) (get_or S n 0 ∷ []) (drop (suc n) T))

pub written_clear : (T : List ℕ) (n : ℕ) → n ≤ length T → replicate n 0 ++ drop n T ≡ written (λ _. 0) n T
written_clear T n h =
    ap (λ (l : List ℕ). l ++ drop n T) (sym (take-replicate n n 0 (omega arith)))
    ∙ written_copy (replicate n 0) T n (omega (arith, length-replicate {A = ℕ} n 0)) h
    ∙ written_same _ _ T n (λ i l. get_or-replicate n i 0 0 l)

first_place : (p : ℕ → Bool) (B : List ℕ) (i n : ℕ) → i + n ≤ length B → i + position_or_len p (take n (drop i B)) ≡ first (λ j. p (get_or B j 0)) i n
unfolding first
first_place p B i zero h = omega arith
first_place p B i (suc n) h =
    let e = first_place p B (suc i) n (omega arith) in
    rw (drop-cons B i 0 (omega arith)) (elim (cases_Bool (p (get_or B i 0))) [
      | inl t ↦ rw t (omega arith)
      | inr f ↦ rw f (omega (arith, e))
    ])

-- the first of n places that passes; n where none does
pub first_front : (p : ℕ → Bool) (B : List ℕ) (n : ℕ) → n ≤ length B → position_or_len p (take n B) ≡ first (λ j. p (get_or B j 0)) 0 n
first_front p B n h = let e = first_place p B 0 n (omega arith) in omega arith

pub or_none : (n k : ℕ) → k ≤ n → unwrap_or (cond (ltb k n) (Some k) None) n ≡ k
or_none n k h = elim (dec_lt k n) [
  | yes l ↦ rw (lt-ltb k n l) refl
  | no l ↦ rw (le-ltb k n (omega arith)) (omega arith)
]
