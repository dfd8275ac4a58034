-- The slot order is that of G-3's two sequences as lists: the leaf of a position read off them, and a whole round. Assumes nothing.
use mathlib.Core.Path.{◌≡◌, refl, sym, ap, ap₂, ◌∙◌, subst}
use mathlib.Core.Bool.{cond}
use mathlib.Core.List.{List, [], ◌∷◌}
use Prim.Native.Nat.{ℕ, zero, suc, ◌+◌, ◌-◌, ◌*◌, ◌/◌, ◌%◌, ◌^◌, ◌<◌}
use native.Mathlib.Nat.{div-add-mod', div-eq_of_lt}
use native.Mathlib.Numerals.{one-add}
use native.Mathlib.Omega.{arith}
use lib.Arith.{digits_div}
use lib.Count.{count_trailing_zeros}
use lib.Dec.{eqb}
use lib.ListN.{length, drop, get_or}
use lib.Pow.{pow_pos}
use lib.Seq.{drop-cons, drop-length}
use Rattle.general.specs.Tests.{one}
use Rattle.sequences.specs.Sequences.{wss, tss}
use Rattle.sequences.specs.SlotOrder.{digits, term, column, start, leaf_at, Position}
use Rattle.sequences.specs.Serving.{count_in, count_list, serves, leaves_in, leaves_from}
use Rattle.sequences.specs.Scanning.{occurrences, scanned, round_leaves}
use Rattle.sequences.proofs.Zeros.{zeros_form}
use Rattle.sequences.proofs.Lists.{wss_length, wss_closed, wss_term, tss_term}
use Rattle.sequences.proofs.Stepping.{index_lt}
use Rattle.sequences.proofs.Counting.{class, class_count, count_same, count_more}
use Rattle.sequences.proofs.Rounds.{term_test}
use Rattle.sequences.proofs.Walk.{round_listed}

-- The leaf of a position, read off the two lists.
module _ (C p : ℕ) (at : Position C p) where
  column_literal : digits C - get_or (wss (digits C)) (p - 1) 0 ≡ column C p
  unfolding column
  column_literal = ap (λ (v : ℕ). digits C - v) (wss_term (digits C) p at.first at.last)

  pub leaf_literal :
      leaf_at C p
      ≡ start C (digits C - get_or (wss (digits C)) (p - 1) 0)
      + get_or (tss (digits C - get_or (wss (digits C)) (p - 1) 0)) (p / 2 ^ get_or (wss (digits C)) (p - 1) 0) 0
  unfolding leaf_at
  leaf_literal =
      rw (column_literal, wss_term (digits C) p at.first at.last, tss_term (column C p) (p / 2 ^ term (digits C) p) (index_lt C p at))

-- How many positions before suc q, of order k, have the term v.
abbrev before : ℕ → ℕ → ℕ → ℕ
before k v q = count_in (λ (x : ℕ). eqb (term k x) v) 1 q

class_before : (t q : ℕ) → suc q % 2 ^ suc t ≡ 2 ^ t → count_in (class (2 ^ suc t) (2 ^ t)) 1 q ≡ suc q / 2 ^ suc t
class_before t q e =
    let M = 2 ^ suc t in
    let s = M - suc (2 ^ t) in
    let Q = suc q / M in
    let z = pow_pos t in
    let c : count_in (class M (2 ^ t)) 1 q + (1 + s) / M ≡ (1 + q + s) / M = class_count M (2 ^ t) s (omega arith) 1 q in
    let d : Q * M + suc q % M ≡ suc q = div-add-mod' (suc q) M in
    let f : 1 + q + s ≡ Q * M + (2 ^ t + s) = omega arith in
    let a : (1 + q + s) / M ≡ Q = ap (λ (x : ℕ). x / M) f ∙ digits_div Q (omega arith) in
    let b : (1 + s) / M ≡ 0 = div-eq_of_lt (omega arith) in
    omega arith

-- The term v of a position p has stood p / 2 ^ v times before.
suc_before : (k q : ℕ) → suc q < 2 ^ k → before k (term k (suc q)) q ≡ suc q / 2 ^ term k (suc q)
unfolding term
suc_before k q h =
    let t = count_trailing_zeros k (suc q) in
    let f = zeros_form k (suc q) (omega arith) h in
    count_same (λ (x : ℕ). eqb (term k x) (suc t)) (class (2 ^ suc t) (2 ^ t)) 1 q (λ x lo hi. term_test k x t lo (omega arith) f.0)
    ∙ class_before t q f.1

pub term_before : (k p : ℕ) → zero < p → p < 2 ^ k → before k (term k p) (p - 1) ≡ p / 2 ^ term k p
term_before k p h l =
    let e : suc (p - 1) ≡ p = omega arith in
    subst (λ (x : ℕ). before k (term k x) (p - 1) ≡ x / 2 ^ term k x) e (suc_before k (p - 1) (omega arith))

module _ (C : ℕ) (some : zero < C) (few : C < 4096) where
  -- `done` holds the terms of the positions up to q.
  abbrev Done : List ℕ → ℕ → Type 0
  Done done q = (v : ℕ) → occurrences v done ≡ before (digits C) v q

  done_more : (done : List ℕ) (q : ℕ) → Done done q → Done (term (digits C) (suc q) ∷ done) (suc q)
  unfolding count_list
  done_more done q e v =
      let i = e v in
      let n = count_more (λ (x : ℕ). eqb (term (digits C) x) v) 1 q in
      let p : one (eqb (term (digits C) (1 + q)) v) ≡ one (eqb (term (digits C) (suc q)) v) = ap (λ (x : ℕ). one (eqb (term (digits C) x) v)) (one-add q) in
      omega arith

  leaf_scanned : (done : List ℕ) (q : ℕ) → Position C (suc q) → Done done q
      → start C (column C (suc q)) + get_or (tss (column C (suc q))) (occurrences (term (digits C) (suc q)) done) 0 ≡ leaf_at C (suc q)
  unfolding leaf_at
  leaf_scanned done q at e =
      rw (e (term (digits C) (suc q)), suc_before (digits C) q at.last, tss_term (column C (suc q)) (suc q / 2 ^ term (digits C) (suc q)) (index_lt C (suc q) at))

  terms_from : (q T : ℕ) → suc q + suc T ≡ 2 ^ digits C → drop q (wss (digits C)) ≡ term (digits C) (suc q) ∷ drop (suc q) (wss (digits C))
  terms_from q T e =
      let s = wss_length (digits C) in
      drop-cons (wss (digits C)) q 0 (omega arith)
      ∙ ap (λ (v : ℕ). v ∷ drop (suc q) (wss (digits C))) (wss_closed (digits C) q (omega arith))

  -- The scan of the terms from position suc q on is the leaves of those positions.
  scan_from : (T q : ℕ) (done : List ℕ) → suc q + T ≡ 2 ^ digits C → Done done q → scanned C done (drop q (wss (digits C))) ≡ leaves_in C (suc q) T
  unfolding scanned leaves_in column
  scan_from zero q done e d =
      let s = wss_length (digits C) in
      let n : q ≡ length (wss (digits C)) = omega arith in
      ap (scanned C done) (ap (λ (x : ℕ). drop x (wss (digits C))) n ∙ drop-length (wss (digits C)))
  scan_from (suc T) q done e d =
      let at : Position C (suc q) = record { some = some; few = few; first = omega arith; last = omega arith } in
      let ih = scan_from T (suc q) (term (digits C) (suc q) ∷ done) (omega arith) (done_more done q d) in
      ap (scanned C done) (terms_from q T e)
      ∙ ap₂ (λ (x : ℕ) (xs : List ℕ). cond (serves C (suc q)) (x ∷ xs) xs) (leaf_scanned done q at d) ih

  pub round_literal : leaves_from C 1 C ≡ round_leaves C
  unfolding round_leaves count_list count_in
  round_literal =
      let z = pow_pos (digits C) in
      round_listed C some few ∙ sym (scan_from (2 ^ digits C - 1) 0 [] (omega arith) (λ v. refl))
