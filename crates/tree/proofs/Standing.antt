-- The marks of a subtree after t visits of its root: the root's mark is t % 2, the left half has had (t + 1) / 2 of them and the right half t / 2. One walk
-- more makes that t + 1, and ends at the leaf RB(t, d) of the subtree, which is RB's own recursion. Assumes nothing.
use mathlib.Core.Path.{◌≡◌, refl, sym, ◌∙◌, subst}
use mathlib.Core.Bool.{true, false}
use mathlib.Core.List.{List}
use Prim.Native.Nat.{ℕ, zero, suc, ◌+◌, ◌*◌, ◌/◌, ◌%◌, ◌^◌, ◌≤◌, ◌<◌}
use native.Mathlib.Nat.{pow-suc}
use native.Mathlib.Decide.{dec_lt}
use native.Mathlib.Omega.{arith}
use lib.Dec.{eqb}
use lib.ListN.{length, get_or, set, length-set}
use lib.Seq.{get_or-set_same, get_or-set_other}
use borrow.Author.Tests.{eq-eqb, ne_eqb}
use Rattle.sequences.specs.Sequences.{rb}
use Rattle.tree.specs.Marks.{flipped, below, node_from, marks_from}
use Rattle.tree.proofs.Nodes.{dbl, Below, itself, through_left, through_right, through, after, apart}

pub Stands : List ℕ → ℕ → ℕ → ℕ → Type 0
Stands M i zero t = Unit {0}
Stands M i (suc d) t = (get_or M i 0 ≡ t % 2) × Stands M (2 * i + 1) d (suc t / 2) × Stands M (2 * i + 2) d (t / 2)

-- it hangs on the marks of the subtree alone
abbrev Same : ℕ → List ℕ → List ℕ → ℕ → Type 0
Same d M N i = (j : ℕ) → Below d i j → get_or M j 0 ≡ get_or N j 0

stands_same : (d : ℕ) (M N : List ℕ) (i t : ℕ) → Same d M N i → Stands M i d t → Stands N i d t
unfolding Stands
stands_same zero M N i t same s = tt
stands_same (suc d) M N i t same s = (
  sym (same i (itself d i)) ∙ s.0,
  stands_same d M N (2 * i + 1) (suc t / 2) (λ j b. same j (through_left d i j b)) s.1,
  stands_same d M N (2 * i + 2) (t / 2) (λ j b. same j (through_right d i j b)) s.2,
)

-- ---- what a walk leaves

pub marks_length : (d : ℕ) (M : List ℕ) (i : ℕ) → length (marks_from d M i) ≡ length M
unfolding marks_from
marks_length zero M i = refl
marks_length (suc d) M i = marks_length d (set M i (flipped (get_or M i 0))) (below (get_or M i 0) i) ∙ length-set M i (flipped (get_or M i 0))

-- It changes no mark that is not of its subtree.
pub marks_keep : (d : ℕ) (M : List ℕ) (i j : ℕ) → (Below d i j → ⊥) → get_or (marks_from d M i) j 0 ≡ get_or M j 0
unfolding marks_from
marks_keep zero M i j out = refl
marks_keep (suc d) M i j out =
    let m = get_or M i 0 in
    let other : j ≡ i → ⊥ = λ e. out (subst (λ (n : ℕ). Below (suc d) i n) (sym e) (itself d i)) in
    marks_keep d (set M i (flipped m)) (below m i) j (λ b. out (through d i j m b)) ∙ get_or-set_other M i j (flipped m) 0 other

-- ---- one walk more

-- there is a mark for each node of the subtree
abbrev Marked : ℕ → List ℕ → ℕ → Type 0
Marked d M i = (j : ℕ) → Below d i j → j < length M

-- what a walk from i leaves and where it ends
pub record Stepped (d : ℕ) (M : List ℕ) (i t : ℕ) : Type 0 where
  pub stands : Stands (marks_from d M i) i d (suc t)
  pub ends : suc (node_from d M i) ≡ 2 ^ d * suc i + rb t d

not_left : (d i : ℕ) → Below d (2 * i + 1) i → ⊥
not_left d i b = let h = after d (2 * i + 1) i b in omega arith

not_right : (d i : ℕ) → Below d (2 * i + 2) i → ⊥
not_right d i b = let h = after d (2 * i + 2) i b in omega arith

module _ (d : ℕ) (M : List ℕ) (i t : ℕ) (room : Marked (suc d) M i) (s : Stands M i (suc d) t) where
  -- a mark m at i changes nothing below its own two
  set_left : (m : ℕ) → Same d M (set M i m) (2 * i + 1)
  set_left m j b = sym (get_or-set_other M i j m 0 (λ e. not_left d i (subst (λ (n : ℕ). Below d (2 * i + 1) n) e b)))

  set_right : (m : ℕ) → Same d M (set M i m) (2 * i + 2)
  set_right m j b = sym (get_or-set_other M i j m 0 (λ e. not_right d i (subst (λ (n : ℕ). Below d (2 * i + 2) n) e b)))

  abbrev StepsFrom : ℕ → ℕ → Type 0
  StepsFrom m k = Marked d (set M i m) k → Stands (set M i m) k d (t / 2) → Stepped d (set M i m) k (t / 2)

  -- where the first step leads, and what it leaves
  walked_left : eqb (get_or M i 0) 0 ≡ true → marks_from (suc d) M i ≡ marks_from d (set M i 1) (2 * i + 1)
  unfolding marks_from
  walked_left h = rw h

  walked_right : eqb (get_or M i 0) 0 ≡ false → marks_from (suc d) M i ≡ marks_from d (set M i 0) (2 * i + 2)
  unfolding marks_from
  walked_right h = rw h

  step_left : t % 2 ≡ 0 → StepsFrom 1 (2 * i + 1) → Stepped (suc d) M i t
  unfolding Stands rb marks_from node_from
  step_left e steps =
      let mark : eqb (get_or M i 0) 0 ≡ true = eq-eqb (get_or M i 0) 0 (s.0 ∙ e) in
      let half : suc t / 2 ≡ t / 2 = omega arith in
      let more : suc (suc t) / 2 ≡ suc (t / 2) = omega arith in
      let r = steps (λ j b. rw (length-set M i 1) (room j (through_left d i j b)))
      (stands_same d M (set M i 1) (2 * i + 1) (t / 2) (set_left 1) (rw half at s.1)) in
      let N = marks_from d (set M i 1) (2 * i + 1) in
      let own : get_or N i 0 ≡ suc t % 2 =
      marks_keep d (set M i 1) (2 * i + 1) i (not_left d i) ∙ get_or-set_same M i 1 0 (room i (itself d i)) ∙ (omega arith) in
      let ends = r.ends in
      let twice = dbl d (suc i) in
      record {
        stands = subst (λ (K : List ℕ). Stands K i (suc d) (suc t)) (sym (walked_left mark)) (
          own,
          rw more r.stands,
          rw half (stands_same d M N (2 * i + 2) (t / 2)
              (λ j b. set_right 1 j b ∙ sym (marks_keep d (set M i 1) (2 * i + 1) j (λ a. apart d i j a b))) s.2),
        );
        ends = rw (mark, e) (omega arith);
      }

  step_right : t % 2 ≡ 1 → StepsFrom 0 (2 * i + 2) → Stepped (suc d) M i t
  unfolding Stands rb marks_from node_from
  step_right e steps =
      let other : get_or M i 0 ≡ 0 → ⊥ = λ z. let m = s.0 in omega arith in
      let mark = ne_eqb (get_or M i 0) 0 other in
      let half : suc t / 2 ≡ suc (t / 2) = omega arith in
      let more : suc (suc t) / 2 ≡ suc t / 2 = omega arith in
      let r = steps (λ j b. rw (length-set M i 0) (room j (through_right d i j b)))
      (stands_same d M (set M i 0) (2 * i + 2) (t / 2) (set_right 0) s.2) in
      let N = marks_from d (set M i 0) (2 * i + 2) in
      let own : get_or N i 0 ≡ suc t % 2 =
      marks_keep d (set M i 0) (2 * i + 2) i (not_right d i) ∙ get_or-set_same M i 0 0 (room i (itself d i)) ∙ (omega arith) in
      let ends = r.ends in
      let twice = dbl d (suc i) in
      record {
        stands = subst (λ (K : List ℕ). Stands K i (suc d) (suc t)) (sym (walked_right mark)) (
          own,
          rw more (stands_same d M N (2 * i + 1) (suc t / 2)
              (λ j b. set_left 0 j b ∙ sym (marks_keep d (set M i 0) (2 * i + 2) j (λ a. apart d i j b a))) s.1),
          rw half r.stands,
        );
        ends = rw (mark, e) (omega arith);
      }

pub stepped : (d : ℕ) (M : List ℕ) (i t : ℕ) → Marked d M i → Stands M i d t → Stepped d M i t
unfolding Stands marks_from node_from rb
stepped zero M i t room s = record { stands = tt; ends = omega arith }
stepped (suc d) M i t room s = go (t % 2) refl (stepped d (set M i 1) (2 * i + 1) (t / 2)) (stepped d (set M i 0) (2 * i + 2) (t / 2))
  where
    go : (b : ℕ) → t % 2 ≡ b → StepsFrom d M i t room s 1 (2 * i + 1) → StepsFrom d M i t room s 0 (2 * i + 2) → Stepped (suc d) M i t
    go zero e left right = step_left d M i t room s e left
    go (suc b) e left right = step_right d M i t room s (omega arith) right

-- ---- clear marks

-- marks that are clear stand after no visit,
pub clear_stands : (d : ℕ) (M : List ℕ) (i : ℕ) → ((j : ℕ) → Below d i j → get_or M j 0 ≡ 0) → Stands M i d 0
unfolding Stands
clear_stands zero M i clear = tt
clear_stands (suc d) M i clear = (
  clear i (itself d i),
  clear_stands d M (2 * i + 1) (λ j b. clear j (through_left d i j b)),
  clear_stands d M (2 * i + 2) (λ j b. clear j (through_right d i j b)),
)

-- and after q * 2 ^ d visits every mark is clear again, e levels down
stands_at : (e d : ℕ) (M : List ℕ) (i q : ℕ) → Stands M i d (q * 2 ^ d) → e < d → (j : ℕ) → 2 ^ e * suc i ≤ suc j → suc j < 2 ^ e * suc (suc i) → get_or M j 0 ≡ 0
unfolding Stands
stands_at e zero M i q s h j lo hi = absurd (omega arith)
stands_at zero (suc d) M i q s h j lo hi =
    let z : j ≡ i = omega arith in
    let v : q * 2 ^ suc d % 2 ≡ 0 = rw (pow-suc 2 d) (omega arith) in
    rw z (s.0 ∙ v)
stands_at (suc e) (suc d) M i q s h j lo hi = go (dec_lt (suc j) (2 ^ e * suc (suc (2 * i + 1)))) (λ k u l n m. stands_at e d M k q u l j n m)
  where
    go : Dec (suc j < 2 ^ e * suc (suc (2 * i + 1)))
        → ((k : ℕ) → Stands M k d (q * 2 ^ d) → e < d → 2 ^ e * suc k ≤ suc j → suc j < 2 ^ e * suc (suc k) → get_or M j 0 ≡ 0) → get_or M j 0 ≡ 0
    go (yes l) rest =
        let v : suc (q * 2 ^ suc d) / 2 ≡ q * 2 ^ d = rw (pow-suc 2 d) (omega arith) in
        let y = dbl e (suc i) in
        let z = dbl e (suc (suc i)) in
        rest (2 * i + 1) (rw v at s.1) (omega arith) (omega arith) l
    go (no l) rest =
        let v : q * 2 ^ suc d / 2 ≡ q * 2 ^ d = rw (pow-suc 2 d) (omega arith) in
        let y = dbl e (suc i) in
        let z = dbl e (suc (suc i)) in
        rest (2 * i + 2) (rw v at s.2) (omega arith) (omega arith) (omega arith)

pub stands_clear : (d : ℕ) (M : List ℕ) (i q : ℕ) → Stands M i d (q * 2 ^ d) → (j : ℕ) → Below d i j → get_or M j 0 ≡ 0
stands_clear d M i q s j b = stands_at b.down d M i q s b.within j b.from b.to
