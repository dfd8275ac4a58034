-- Streams added to idle leaves, and a board laid out afresh: what it holds, that it hangs on the weights alone, and that doing it again changes nothing.
-- Assumes nothing.
use mathlib.Core.Path.{◌≡◌, refl, sym, ◌∙◌}
use mathlib.Core.Bool.{true}
use mathlib.Core.List.{List}
use Prim.Native.Nat.{ℕ, zero, suc, ◌+◌, ◌-◌, ◌≤◌, ◌<◌}
use native.Mathlib.Omega.{arith}
use native.Mathlib.Decide.{dec_lt, ℕ_discrete}
use lib.ListN.{length, get_or}
use lib.Seq.{ext_get_or}
use borrow.Author.Tests.{ne_eqb}
use Rattle.pieces.specs.Board.{good, weight}
use Rattle.pieces.specs.Fresh.{rising, ranks, all_placed, Placeables, largest_name, idle, streams, fresh}
use Rattle.pieces.specs.Streams.{Stream, held_of, total}
use Rattle.pieces.proofs.Weight.{weight_le}
use Rattle.pieces.proofs.Adding.{length_fill, fill_in, fill_out}
use Rattle.pieces.proofs.Literal.{good_intro}
use Rattle.pieces.proofs.Opened.{idle_good}
use Rattle.pieces.proofs.Streams.{Apart, Laid, laid_all, placeables, ranks_own, ranks_beyond, ranks_apart, ranks_total, ranks_same, ranks_more, leaves_span}
use Rattle.pieces.proofs.EqualLeaves.{laid_local}

-- The weights of idle leaves.
idle_weights : (n : ℕ) (D : List ℕ) → ((i : ℕ) → i < n → get_or D i 0 ≡ 0) → (weight n D 0 ≡ n) × ((x : ℕ) → (x ≡ 0 → ⊥) → weight n D x ≡ 0)
unfolding weight
idle_weights zero D z = (refl, λ x n. refl)
idle_weights (suc n) D z =
    let r = idle_weights n D (λ i h. z i (omega arith)) in
    let e = z n (omega arith) in
    (rw e (omega (arith, r.0)), λ x m. rw (e, ne_eqb 0 x (λ q. m (sym q))) (omega (arith, r.1 x m)))

-- No leaf holds a name above the largest.
pub largest_above : (n : ℕ) (B : List ℕ) (x : ℕ) → largest_name n B < x → weight n B x ≡ 0
unfolding largest_name weight
largest_above zero B x h = refl
largest_above (suc n) B x h = rw (ne_eqb (get_or B n 0) x (λ e. omega arith)) (omega (arith, largest_above n B x (omega arith)))

-- Names above it may be looked at too.
pub streams_among : (C : ℕ) (B : List ℕ) (N : ℕ) → largest_name C B ≤ N → ranks (weight C B) (rising 1 N) C ≡ streams C B
streams_among C B N h =
    let e : N ≡ largest_name C B + (N - largest_name C B) = omega arith in
    rw e (ranks_more (weight C B) (largest_name C B) (N - largest_name C B) (λ y l. largest_above C B y (omega arith)) C)

module _ (C : ℕ) (B : List ℕ) (few : C ≤ 4095) (long : C ≤ length B) where
  idle_leaf : (i : ℕ) → i < C → get_or (idle C B) i 0 ≡ 0
  idle_leaf i h = fill_in B 0 C 0 i (omega arith) (omega arith) (omega arith)

  sound : good C (idle C B) ≡ true
  sound = good_intro C (idle C B) (idle_good C (idle C B) idle_leaf few)

  -- The idle leaves and the streams make up the board.
  whole : weight C B 0 + total (streams C B) ≡ C
  whole = omega (arith, ranks_total (weight C B) (largest_name C B) C (weight_le C B), leaves_span C (largest_name C B) B (omega arith))

  free : (weight C (idle C B) 0 ≡ C) × ((x : ℕ) → (x ≡ 0 → ⊥) → weight C (idle C B) x ≡ 0)
  free = idle_weights C (idle C B) idle_leaf

  -- Streams with names of their own, for which C leaves are enough, can be added to idle leaves one after the other,
  pub idle_placeable : (ss : List Stream) → Apart ss → total ss ≤ C → Placeables C (idle C B) ss
  idle_placeable ss apart enough =
      placeables C few ss (idle C B) (omega (arith, length_fill B 0 C 0)) sound apart (λ x n h. free.1 x n) (omega (arith, free.0))

  -- and make a good board, on which each name has what they give it.
  pub idle_laid : (ss : List Stream) → Placeables C (idle C B) ss
      → (good C (all_placed C (idle C B) ss) ≡ true) × ((x : ℕ) → (x ≡ 0 → ⊥) → weight C (all_placed C (idle C B) ss) x ≡ held_of x ss)
  idle_laid ss may = let r = laid_all C ss (idle C B) sound may in (r.sound, λ x n. omega (arith, r.weights x n, free.1 x n))

  -- Each of its streams can be added in its turn.
  pub fresh_placeable : Placeables C (idle C B) (streams C B)
  fresh_placeable = idle_placeable (streams C B) (ranks_apart (weight C B) (largest_name C B) C) (omega (arith, whole))

  all : Laid C (idle C B) (fresh C B) (streams C B)
  all = laid_all C (streams C B) (idle C B) sound fresh_placeable

  -- It has as many entries,
  pub fresh_length : length (fresh C B) ≡ length B
  fresh_length = all.size ∙ length_fill B 0 C 0

  -- those beyond the leaves as they were.
  pub fresh_beyond : (i : ℕ) → C ≤ i → get_or (fresh C B) i 0 ≡ get_or B i 0
  fresh_beyond i h = all.beyond i h ∙ fill_out B 0 C 0 i (λ p q. omega arith)

  -- It is good.
  pub fresh_good : good C (fresh C B) ≡ true
  fresh_good = all.sound

  -- Every stream keeps its weight, and as many leaves are idle.
  pub fresh_weights : (x : ℕ) → weight C (fresh C B) x ≡ weight C B x
  fresh_weights x = elim (ℕ_discrete x 0) [
    | yes e ↦ rw e (omega (arith, all.idle, free.0, whole))
    | no e ↦ elim (dec_lt (largest_name C B) x) [
      | yes l ↦ omega (arith, all.weights x e, free.1 x e, ranks_beyond (weight C B) (largest_name C B) C x l, largest_above C B x l)
      | no l ↦ omega (arith, all.weights x e, free.1 x e, ranks_own (weight C B) (largest_name C B) C x (omega arith) (omega arith) (weight_le C B x))
    ]
  ]

-- Equal streams and weights give equal leaves, whatever boards they stood on.
pub fresh_same : (C : ℕ) (B B'' : List ℕ) → C ≤ length B → C ≤ length B'' → ((x : ℕ) → (x ≡ 0 → ⊥) → weight C B x ≡ weight C B'' x)
    → (i : ℕ) → i < C → get_or (fresh C B) i 0 ≡ get_or (fresh C B'') i 0
fresh_same C B B'' long long' same =
    let N = largest_name C B + largest_name C B'' in
    let ss : streams C B ≡ streams C B'' =
    sym (streams_among C B N (omega arith)) ∙ ranks_same (weight C B) (weight C B'') same N C ∙ streams_among C B'' N (omega arith) in
    rw ss (laid_local C (streams C B'') (idle C B) (idle C B'') (record {
      long = (omega (arith, length_fill B 0 C 0), omega (arith, length_fill B'' 0 C 0));
      leaf = λ i h. fill_in B 0 C 0 i (omega arith) (omega arith) (omega arith) ∙ sym (fill_in B'' 0 C 0 i (omega arith) (omega arith) (omega arith));
    })).leaf

-- Doing it again changes nothing.
pub fresh_again : (C : ℕ) (B : List ℕ) → C ≤ 4095 → C ≤ length B → fresh C (fresh C B) ≡ fresh C B
fresh_again C B few long =
    let l = fresh_length C B few long in
    let long' : C ≤ length (fresh C B) = omega arith in
    ext_get_or 0 (fresh C (fresh C B)) (fresh C B) (fresh_length C (fresh C B) few long') (λ i h. elim (dec_lt i C) [
      | yes c ↦ fresh_same C (fresh C B) B long' long (λ x n. fresh_weights C B few long x) i c
      | no c ↦ fresh_beyond C (fresh C B) few long' i (omega arith)
    ])
