-- Laying a board out afresh, as the code does it: the names that have a weight are listed, the heaviest weights have their turn first, and each stream is placed in
-- its turn. Assumes nothing.
use mathlib.Core.Path.{◌≡◌, refl, sym, ap, ◌∙◌, fun_ext}
use mathlib.Core.Bool.{Bool, true, cond}
use mathlib.Core.List.{List, [], ◌∷◌, ◌++◌, append-nil}
use Prim.Native.Nat.{ℕ, zero, suc, ◌+◌, ◌-◌, ◌≤◌, ◌<◌}
use native.Mathlib.Numerals.{add-one}
use native.Mathlib.Omega.{arith}
use native.Mathlib.Decide.{dec_lt, ℕ_discrete}
use lib.Dec.{ltb, eqb}
use lib.ListN.{length, get_or, set, take, drop, length-append, length-set, drop_of_length-le}
use lib.Seq.{length-take-le, take-suc-set, append_snoc, drop-cons}
use borrow.Author.Tests.{eq-eqb, ne_eqb, lt-ltb, le-ltb, ltb-true}
use Rattle.general.proofs.Laws.{by_bool}
use Rattle.names.specs.Table.{number_under}
use Rattle.names.proofs.Laws.{number_large}
use Rattle.pieces.specs.Board.{good, weight, Weighed}
use Rattle.pieces.specs.Placing.{Placeable, placed}
use Rattle.pieces.specs.Fresh.{rising, rank, ranks, all_placed, Placeables, largest_name, idle, streams, fresh}
use Rattle.pieces.specs.Streams.{Stream}
use Rattle.pieces.specs.Laying.{holding, holders, Heaviest, Layable}
use Rattle.pieces.proofs.Streams.{span, leaves_span}
use Rattle.pieces.proofs.Layouts.{largest_above, streams_among, fresh_placeable}

-- ---- the names that have a weight

module _ (W : ℕ → ℕ) where
  rank_holding : (w : ℕ) (L : List ℕ) → 0 < w → rank W w (holding W L) ≡ rank W w L
  unfolding rank holding
  rank_holding w [] some = refl
  rank_holding w (x ∷ L) some =
      let r = rank_holding w L some in
      elim (ℕ_discrete (W x) 0) [
        | yes e ↦ rw (le-ltb 0 (W x) (omega arith), ne_eqb (W x) w (λ q. omega arith)) r
        | no e ↦ rw (lt-ltb 0 (W x) (omega arith), r) refl
      ]

  ranks_holding : (L : List ℕ) (w : ℕ) → ranks W (holding W L) w ≡ ranks W L w
  unfolding ranks
  ranks_holding L zero = refl
  ranks_holding L (suc w) = rw (rank_holding (suc w) L (omega arith), ranks_holding L w) refl

  -- There are no more of them than their weights together.
  holding_few : (x n : ℕ) → length (holding W (rising x n)) ≤ span W x n
  unfolding holding rising span
  holding_few x zero = omega arith
  holding_few x (suc n) = elim (ℕ_discrete (W x) 0) [
    | yes e ↦ rw (le-ltb 0 (W x) (omega arith)) (omega (arith, holding_few (suc x) n))
    | no e ↦ rw (lt-ltb 0 (W x) (omega arith)) (omega (arith, holding_few (suc x) n))
  ]

-- ---- listing them

module _ (M : List ℕ) where
  abbrev W : ℕ → ℕ
  W = number_under M

  -- What is listed, and what is still to be looked at from x on.
  pub record Listing (N : List ℕ) (n x : ℕ) : Type 0 where
    pub from : (0 < x) × (x ≤ 65536)
    pub long : n ≤ length N
    pub all : take n N ++ holding W (rising x (65536 - x)) ≡ holders M

  pub listing_none : (N : List ℕ) → Listing N 0 1
  unfolding holders
  listing_none N = record { from = omega arith; long = omega arith; all = refl }

  listing_left : (N : List ℕ) (n x : ℕ) → Listing N n x → n + length (holding W (rising x (65536 - x))) ≡ length (holders M)
  listing_left N n x s =
      omega (arith, ap length s.all, length-append (take n N) (holding W (rising x (65536 - x))), length-take-le n N s.long)

  module _ (N : List ℕ) (n x : ℕ) (s : Listing N n x) (l : x < 65536) where
    abbrev rest : List ℕ
    rest = holding W (rising (suc x) (65535 - x))

    here : holding W (rising x (65536 - x)) ≡ cond (ltb 0 (W x)) (x ∷ rest) rest
    unfolding holding rising
    here = let e : 65536 - x ≡ suc (65535 - x) = omega arith in rw e refl

    -- There is a place for each.
    pub listing_place : length (holders M) ≤ 4095 → 0 < W x → n < 4095
    listing_place few h = let e : holding W (rising x (65536 - x)) ≡ x ∷ rest = here ∙ rw (lt-ltb 0 (W x) h) refl in omega (arith, listing_left N n x s, ap length e)

    pub listing_next : length N ≡ 4095 → length (holders M) ≤ 4095 → Listing (cond (ltb 0 (W x)) (set N n x) N) (cond (ltb 0 (W x)) (suc n) n) (x + 1)
    listing_next size few =
        let e : 65536 - (x + 1) ≡ 65535 - x = omega arith in
        let f : x + 1 ≡ suc x = omega arith in
        by_bool (ltb 0 (W x))
        (λ t.
        let h = listing_place few (ltb-true 0 (W x) t) in
        rw t (record {
          from = omega (arith, s.from);
          long = omega (arith, length-set N n x);
          all = rw (e, f, take-suc-set N n x (omega arith)) (append_snoc (take n N) x rest ∙ ap (λ (L : List ℕ). take n N ++ L) (sym (here ∙ rw t refl)) ∙ s.all);
        }))
        (λ t. rw t (record {
          from = omega (arith, s.from);
          long = s.long;
          all = rw (e, f) (ap (λ (L : List ℕ). take n N ++ L) (sym (here ∙ rw t refl)) ∙ s.all);
        }))

  pub listing_all : (N : List ℕ) (n x : ℕ) → Listing N n x → 65536 ≤ x → take n N ≡ holders M
  unfolding holding rising
  listing_all N n x s h = let e : 65536 - x ≡ 0 = omega arith in sym (append-nil (take n N)) ∙ (rw e at s.all)

-- ---- the heaviest

module _ (W : ℕ → ℕ) (L : List ℕ) where
  rank_empty : (w : ℕ) (K : List ℕ) → ((i : ℕ) → i < length K → W (get_or K i 0) ≡ w → ⊥) → rank W w K ≡ []
  unfolding rank
  rank_empty w [] h = refl
  rank_empty w (x ∷ K) h = rw (ne_eqb (W x) w (h 0 (omega arith))) (rank_empty w K (λ i l. h (suc i) (omega arith)))

  -- Weights that no name has may be passed over.
  ranks_skip : (w v : ℕ) → v ≤ w → ((i : ℕ) → i < length L → v < W (get_or L i 0) → W (get_or L i 0) ≤ w → ⊥) → ranks W L w ≡ ranks W L v
  unfolding ranks
  ranks_skip zero v h none = let e : v ≡ 0 = omega arith in rw e refl
  ranks_skip (suc w) v h none = elim (ℕ_discrete v (suc w)) [
    | yes e ↦ rw e refl
    | no e ↦ rw (rank_empty (suc w) L (λ i l q. none i l (omega arith) (omega arith))) (ranks_skip w v (omega arith) (λ i l p q. none i l p (omega arith)))
  ]

pub heaviest_next : (W : ℕ → ℕ) (N : List ℕ) (w v : ℕ) → Heaviest W N (length N) (suc w) v → ranks W N w ≡ ranks W N v
heaviest_next W N w v s = ranks_skip W N w v (omega (arith, s.below)) (λ i l p q.
    let m = s.most i l in
    omega (arith, m (omega arith)))

-- ---- a stream's turn

module _ (C : ℕ) (W : ℕ → ℕ) (w : ℕ) (L : List ℕ) where
  -- What is left from the name i on.
  abbrev pub left : ℕ → List Stream
  left i = rank W w (drop i L)

  pub left_none : (D : List ℕ) (i : ℕ) → length L ≤ i → D ≡ all_placed C D (left i)
  unfolding all_placed rank
  left_none D i h = rw (drop_of_length-le L h) refl

  module _ (D : List ℕ) (i : ℕ) (h : i < length L) where
    abbrev x : ℕ
    x = get_or L i 0

    this : left i ≡ cond (eqb (W x) w) (record { name = x; weight = w } ∷ left (i + 1)) (left (i + 1))
    unfolding rank
    this = rw (add-one i, drop-cons L i 0 h) refl

    pub turn_placeable : Placeables C D (left i) → W x ≡ w → Placeable C D x w
    unfolding Placeables
    turn_placeable p e = let q : Placeables C D (record { name = x; weight = w } ∷ left (i + 1)) = rw (this, eq-eqb (W x) w e) at p in q.0

    pub turn_rest : Placeables C D (left i) → Placeables C (cond (eqb (W x) w) (placed C D x w) D) (left (i + 1))
    unfolding Placeables
    turn_rest p = by_bool (eqb (W x) w)
        (λ t. let q : Placeables C D (record { name = x; weight = w } ∷ left (i + 1)) = rw (this, t) at p in rw t q.2)
        (λ f. let q : Placeables C D (left (i + 1)) = rw (this, f) at p in rw f q)

    pub turn_laid : all_placed C (cond (eqb (W x) w) (placed C D x w) D) (left (i + 1)) ≡ all_placed C D (left i)
    unfolding all_placed
    turn_laid = rw this (by_bool (eqb (W x) w) (λ t. rw t refl) (λ f. rw f refl))

-- ---- a weight's turn

laid_append : (C : ℕ) (D : List ℕ) (ss ts : List Stream) → all_placed C D (ss ++ ts) ≡ all_placed C (all_placed C D ss) ts
unfolding all_placed
laid_append C D [] ts = refl
laid_append C D (s ∷ ss) ts = laid_append C (placed C D s.name s.weight) ss ts

placeables_split : (C : ℕ) (D : List ℕ) (ss ts : List Stream) → Placeables C D (ss ++ ts) → Placeables C D ss × Placeables C (all_placed C D ss) ts
unfolding Placeables all_placed
placeables_split C D [] ts p = (tt, p)
placeables_split C D (s ∷ ss) ts p =
    let r = placeables_split C (placed C D s.name s.weight) ss ts p.2 in
    ((p.0, p.1, r.0), r.1)

module _ (C : ℕ) (W : ℕ → ℕ) (L D : List ℕ) where
  pub weight_turn : (w : ℕ) → 0 < w → Placeables C D (ranks W L w) → Placeables C D (rank W w L)
  unfolding ranks
  weight_turn zero h p = absurd (omega arith)
  weight_turn (suc w) h p = (placeables_split C D (rank W (suc w) L) (ranks W L w) p).0

  pub weight_next : (w v : ℕ) → 0 < w → Heaviest W L (length L) w v → Placeables C D (ranks W L w)
      → Placeables C (all_placed C D (rank W w L)) (ranks W L v) × (all_placed C (all_placed C D (rank W w L)) (ranks W L v) ≡ all_placed C D (ranks W L w))
  unfolding ranks
  weight_next zero v h s p = absurd (omega arith)
  weight_next (suc w) v h s p = rw (← heaviest_next W L w v s) (
    (placeables_split C D (rank W (suc w) L) (ranks W L w) p).1,
    sym (laid_append C D (rank W (suc w) L) (ranks W L w)),
  )

-- the last of them
pub ranks_none : (C : ℕ) (W : ℕ → ℕ) (L D : List ℕ) (w : ℕ) → w ≡ 0 → D ≡ all_placed C D (ranks W L w)
unfolding all_placed ranks
ranks_none C W L D w e = rw e refl

-- ---- all of it

-- The names on leaves of 16 bits.
largest_leaf : (N n : ℕ) (B : List ℕ) → ((i : ℕ) → get_or B i 0 ≤ N) → largest_name n B ≤ N
unfolding largest_name
largest_leaf N zero B h = omega arith
largest_leaf N (suc n) B h = omega (arith, largest_leaf N n B h, h n)

module _ (C : ℕ) (B M : List ℕ) {r : Bool} (few : C ≤ 4095) (long : C ≤ length B) (leaf : (i : ℕ) → get_or B i 0 < 65536) (found : Weighed C B M r) (sound : good C B ≡ true) where
  highest : largest_name C B ≤ 65535
  highest = largest_leaf 65535 C B (λ i. omega (arith, leaf i))

  weighs : number_under M ≡ weight C B
  weighs = fun_ext (λ x. elim (dec_lt x 65536) [
    | yes l ↦ found.weights (found.test ∙ sound) x l
    | no l ↦ omega (arith, number_large M found.table x (omega arith), largest_above C B x (omega (arith, highest)))
  ])

  pub holders_few : length (holders M) ≤ 4095
  unfolding holders
  holders_few = rw weighs (omega (arith, holding_few (weight C B) 1 65535, leaves_span C 65535 B highest))

  holders_streams : ranks (number_under M) (holders M) C ≡ streams C B
  unfolding holders
  holders_streams = ranks_holding (number_under M) (rising 1 65535) C ∙ ap (λ (W : ℕ → ℕ). ranks W (rising 1 65535) C) weighs ∙ streams_among C B 65535 highest

  pub layable : (D L : List ℕ) → L ≡ holders M → D ≡ idle C B → Layable C D M L
  layable D L e f = record {
    small = few;
    sizes = found.table;
    few = rw e holders_few;
    ready = rw (e, f, holders_streams) (fresh_placeable C B few long);
  }

  pub laid_fresh : (D L : List ℕ) → L ≡ holders M → D ≡ idle C B → all_placed C D (ranks (number_under M) L C) ≡ fresh C B
  laid_fresh D L e f = rw (e, f, holders_streams) refl
