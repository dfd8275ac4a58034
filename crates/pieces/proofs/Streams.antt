-- Streams placed one after the other: what a list of them gives each name, that each can be placed in its turn, and the board that they make. Assumes nothing.
use mathlib.Core.Path.{◌≡◌, refl, sym, ap, ◌∙◌}
use mathlib.Core.Bool.{true, cond}
use mathlib.Core.List.{List, [], ◌∷◌, ◌++◌}
use Prim.Native.Nat.{ℕ, zero, suc, ◌+◌, ◌≤◌, ◌<◌}
use native.Mathlib.Nat.{zero-add}
use native.Mathlib.Omega.{arith}
use native.Mathlib.Decide.{dec_lt, ℕ_discrete}
use lib.Dec.{leb, eqb}
use lib.ListN.{length, get_or}
use borrow.Author.Tests.{eq-eqb, ne_eqb, le-leb, lt-leb}
use Rattle.general.specs.Tests.{one}
use Rattle.general.proofs.Laws.{by_bool}
use Rattle.pieces.specs.Board.{good, weight}
use Rattle.pieces.specs.Placing.{Placeable, placed}
use Rattle.pieces.specs.Fresh.{rising, rank, ranks, all_placed, Placeables, largest_name}
use Rattle.pieces.specs.Streams.{Stream, held_of, total}
use Rattle.pieces.proofs.AfterAdd.{placed_length, placed_good, placed_weight, placed_idle, placed_others, placed_beyond}

-- ---- a list of streams

-- Each has a name and a weight, and no two have one name.
unfoldable pub Apart : List Stream → Type 0
Apart [] = Unit {0}
Apart (s ∷ ss) = (s.name ≡ 0 → ⊥) × (0 < s.weight) × (held_of s.name ss ≡ 0) × Apart ss

held_of_append : (x : ℕ) (ss ts : List Stream) → held_of x (ss ++ ts) ≡ held_of x ss + held_of x ts
unfolding held_of
held_of_append x [] ts = omega arith
held_of_append x (s ∷ ss) ts = omega (arith, held_of_append x ss ts)

total_append : (ss ts : List Stream) → total (ss ++ ts) ≡ total ss + total ts
unfolding total
total_append [] ts = omega arith
total_append (s ∷ ss) ts = omega (arith, total_append ss ts)

apart_append : (ss ts : List Stream) → Apart ss → Apart ts → ((x : ℕ) → 0 < held_of x ss → held_of x ts ≡ 0) → Apart (ss ++ ts)
unfolding Apart held_of
apart_append [] ts p q none = q
apart_append (s ∷ ss) ts p q none = (
  p.0,
  p.1,
  omega (arith, held_of_append s.name ss ts, p.2, none s.name (rw (eq-eqb s.name s.name refl) (omega (arith, p.1)))),
  apart_append ss ts p.3 q (λ x h. none x (omega arith)),
)

-- ---- placed on a board

-- What they make of D.
pub record Laid (C : ℕ) (D E : List ℕ) (ss : List Stream) : Type 0 where
  pub size : length E ≡ length D
  pub sound : good C E ≡ true
  pub beyond : (i : ℕ) → C ≤ i → get_or E i 0 ≡ get_or D i 0
  pub weights : (x : ℕ) → (x ≡ 0 → ⊥) → weight C E x ≡ weight C D x + held_of x ss
  pub idle : weight C E 0 + total ss ≡ weight C D 0

module _ (C : ℕ) where
  pub laid_all : (ss : List Stream) (D : List ℕ) → good C D ≡ true → Placeables C D ss → Laid C D (all_placed C D ss) ss
  unfolding all_placed Placeables held_of total
  laid_all [] D sound p = record { size = refl; sound = sound; beyond = λ i h. refl; weights = λ x n. omega arith; idle = omega arith }
  laid_all (s ∷ ss) D sound p =
      let may = p.0 in
      let r = laid_all ss (placed C D s.name s.weight) (placed_good C D s.name s.weight may) p.2 in
      record {
        size = r.size ∙ placed_length C D s.name s.weight may;
        sound = r.sound;
        beyond = λ i h. r.beyond i h ∙ placed_beyond C D s.name s.weight may i h;
        weights = λ x n. elim (ℕ_discrete s.name x) [
          | yes e ↦ rw (eq-eqb s.name x e) (omega (arith, r.weights x n, ap (λ (y : ℕ). weight C (placed C D s.name s.weight) y) e, placed_weight C D s.name s.weight may, may.absent, ap (λ (y : ℕ). weight C D y) e))
          | no e ↦ rw (ne_eqb s.name x e) (omega (arith, r.weights x n, placed_others C D s.name s.weight may x n (λ q. e (sym q))))
        ];
        idle = omega (arith, r.idle, placed_idle C D s.name s.weight may);
      }

  -- Streams with names of their own that the board does not hold, and room for all of them.
  pub placeables : C ≤ 4095 → (ss : List Stream) (D : List ℕ) → C ≤ length D → good C D ≡ true → Apart ss
      → ((x : ℕ) → (x ≡ 0 → ⊥) → 0 < held_of x ss → weight C D x ≡ 0) → total ss ≤ weight C D 0 → Placeables C D ss
  unfolding Placeables Apart held_of total
  placeables few [] D long sound apart none room = tt
  placeables few (s ∷ ss) D long sound apart none room =
      let x = s.name in
      let w = s.weight in
      let may : Placeable C D x w = record {
        small = few;
        long = long;
        sound = sound;
        named = apart.0;
        absent = none x apart.0 (rw (eq-eqb x x refl) (omega (arith, apart.1)));
        room = omega arith;
      } in (
        may,
        apart.1,
        placeables few ss (placed C D x w) (omega (arith, placed_length C D x w may)) (placed_good C D x w may) apart.3
            (λ y n h.
            let other : y ≡ x → ⊥ = λ e. let z : held_of y ss ≡ 0 = ap (λ (i : ℕ). held_of i ss) e ∙ apart.2 in omega arith in
            placed_others C D x w may y n other ∙ none y n (omega arith))
            (omega (arith, placed_idle C D x w may)),
      )

-- ---- the streams by weight and name

module _ (W : ℕ → ℕ) where
  rank_none : (w y x n : ℕ) → (x ≤ y → y < x + n → W y ≡ w → ⊥) → held_of y (rank W w (rising x n)) ≡ 0
  unfolding held_of rank rising
  rank_none w y x zero h = refl
  rank_none w y x (suc n) h = elim (ℕ_discrete (W x) w) [
    | yes e ↦ rw (eq-eqb (W x) w e, ne_eqb x y (λ q. h (omega arith) (omega arith) (ap W (sym q) ∙ e))) (omega (arith, rank_none w y (suc x) n (λ p l. h (omega arith) (omega arith))))
    | no e ↦ rw (ne_eqb (W x) w e) (rank_none w y (suc x) n (λ p l. h (omega arith) (omega arith)))
  ]

  rank_own : (y x n : ℕ) → x ≤ y → y < x + n → held_of y (rank W (W y) (rising x n)) ≡ W y
  unfolding held_of rank rising
  rank_own y x zero p l = absurd (omega arith)
  rank_own y x (suc n) p l = elim (ℕ_discrete x y) [
    | yes e ↦ rw (eq-eqb (W x) (W y) (ap W e), eq-eqb x y e) (omega (arith, rank_none (W y) y (suc x) n (λ q k r. omega arith)))
    | no e ↦ by_bool (eqb (W x) (W y))
        (λ t. rw (t, ne_eqb x y e) (omega (arith, rank_own y (suc x) n (omega arith) (omega arith))))
        (λ f. rw f (rank_own y (suc x) n (omega arith) (omega arith)))
  ]

  rank_apart : (w x n : ℕ) → 0 < w → 0 < x → Apart (rank W w (rising x n))
  unfolding Apart rank rising
  rank_apart w x zero some named = tt
  rank_apart w x (suc n) some named =
      let r = rank_apart w (suc x) n some (omega arith) in
      by_bool (eqb (W x) w) (λ t. rw t ((λ e. omega arith), some, rank_none w x (suc x) n (λ p l e. omega arith), r)) (λ f. rw f r)

  module _ (N : ℕ) where
    -- a heavier stream is not among them,
    ranks_above : (w y : ℕ) → w < W y → held_of y (ranks W (rising 1 N) w) ≡ 0
    unfolding held_of ranks
    ranks_above zero y h = refl
    ranks_above (suc w) y h =
        omega (arith, held_of_append y (rank W (suc w) (rising 1 N)) (ranks W (rising 1 N) w), rank_none (suc w) y 1 N (λ p l e. omega arith), ranks_above w y (omega arith))

    -- and any other has its weight there.
    pub ranks_own : (w y : ℕ) → 0 < y → y ≤ N → W y ≤ w → held_of y (ranks W (rising 1 N) w) ≡ W y
    unfolding held_of ranks
    ranks_own zero y p l h = omega arith
    ranks_own (suc w) y p l h =
        let s = held_of_append y (rank W (suc w) (rising 1 N)) (ranks W (rising 1 N) w) in
        elim (ℕ_discrete (W y) (suc w)) [
          | yes e ↦
              let own : held_of y (rank W (suc w) (rising 1 N)) ≡ W y = rw (← e) (rank_own y 1 N p (omega arith)) in
              omega (arith, ranks_above w y (omega arith))
          | no e ↦ omega (arith, rank_none (suc w) y 1 N (λ q k r. e r), ranks_own w y p l (omega arith))
        ]

    pub ranks_beyond : (w y : ℕ) → N < y → held_of y (ranks W (rising 1 N) w) ≡ 0
    unfolding held_of ranks
    ranks_beyond zero y h = refl
    ranks_beyond (suc w) y h =
        omega (arith, held_of_append y (rank W (suc w) (rising 1 N)) (ranks W (rising 1 N) w), rank_none (suc w) y 1 N (λ p l e. omega arith), ranks_beyond w y h)

    pub ranks_apart : (w : ℕ) → Apart (ranks W (rising 1 N) w)
    unfolding Apart ranks
    ranks_apart zero = tt
    ranks_apart (suc w) =
        apart_append (rank W (suc w) (rising 1 N)) (ranks W (rising 1 N) w) (rank_apart (suc w) 1 N (omega arith) (omega arith)) (ranks_apart w)
        (λ y h. elim (ℕ_discrete (W y) (suc w)) [
          | yes e ↦ ranks_above w y (omega arith)
          | no e ↦ absurd (omega (arith, rank_none (suc w) y 1 N (λ q k r. e r)))
        ])

-- ---- all the weights together

-- g x + .. + g (x + n - 1)
unfoldable pub span : (ℕ → ℕ) → ℕ → ℕ → ℕ
span g x zero = 0
span g x (suc n) = g x + span g (suc x) n

span_add : (f g h : ℕ → ℕ) → ((y : ℕ) → f y ≡ g y + h y) → (x n : ℕ) → span f x n ≡ span g x n + span h x n
unfolding span
span_add f g h e x zero = refl
span_add f g h e x (suc n) = omega (arith, e x, span_add f g h e (suc x) n)

span_same : (f g : ℕ → ℕ) → ((y : ℕ) → f y ≡ g y) → (x n : ℕ) → span f x n ≡ span g x n
unfolding span
span_same f g e x zero = refl
span_same f g e x (suc n) = omega (arith, e x, span_same f g e (suc x) n)

span_none : (g : ℕ → ℕ) (x n : ℕ) → ((y : ℕ) → x ≤ y → y < x + n → g y ≡ 0) → span g x n ≡ 0
unfolding span
span_none g x zero h = refl
span_none g x (suc n) h = omega (arith, h x (omega arith) (omega arith), span_none g (suc x) n (λ y p l. h y (omega arith) (omega arith)))

span_one : (v x n : ℕ) → x ≤ v → v < x + n → span (λ y. one (eqb v y)) x n ≡ 1
unfolding span
span_one v x zero p l = absurd (omega arith)
span_one v x (suc n) p l = elim (ℕ_discrete v x) [
  | yes e ↦ rw (eq-eqb v x e) (omega (arith, span_none (λ y. one (eqb v y)) (suc x) n (λ y q k. rw (ne_eqb v y (λ r. omega arith)))))
  | no e ↦ rw (ne_eqb v x e) (omega (arith, span_one v (suc x) n (omega arith) (omega arith)))
]

-- Every leaf is idle or holds one name.
pub leaves_span : (n N : ℕ) (B : List ℕ) → largest_name n B ≤ N → weight n B 0 + span (weight n B) 1 N ≡ n
unfolding weight largest_name
leaves_span zero N B h = omega (arith, span_none (weight 0 B) 1 N (λ y p l. refl))
leaves_span (suc n) N B h =
    let v = get_or B n 0 in
    let s = span_add (weight (suc n) B) (weight n B) (λ y. one (eqb v y)) (λ y. refl) 1 N in
    let r = leaves_span n N B (omega arith) in
    elim (ℕ_discrete v 0) [
      | yes e ↦ rw (eq-eqb v 0 e) (omega (arith, span_none (λ y. one (eqb v y)) 1 N (λ y p l. rw (ne_eqb v y (λ q. omega arith)))))
      | no e ↦ rw (ne_eqb v 0 e) (omega (arith, span_one v 1 N (omega arith) (omega arith)))
    ]

module _ (W : ℕ → ℕ) where
  rank_total : (w x n : ℕ) → total (rank W w (rising x n)) ≡ span (λ y. cond (eqb (W y) w) w 0) x n
  unfolding total rank rising span
  rank_total w x zero = refl
  rank_total w x (suc n) =
      let r = rank_total w (suc x) n in
      by_bool (eqb (W x) w) (λ t. rw t (omega arith)) (λ f. rw f (omega arith))

  up_to : ℕ → ℕ → ℕ
  up_to w y = cond (leb (W y) w) (W y) 0

  up_one : (w y : ℕ) → up_to (suc w) y ≡ cond (eqb (W y) (suc w)) (suc w) 0 + up_to w y
  unfolding up_to
  up_one w y = elim (ℕ_discrete (W y) (suc w)) [
    | yes e ↦ rw (le-leb (W y) (suc w) (omega arith), eq-eqb (W y) (suc w) e, lt-leb (W y) w (omega arith)) (omega arith)
    | no e ↦ rw (ne_eqb (W y) (suc w) e) (elim (dec_lt w (W y)) [
      | yes l ↦ rw (lt-leb (W y) (suc w) (omega arith), lt-leb (W y) w l) refl
      | no l ↦ rw (le-leb (W y) (suc w) (omega arith), le-leb (W y) w (omega arith)) (omega arith)
    ])
  ]

  ranks_up : (N w : ℕ) → total (ranks W (rising 1 N) w) ≡ span (up_to w) 1 N
  unfolding total ranks up_to
  ranks_up N zero = sym (span_none (up_to 0) 1 N (λ y p l. elim (ℕ_discrete (W y) 0) [
    | yes e ↦ rw (e) refl
    | no e ↦ rw (lt-leb (W y) 0 (omega arith)) refl
  ]))
  ranks_up N (suc w) =
      omega (arith, total_append (rank W (suc w) (rising 1 N)) (ranks W (rising 1 N) w), rank_total (suc w) 1 N, ranks_up N w, span_add (up_to (suc w)) (λ y. cond (eqb (W y) (suc w)) (suc w) 0) (up_to w) (up_one w) 1 N)

  pub ranks_total : (N w : ℕ) → ((y : ℕ) → W y ≤ w) → total (ranks W (rising 1 N) w) ≡ span W 1 N
  unfolding up_to
  ranks_total N w h = ranks_up N w ∙ span_same (up_to w) W (λ y. rw (le-leb (W y) w (h y))) 1 N

-- ---- which names are looked at

module _ (W U : ℕ → ℕ) (same : (y : ℕ) → (y ≡ 0 → ⊥) → W y ≡ U y) where
  rank_same : (w x n : ℕ) → 0 < x → rank W w (rising x n) ≡ rank U w (rising x n)
  unfolding rank rising
  rank_same w x zero h = refl
  rank_same w x (suc n) h = rw (same x (λ e. omega arith), rank_same w (suc x) n (omega arith)) refl

  pub ranks_same : (N w : ℕ) → ranks W (rising 1 N) w ≡ ranks U (rising 1 N) w
  unfolding ranks
  ranks_same N zero = refl
  ranks_same N (suc w) = rw (rank_same (suc w) 1 N (omega arith), ranks_same N w) refl

-- Names of no weight may be left out: those beyond the first n,
module _ (W : ℕ → ℕ) where
  rank_no : (w x m : ℕ) → 0 < w → ((y : ℕ) → x ≤ y → W y ≡ 0) → rank W w (rising x m) ≡ []
  unfolding rank rising
  rank_no w x zero some none = refl
  rank_no w x (suc m) some none =
      rw (ne_eqb (W x) w (λ e. omega (arith, none x (omega arith)))) (rank_no w (suc x) m some (λ y h. none y (omega arith)))

  rank_more : (w x n m : ℕ) → 0 < w → ((y : ℕ) → x + n ≤ y → W y ≡ 0) → rank W w (rising x (n + m)) ≡ rank W w (rising x n)
  unfolding rank rising
  rank_more w x zero m some none = rw (zero-add m) (rank_no w x m some (λ y h. none y (omega arith)))
  rank_more w x (suc n) m some none = let e : suc n + m ≡ suc (n + m) = omega arith in rw (e, rank_more w (suc x) n m some (λ y h. none y (omega arith))) refl

  pub ranks_more : (n m : ℕ) → ((y : ℕ) → n < y → W y ≡ 0) → (w : ℕ) → ranks W (rising 1 (n + m)) w ≡ ranks W (rising 1 n) w
  unfolding ranks
  ranks_more n m none zero = refl
  ranks_more n m none (suc w) = rw (rank_more (suc w) 1 n m (omega arith) (λ y h. none y (omega arith)), ranks_more n m none w) refl
