-- How often a stream is served on a good board: in slots in a row of a round, and in a whole round. Assumes nothing.
use mathlib.Core.Path.{◌≡◌, refl, ap, ◌∙◌}
use mathlib.Core.Bool.{Bool, true, false, ◌&&◌, and-true, and-false}
use mathlib.Core.List.{List, [], ◌∷◌}
use Prim.Native.Nat.{ℕ, zero, suc, ◌+◌, ◌-◌, ◌*◌, ◌%◌, ◌^◌, ◌≤◌, ◌<◌}
use native.Mathlib.Nat.{two-pow-succ}
use native.Mathlib.Omega.{arith}
use native.Mathlib.Decide.{dec_lt, ℕ_discrete}
use lib.Count.{ones}
use lib.Dec.{eqb}
use lib.ListN.{get_or}
use lib.Pow.{pow_pos}
use borrow.Author.Tests.{eq-eqb, ne_eqb, le-leb, lt-leb, lt-ltb, le-ltb}
use Rattle.general.specs.Tests.{one}
use Rattle.sequences.specs.SlotOrder.{digits, Position}
use Rattle.sequences.specs.Serving.{in_run, leaves_from, after_slots, count_list}
use Rattle.sequences.proofs.Laws.{first_position, after_slots_valid, combine}
use Rattle.pieces.specs.Board.{good, weight, piece_count}
use Rattle.pieces.proofs.Laws.{over_pieces, pieces_ones}
use Rattle.calls.proofs.Laws.{leaves_times}
use Rattle.demands.proofs.Windows.{round_window, leaves_within}

-- leaf i holds x
abbrev pub holds : List ℕ → ℕ → ℕ → Bool
holds B x i = eqb (get_or B i 0) x

-- leaf i holds x and is one of the 2 ^ l leaves from a on
abbrev holds_in : List ℕ → ℕ → ℕ → ℕ → ℕ → Bool
holds_in B x a l i = in_run a l i && holds B x i

-- ---- counts over a list

count_split : (f g h : ℕ → Bool) (L : List ℕ) → ((i : ℕ) → one (f i) ≡ one (g i) + one (h i)) → count_list f L ≡ count_list g L + count_list h L
unfolding count_list
count_split f g h [] e = refl
count_split f g h (i ∷ L) e = omega (arith, e i, count_split f g h L e)

count_none : (L : List ℕ) → count_list (λ (i : ℕ). false) L ≡ 0
unfolding count_list
count_none [] = refl
count_none (i ∷ L) = omega (arith, count_none L)

-- ---- tests of a leaf

-- a block is its halves
run_halves : (a l i : ℕ) (b : Bool) → one (in_run a (suc l) i && b) ≡ one (in_run a l i && b) + one (in_run (a + 2 ^ l) l i && b)
run_halves a l i b =
    let z = pow_pos l in
    let w = two-pow-succ l in
    elim (dec_lt i a) [
      | yes p ↦ rw (lt-leb a i p, lt-leb (a + 2 ^ l) i (omega arith)) refl
      | no p ↦ elim (dec_lt i (a + 2 ^ l)) [
        | yes q ↦ rw (le-leb a i (omega arith), lt-ltb i (a + 2 ^ suc l) (omega arith), lt-ltb i (a + 2 ^ l) q, lt-leb (a + 2 ^ l) i q) (omega arith)
        | no q ↦ elim (dec_lt i (a + 2 ^ suc l)) [
          | yes r ↦ rw (le-leb a i (omega arith), lt-ltb i (a + 2 ^ suc l) r, le-ltb i (a + 2 ^ l) (omega arith), le-leb (a + 2 ^ l) i (omega arith), lt-ltb i (a + 2 ^ l + 2 ^ l) (omega arith)) (omega arith)
          | no r ↦ rw (le-leb a i (omega arith), le-ltb i (a + 2 ^ suc l) (omega arith), le-ltb i (a + 2 ^ l) (omega arith), le-leb (a + 2 ^ l) i (omega arith), le-ltb i (a + 2 ^ l + 2 ^ l) (omega arith)) (omega arith)
        ]
      ]
    ]

-- a single leaf
run_leaf : (a i : ℕ) (b : Bool) → (i ≡ a → b ≡ false) → (in_run a 0 i && b) ≡ false
run_leaf a i b h =
    elim (ℕ_discrete i a) [
      | yes r ↦ rw (h r) (and-false (in_run a 0 i))
      | no r ↦ elim (dec_lt i a) [
        | yes p ↦ rw (lt-leb a i p) refl
        | no p ↦ rw (le-leb a i (omega arith), le-ltb i (a + 1) (omega arith)) refl
      ]
    ]

-- a test that holds throughout a run
run_all : (a l i : ℕ) (b : Bool) → (a ≤ i → i < a + 2 ^ l → b ≡ true) → (in_run a l i && b) ≡ in_run a l i
run_all a l i b h =
    elim (dec_lt i a) [
      | yes p ↦ rw (lt-leb a i p) refl
      | no p ↦ elim (dec_lt i (a + 2 ^ l)) [
        | yes q ↦ rw (h (omega arith) q) (and-true (in_run a l i))
        | no q ↦ rw (le-leb a i (omega arith), le-ltb i (a + 2 ^ l) (omega arith)) refl
      ]
    ]

-- ---- a name with leaves has a piece

some_piece : (m w C : ℕ) → zero < w → w ≤ m * C → zero < m
some_piece zero w C h g = omega arith
some_piece (suc m) w C h g = omega arith

-- a piece has at most C leaves
has_pieces : (C : ℕ) (B : List ℕ) (x : ℕ) → C ≤ 4095 → zero < weight C B x → zero < piece_count C B x
has_pieces C B x few held =
    let most = over_pieces C B x (λ a l. 0) 0 1 C (λ a l. refl) (λ a h. refl) (λ a l multiple fits all. omega arith) few in
    some_piece (piece_count C B x) (weight C B x) C held (omega arith)

-- ---- n slots in a row from p, where each run of 2 ^ l leaves is served 2 ^ l * T / K times, up to less than one

module _ (C : ℕ) (B : List ℕ) (x p n : ℕ) (at : Position C p) (K T : ℕ) (some : zero < K)
    (runs : (a l : ℕ) → a % 2 ^ l ≡ 0 → a + 2 ^ l ≤ C
    → (K * count_list (in_run a l) (leaves_from C p n) < 2 ^ l * T + K) × (2 ^ l * T < K * count_list (in_run a l) (leaves_from C p n) + K)) where
  abbrev L : List ℕ
  L = leaves_from C p n

  same : (f g : ℕ → Bool) → ((y : ℕ) → y < C → f y ≡ g y) → count_list f L ≡ count_list g L
  same f g h = leaves_within C p n f g at h

  -- the sum over the pieces of x, each a run
  near_blocks : (K * count_list (holds_in B x 0 12) L ≤ weight C B x * T + piece_count C B x * (K - 1)) × (weight C B x * T ≤ K * count_list (holds_in B x 0 12) L + piece_count C B x * (K - 1))
  near_blocks = over_pieces C B x (λ a l. count_list (holds_in B x a l) L) K T (K - 1)
      (λ a l. count_split (holds_in B x a (suc l)) (holds_in B x a l) (holds_in B x (a + 2 ^ l) l) L (λ y. run_halves a l y (holds B x y)))
      (λ a h. same (holds_in B x a 0) (λ (y : ℕ). false) (λ y q. run_leaf a y (holds B x y) (λ e. ne_eqb (get_or B y 0) x (λ g. h (rw (← e) q) (rw (← e) g)))) ∙ count_none L)
      (λ a l multiple fits all.
      let e : count_list (holds_in B x a l) L ≡ count_list (in_run a l) L = same (holds_in B x a l) (in_run a l) (λ y q. run_all a l y (holds B x y) (λ g h. eq-eqb (get_or B y 0) x (all y g h))) in
      let r = runs a l multiple fits in
      rw e (omega arith))
      (let f = at.few in omega arith)

  near : (K * count_list (holds B x) L ≤ weight C B x * T + piece_count C B x * (K - 1)) × (weight C B x * T ≤ K * count_list (holds B x) L + piece_count C B x * (K - 1))
  near =
      let f = at.few in
      let all : count_list (holds_in B x 0 12) L ≡ count_list (holds B x) L = same (holds_in B x 0 12) (holds B x) (λ y q. rw (le-leb 0 y (omega arith), lt-ltb y 4096 (omega arith)) refl) in
      rw all at near_blocks

  -- a name is served w * T / K times, up to less than one for each of its pieces
  pub stream_near : zero < weight C B x
      → (K * count_list (holds B x) (leaves_from C p n) < weight C B x * T + piece_count C B x * K) × (weight C B x * T < K * count_list (holds B x) (leaves_from C p n) + piece_count C B x * K)
  stream_near held =
      let m = piece_count C B x in
      let r = near in
      let k : K ≡ K - 1 + 1 = omega arith in
      let d : m * K ≡ m * (K - 1 + 1) = ap (λ (y : ℕ). m * y) k in
      let one_piece : zero < m = has_pieces C B x (let f = at.few in omega arith) held in
      omega arith

-- ---- rounds

module _ (C : ℕ) (B : List ℕ) (x : ℕ) (some : zero < C) (few : C < 4096) where
  -- in n slots in a row of a round, from slot i on, C * s is w * n up to less than m * C + w * h, for the weight w, its ones m and the ones h of C
  pub stream_fair : (i n : ℕ) → i + n ≤ C → good C B ≡ true → zero < weight C B x
      → (C * count_list (holds B x) (leaves_from C (after_slots C 1 i) n) < weight C B x * n + (ones (weight C B x) * C + weight C B x * ones C))
      × (weight C B x * n < C * count_list (holds B x) (leaves_from C (after_slots C 1 i) n) + (ones (weight C B x) * C + weight C B x * ones C))
  stream_fair i n within fine held =
      let p = after_slots C 1 i in
      let K = 2 ^ digits C in
      let w = round_window C some few i n within in
      let r = stream_near C B x p n (after_slots_valid C 1 i (first_position C some few)) K w.over (pow_pos (digits C)) w.runs held in
      let t = w.slots in
      rw (← pieces_ones C B x (omega arith) fine) (combine K C w.over (count_list (holds B x) (leaves_from C p n)) (weight C B x) (piece_count C B x) n (ones C) some r.0 r.1 t.0 t.1)

  -- in a whole round a name is served as often as it has leaves
  pub stream_round : count_list (holds B x) (leaves_from C 1 C) ≡ weight C B x
  stream_round = leaves_times C B few x
