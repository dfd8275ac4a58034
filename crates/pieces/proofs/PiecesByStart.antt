-- The pieces of a board by their starts: each is the largest run of one name from its start, and the next starts where it ends. Assumes nothing.
use mathlib.Core.Path.{◌≡◌, refl, sym, ap, subst, ◌∙◌}
use mathlib.Core.Bool.{Bool, true, false, ◌&&◌, and-false}
use mathlib.Core.List.{List, [], ◌++◌, append_assoc, append-nil}
use Prim.Native.Nat.{ℕ, zero, suc, ◌+◌, ◌-◌, ◌*◌, ◌^◌, ◌%◌, ◌≤◌, ◌<◌}
use native.Mathlib.Nat.{zero-add, two-pow-succ, mul-mod_left, mod-eq_of_lt, add-mul-mod_self_right}
use native.Mathlib.Numerals.{add-one}
use native.Mathlib.Omega.{arith}
use native.Mathlib.Decide.{dec_lt}
use lib.Dec.{eqb}
use lib.ListN.{length, get_or, length-append}
use lib.Pow.{pow_pos, pow_mono, mod-mod-pow}
use lib.Seq.{sets}
use borrow.Author.Tests.{eq-eqb, ne_eqb, eqb-true}
use Rattle.general.proofs.Laws.{by_bool, clash, never, and_left, and_right, and_intro, sets_append}
use Rattle.pieces.specs.Board.{whole}
use Rattle.pieces.specs.Halving.{Largest, count_from}
use Rattle.pieces.specs.Listing.{entry, named, named_pieces}
use Rattle.pieces.proofs.Blocks.{whole_elim, whole_intro, whole_high, whole_join, whole_end, beyond}
use Rattle.pieces.proofs.Entries.{whole_counted, leaf_whole, named_past, named_run, named_halves}

-- What is listed on the way from the leaf a to the end of the board, from piece to piece.
pub data Walk (C : ℕ) (B : List ℕ) : ℕ → List ℕ → Type 0 where
  end : {a : ℕ} → C ≤ a → Walk C B a []
  step : {a l : ℕ} {R : List ℕ} → a < C → Largest C B a l → Walk C B (a + 2 ^ l) R → Walk C B a (entry (get_or B a 0) a l ++ R)

multiple_part : (a l m : ℕ) → m ≤ l → a % 2 ^ l ≡ 0 → a % 2 ^ m ≡ 0
multiple_part a l m h e =
    let d : l - m + m ≡ l = omega arith in
    sym (mod-mod-pow a (l - m) m) ∙ ap (λ (n : ℕ). n % 2 ^ m) (ap (λ (k : ℕ). a % 2 ^ k) d ∙ e) ∙ mod-eq_of_lt (pow_pos m)

-- A block of 2^l leaves more than a multiple of 2^(l+1) starts at no such multiple.
upper_odd : (q a l : ℕ) → a ≡ q * 2 ^ suc l → (a + 2 ^ l) % 2 ^ suc l ≡ 0 → ⊥
upper_odd q a l m e =
    let d : a + 2 ^ l ≡ 2 ^ l + q * 2 ^ suc l = omega arith in
    let z : (a + 2 ^ l) % 2 ^ suc l ≡ 2 ^ l =
    ap (λ (n : ℕ). n % 2 ^ suc l) d ∙ add-mul-mod_self_right (2 ^ l) q (2 ^ suc l) ∙ mod-eq_of_lt (omega (arith, two-pow-succ l, pow_pos l))
    in
    omega (arith, z, e, pow_pos l)

module _ (C : ℕ) (B : List ℕ) where
  -- ---- the largest run from a leaf

  whole_part : (x a l m : ℕ) → m ≤ l → whole C B x a l ≡ true → whole C B x a m ≡ true
  whole_part x a l m h t = whole_intro C B x a m (λ i p q. whole_elim C B x a l t i p (omega (arith, pow_mono {i = m} {j = l} h)))

  not_smaller : (a l m : ℕ) → Largest C B a l → Largest C B a m → l < m → ⊥
  not_smaller a l m s t h = clash (whole_part (get_or B a 0) a m (suc l) h t.run) (s.last (multiple_part a m (suc l) h t.multiple))

  largest_one : (a l m : ℕ) → Largest C B a l → Largest C B a m → l ≡ m
  largest_one a l m s t =
      elim (dec_lt l m) [
        | yes h ↦ absurd (not_smaller a l m s t h)
        | no h ↦ elim (dec_lt m l) [
          | yes g ↦ absurd (not_smaller a m l t s g)
          | no g ↦ omega arith
        ]
      ]

  -- The test of a run for the lower half of another: the first part that fails decides.
  module _ (a l z : ℕ) (size : z ≡ 2 ^ l) where
    pub lower_odd : (x : ℕ) → (a % (z + z) ≡ 0 → ⊥) → false ≡ (eqb (a % 2 ^ suc l) 0 && whole C B x (a + 2 ^ l) l)
    lower_odd x n = rw (two-pow-succ l, ← size, ne_eqb (a % (z + z)) 0 n) refl

    pub lower_beyond : (x : ℕ) → C < a + z + z → false ≡ (eqb (a % 2 ^ suc l) 0 && whole C B x (a + 2 ^ l) l)
    lower_beyond x h = rw (beyond C B x (a + 2 ^ l) l (rw (← size) h)) (sym (and-false (eqb (a % 2 ^ suc l) 0)))

    pub lower_counted : (x n : ℕ) → a % (z + z) ≡ 0 → a + z + z ≤ C → n ≡ count_from B x (a + z) z
        → eqb n z ≡ (eqb (a % 2 ^ suc l) 0 && whole C B x (a + 2 ^ l) l)
    lower_counted x n m h c = rw (two-pow-succ l, ← size, eq-eqb (a % (z + z)) 0 m) (whole_counted C B x (a + z) l z n size h c)

  -- One leaf, where there is no next or it holds another name.
  pub largest_end : (a : ℕ) → a < C → C ≤ a + 1 → Largest C B a 0 × (0 < 12)
  largest_end a h g =
      (record { multiple = multiple_part a 0 0 (omega arith) (omega arith); run = leaf_whole C B a h; last = λ e. beyond C B (get_or B a 0) a 1 (omega arith) }, omega arith)

  pub largest_leaf : (a : ℕ) → a < C → (get_or B (a + 1) 0 ≡ get_or B a 0 → ⊥) → Largest C B a 0 × (0 < 12)
  largest_leaf a h n = (
    record {
      multiple = multiple_part a 0 0 (omega arith) (omega arith);
      run = leaf_whole C B a h;
      last = λ e. never (whole C B (get_or B a 0) a 1) (λ t. n (whole_elim C B (get_or B a 0) a 1 t (a + 1) (omega arith) (omega arith)).1);
    },
    omega arith,
  )

  -- A run that is the lower half of another, and one that is not.
  module _ (a l : ℕ) (r : Bool) (is : r ≡ (eqb (a % 2 ^ suc l) 0 && whole C B (get_or B a 0) (a + 2 ^ l) l)) where
    pub lower_more : r ≡ true → whole C B (get_or B a 0) a l ≡ true → (a % 2 ^ (l + 1) ≡ 0) × (whole C B (get_or B a 0) a (l + 1) ≡ true)
    lower_more t w =
        let both = sym is ∙ t in
        let odd = eqb (a % 2 ^ suc l) 0 in
        let high = whole C B (get_or B a 0) (a + 2 ^ l) l in
        rw (add-one l) (eqb-true (a % 2 ^ suc l) 0 (and_left odd high both), whole_join C B (get_or B a 0) a l w (and_right odd high both))

    lower_last : r ≡ false → a % 2 ^ suc l ≡ 0 → whole C B (get_or B a 0) a (suc l) ≡ false
    lower_last f e = never (whole C B (get_or B a 0) a (suc l))
        (λ t. clash (is ∙ and_intro (eqb (a % 2 ^ suc l) 0) (whole C B (get_or B a 0) (a + 2 ^ l) l) (eq-eqb (a % 2 ^ suc l) 0 e) (whole_high C B (get_or B a 0) a l t)) f)

    pub largest_last : r ≡ false → a % 2 ^ l ≡ 0 → whole C B (get_or B a 0) a l ≡ true → l < 12 → Largest C B a l × (l < 12)
    largest_last f m w h = (record { multiple = m; run = w; last = lower_last f }, h)

  -- No board has a run of 2^12 leaves.
  pub largest_none : (a l : ℕ) → C ≤ 4095 → l ≤ 12 → 12 ≤ l → whole C B (get_or B a 0) a l ≡ true → Largest C B a l × (l < 12)
  largest_none a l few h g t =
      let e : l ≡ 12 = omega arith in
      absurd (omega (arith, whole_end C B (get_or B a 0) a l t, ap (λ (n : ℕ). 2 ^ n) e))

  -- ---- the walk

  walk_done : {a : ℕ} {R : List ℕ} → Walk C B a R → C ≤ a → R ≡ []
  walk_done (end h) g = refl
  walk_done (step h s w) g = absurd (omega arith)

  walk_next : {a : ℕ} {R : List ℕ} → Walk C B a R → (l : ℕ) → a < C → Largest C B a l
      → (S : List ℕ) × (Walk C B (a + 2 ^ l) S) × (R ≡ entry (get_or B a 0) a l ++ S)
  walk_next (end h) l g s = absurd (omega arith)
  walk_next (step {a = a} {l = m} {R = R} h t w) l g s =
      let e : m ≡ l = largest_one a m l t s in
      (R, subst (λ (k : ℕ). Walk C B (a + 2 ^ k) R) e w, ap (λ (k : ℕ). entry (get_or B a 0) a k ++ R) e)

  walked_run : (l q a : ℕ) {R : List ℕ} → a ≡ q * 2 ^ l → (a % 2 ^ suc l ≡ 0 → whole C B (get_or B a 0) a (suc l) ≡ false) → a < C
      → whole C B (get_or B a 0) a l ≡ true → Walk C B (a + 2 ^ l) R → Walk C B a (named C B a l ++ R)
  walked_run l q a m stop h t w =
      rw (named_run C B a l h t) (step h (record { multiple = ap (λ (n : ℕ). n % 2 ^ l) m ∙ mul-mod_left q (2 ^ l); run = t; last = stop }) w)

  walked_past : (l a : ℕ) {R : List ℕ} → C ≤ a → Walk C B (a + 2 ^ l) R → Walk C B a (named C B a l ++ R)
  walked_past l a h w = rw (named_past C B a l h, walk_done w (omega arith)) (end h)

  -- A block that lies in no larger run: its pieces, and then those after it.
  walked : (l q a : ℕ) (R : List ℕ) → a ≡ q * 2 ^ l → (a % 2 ^ suc l ≡ 0 → whole C B (get_or B a 0) a (suc l) ≡ false) → Walk C B (a + 2 ^ l) R
      → Walk C B a (named C B a l ++ R)
  walked zero q a R m stop w =
      elim (dec_lt a C) [
        | yes h ↦ walked_run 0 q a m stop h (leaf_whole C B a h) w
        | no h ↦ walked_past 0 a (omega arith) w
      ]
  walked (suc l) q a R m stop w =
      elim (dec_lt a C) [
        | yes h ↦ by_bool (whole C B (get_or B a 0) a (suc l))
            (λ t. walked_run (suc l) q a m stop h t w)
            (λ f.
            let end : a + 2 ^ suc l ≡ a + 2 ^ l + 2 ^ l = omega (arith, two-pow-succ l) in
            let twice = ap (λ (n : ℕ). q * n) (two-pow-succ l) in
            let high = walked l (2 * q + 1) (a + 2 ^ l) R (omega (arith, twice)) (λ e. absurd (upper_odd q a l m e)) (subst (λ (b : ℕ). Walk C B b R) end w) in
            rw (named_halves C B a l f, append_assoc (named C B a l) (named C B (a + 2 ^ l) l) R)
            (walked l (2 * q) a (named C B (a + 2 ^ l) l ++ R) (omega (arith, twice)) (λ e. f) high))
        | no h ↦ walked_past (suc l) a (omega arith) w
      ]

  board_walked : C ≤ 4095 → Walk C B 0 (named_pieces C B)
  board_walked few =
      let w = walked 12 0 0 [] refl (λ e. beyond C B (get_or B 0 0) 0 13 (omega arith)) (end (omega arith)) in
      subst (λ (L : List ℕ). Walk C B 0 L) (append-nil (named_pieces C B)) w

  -- ---- the loop: what is left to list from the leaf a on, from the number n of a list L on, gives the list T of m numbers

  pub record Left (a n : ℕ) (L T : List ℕ) (m : ℕ) : Type 0 where
    pub rest : List ℕ
    pub walk : Walk C B a rest
    pub count : n + length rest ≡ m
    pub list : sets L n rest ≡ T

  pub left_all : (L : List ℕ) → C ≤ 4095 → Left 0 0 L (sets L 0 (named_pieces C B)) (length (named_pieces C B))
  left_all L few = record { rest = named_pieces C B; walk = board_walked few; count = zero-add (length (named_pieces C B)); list = refl }

  pub left_more : (a n : ℕ) (L T : List ℕ) (m l z k : ℕ) (E : List ℕ) → Left a n L T m → a < C → Largest C B a l → z ≡ 2 ^ l
      → k ≡ n + length (entry (get_or B a 0) a l) → E ≡ sets L n (entry (get_or B a 0) a l) → Left (a + z) k E T m
  left_more a n L T m l z k E left h s size next e =
      let w = walk_next left.walk l h s in
      let one = entry (get_or B a 0) a l in
      rw (size, next, e)
      (record {
        rest = w.0;
        walk = w.1;
        count = omega (arith, left.count, ap length w.2, length-append one w.0);
        list = sets_append L n one w.0 ∙ ap (λ (R : List ℕ). sets L n R) (sym w.2) ∙ left.list;
      })
