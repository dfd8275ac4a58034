-- The test for a good board: a scan notes each piece once in the mask of its name. Assumes nothing.
use mathlib.Core.Path.{◌≡◌, refl, sym, ap, ◌∙◌, subst}
use mathlib.Core.Bool.{Bool, true, false, not, ◌&&◌, and-false}
use mathlib.Core.List.{List}
use Prim.Native.Nat.{ℕ, zero, suc, ◌+◌, ◌-◌, ◌*◌, ◌^◌, ◌/◌, ◌%◌, ◌≤◌, ◌<◌}
use native.Mathlib.Nat.{two-pow-succ, add-div_right, add-mul-div_right, zero-div}
use native.Mathlib.Numerals.{one-add}
use native.Mathlib.Omega.{arith}
use native.Mathlib.Decide.{dec_lt, ℕ_discrete}
use lib.Dec.{eqb}
use lib.ListN.{get_or}
use lib.Pow.{pow_pos, pow-add, pow_mono, shr-shr, mod-pow-add}
use borrow.Author.Tests.{eq-eqb, ne_eqb}
use Rattle.general.specs.Tests.{one}
use Rattle.general.proofs.Laws.{by_bool, clash}
use Rattle.names.specs.Table.{Table, Empty, Entered, number_under}
use Rattle.names.proofs.Laws.{number_small}
use Rattle.pieces.specs.Board.{whole, pieces, Good, good, weight, Weighed}
use Rattle.pieces.specs.Halving.{has, Noted, Scanned}
use Rattle.pieces.proofs.Blocks.{whole_end, beyond, pieces_past, pieces_split, pieces_yes, pieces_no, pieces_top, pieces_own}
use Rattle.pieces.proofs.Literal.{good_intro, good_elim}
use Rattle.pieces.proofs.Weight.{pieces_digit, weight_total, weight_le}

-- ---- adding a power of two to a mask that lacks it

-- The digits above it stay.
add_above : (m k d : ℕ) → m / 2 ^ k % 2 ≡ 0 → (m + 2 ^ k) / 2 ^ (k + suc d) ≡ m / 2 ^ (k + suc d)
add_above m k d z =
    let half : (m + 2 ^ k) / 2 ^ k / 2 ≡ m / 2 ^ k / 2 = omega (arith, add-div_right m (pow_pos k)) in
    let up : (n : ℕ) → n / 2 ^ (k + suc d) ≡ n / 2 ^ k / 2 / 2 ^ d = λ n. sym (rw (shr-shr n k 1, shr-shr n (k + 1) d) (ap (λ (i : ℕ). n / 2 ^ i) (omega arith))) in
    up (m + 2 ^ k) ∙ ap (λ (i : ℕ). i / 2 ^ d) half ∙ sym (up m)

-- And so do those below it.
add_below : (m e d : ℕ) → (m + 2 ^ (e + suc d)) / 2 ^ e % 2 ≡ m / 2 ^ e % 2
add_below m e d =
    let s : 2 ^ (e + suc d) ≡ 2 ^ suc d * 2 ^ e = ap (λ (i : ℕ). 2 ^ i) (let c : e + suc d ≡ suc d + e = omega arith in c) ∙ pow-add 2 (suc d) e in
    rw s (omega (arith, add-mul-div_right m (2 ^ suc d) (pow_pos e), two-pow-succ d))

add_digit : (m k e : ℕ) → m / 2 ^ k % 2 ≡ 0 → (m + 2 ^ k) / 2 ^ e % 2 ≡ m / 2 ^ e % 2 + one (eqb e k)
add_digit m k e z =
    elim (ℕ_discrete e k) [
      | yes r ↦ rw (r, eq-eqb k k refl) (omega (arith, add-div_right m (pow_pos k)))
      | no r ↦ rw (ne_eqb e k r) (elim (dec_lt e k) [
        | yes q ↦
            let s : k ≡ e + suc (k - e - 1) = omega arith in
            subst (λ (i : ℕ). (m + 2 ^ i) / 2 ^ e % 2 ≡ m / 2 ^ e % 2 + 0) (sym s) (omega (arith, add_below m e (k - e - 1)))
        | no q ↦
            let s : e ≡ k + suc (e - k - 1) = omega arith in
            subst (λ (i : ℕ). (m + 2 ^ k) / 2 ^ i % 2 ≡ m / 2 ^ i % 2 + 0) (sym s) (omega (arith, add_above m k (e - k - 1) z))
      ])
    ]

-- A mask of twelve digits stays one.
pub add_fits : (m k : ℕ) → m < 4096 → k < 12 → m / 2 ^ k % 2 ≡ 0 → m + 2 ^ k < 4096
add_fits m k h l z =
    let s : k + suc (11 - k) ≡ 12 = omega arith in
    let e : (m + 2 ^ k) / 2 ^ 12 ≡ m / 2 ^ 12 = subst (λ (i : ℕ). (m + 2 ^ k) / 2 ^ i ≡ m / 2 ^ i) s (add_above m k (11 - k) z) in
    omega arith

-- Numbers with equal digits.
same_digits : (n a b : ℕ) → ((e : ℕ) → e < n → a / 2 ^ e % 2 ≡ b / 2 ^ e % 2) → a % 2 ^ n ≡ b % 2 ^ n
same_digits zero a b h = omega arith
same_digits (suc n) a b h =
    let p : a % 2 ^ suc n ≡ (a / 2 ^ n % 2) * 2 ^ n + a % 2 ^ n = rw (one-add n) at (mod-pow-add a 1 n) in
    let q : b % 2 ^ suc n ≡ (b / 2 ^ n % 2) * 2 ^ n + b % 2 ^ n = rw (one-add n) at (mod-pow-add b 1 n) in
    rw (p, q, same_digits n a b (λ e l. h e (omega arith)), h n (omega arith)) refl

-- ---- noting a piece

has_le : (M : List ℕ) (x e : ℕ) → has M x e ≤ 1
unfolding has
has_le M x e = omega arith

-- Masks that note nothing.
pub empty_clear : (M : List ℕ) → Empty M → (x e : ℕ) → has M x e ≡ 0
unfolding has
empty_clear M b x e = rw (b.numbers x) (omega (arith, zero-div (2 ^ e)))

pub noted_again : (x h : ℕ) (M : List ℕ) → Table M → number_under M x / 2 ^ h % 2 ≡ 1 → Noted x h M M true
unfolding has
noted_again x h M T q = record { table = T; many = omega arith; once = λ r y e l. clash refl r; twice = λ r. q }

pub noted_new : (x h : ℕ) (M M' : List ℕ) → (number_under M x / 2 ^ h % 2 ≡ 1 → ⊥) → Entered M M' x (number_under M x + 2 ^ h) → Noted x h M M' false
unfolding has
noted_new x h M M' q s =
    record {
      table = s.table;
      many = s.many;
      once = λ r y e l.
          elim (ℕ_discrete y x) [
            | yes z ↦ rw (z, s.own, eq-eqb x x refl) (add_digit (number_under M x) h e (omega arith))
            | no n ↦ rw (s.others y n, ne_eqb y x n) (omega arith)
          ];
      twice = λ r. clash r refl;
    }

-- ---- a block scanned

module _ (C : ℕ) (B : List ℕ) where
  -- A run is its block's one piece.
  run_pieces : (y x e a l : ℕ) → whole C B x a l ≡ true → pieces C B y e a l ≡ one (eqb y x && eqb e l)
  run_pieces y x e a l t =
      elim (ℕ_discrete y x) [
        | yes r ↦ elim (ℕ_discrete e l) [
          | yes s ↦ rw (r, s, eq-eqb x x refl, eq-eqb l l refl) (pieces_yes C B x a l t)
          | no s ↦ rw (ne_eqb e l s, and-false (eqb y x)) (pieces_no C B y x e a l t (λ p q. s q))
        ]
        | no r ↦ rw (ne_eqb y x r) (pieces_no C B y x e a l t (λ p q. r p))
      ]

  -- And of fewer than 4,096 leaves.
  pub run_small : (x a l : ℕ) → C ≤ 4095 → whole C B x a l ≡ true → l < 12
  run_small x a l few t =
      elim (dec_lt l 12) [
        | yes h ↦ h
        | no h ↦ absurd (omega (arith, whole_end C B x a l t, pow_mono {i = 12} {j = l} (omega arith)))
      ]

  -- A block beyond the board.
  pub scanned_past : (a l : ℕ) (M : List ℕ) → Table M → C ≤ a → Scanned C B a l M M false
  scanned_past a l M T h =
      record { table = T; many = omega arith; once = λ r x e q. omega (arith, pieces_past C B x e a l h); twice = λ r. clash r refl }

  -- A block that is a run.
  pub scanned_run : (x a l : ℕ) (M M' : List ℕ) (r : Bool) → whole C B x a l ≡ true → l < 12 → Noted x l M M' r → Scanned C B a l M M' r
  scanned_run x a l M M' r t s n =
      record {
        table = n.table;
        many = omega (arith, n.many, pow_pos l);
        once = λ z y e q. omega (arith, n.once z y e q, run_pieces y x e a l t);
        twice = λ z. (x, l, s, omega (arith, n.twice z, pieces_yes C B x a l t));
      }

  -- One that is none, by its halves.
  module _ (a l h : ℕ) (z : l ≡ suc h) (f : whole C B (get_or B a 0) a l ≡ false) where
    split : (x e : ℕ) → pieces C B x e a l ≡ pieces C B x e a h + pieces C B x e (a + 2 ^ h) h
    split x e = rw z (pieces_split C B x e a h (rw z at f))

    size : 2 ^ l ≡ 2 ^ h + 2 ^ h
    size = rw z (omega (arith, two-pow-succ h))

    pub scanned_low : (M M₁ : List ℕ) → Scanned C B a h M M₁ true → Scanned C B a l M M₁ true
    scanned_low M M₁ u =
        let w = u.twice refl in
        record {
          table = u.table;
          many = omega (arith, u.many, size);
          once = λ r. clash refl r;
          twice = λ r. (w.0, w.1, w.2, omega (arith, w.3, split w.0 w.1));
        }

    pub scanned_both : (M M₁ M₂ : List ℕ) (r : Bool) → Scanned C B a h M M₁ false → Scanned C B (a + 2 ^ h) h M₁ M₂ r → Scanned C B a l M M₂ r
    scanned_both M M₁ M₂ r u v =
        record {
          table = v.table;
          many = omega (arith, u.many, v.many, size);
          once = λ q x e k. omega (arith, v.once q x e k, u.once refl x e k, split x e);
          twice = λ q. let w = v.twice q in (w.0, w.1, w.2, omega (arith, w.3, u.once refl w.0 w.1 w.2, split w.0 w.1));
        }

  -- ---- the whole board

  module _ (few : C ≤ 4095) where
    pieces_above : (x e : ℕ) → 12 ≤ e → pieces C B x e 0 12 ≡ 0
    pieces_above x e h =
        elim (ℕ_discrete e 12) [
          | yes r ↦ rw r (pieces_own C B x 0 12 (beyond C B x 0 12 (omega arith)))
          | no r ↦ pieces_top C B x e 0 12 (omega arith)
        ]

    module _ (M M' : List ℕ) (r : Bool) (clear : (x e : ℕ) → has M x e ≡ 0) (u : Scanned C B 0 12 M M' r) where
      fine : r ≡ false → Good C B
      fine s x e =
          elim (dec_lt e 12) [
            | yes q ↦ omega (arith, u.once s x e q, clear x e, has_le M' x e)
            | no q ↦ omega (arith, pieces_above x e (omega arith))
          ]

      bad : r ≡ true → good C B ≡ true → good C B ≡ false
      bad s t = let w = u.twice s in absurd (omega (arith, w.3, clear w.0 w.1, good_elim C B t w.0 w.1))

      -- No name was found twice exactly where the board is good.
      scanned_good : not r ≡ good C B
      scanned_good = by_bool r (λ s. rw s (sym (by_bool (good C B) (bad s) (λ f. f)))) (λ s. rw s (sym (good_intro C B (fine s))))

      -- Where none was, the masks are the weights.
      scanned_weight : r ≡ false → (x : ℕ) → number_under M' x ≡ weight C B x
      unfolding has
      scanned_weight s x =
          let w = weight C B x in
          let same : number_under M' x % 2 ^ 12 ≡ w % 2 ^ 12 =
          same_digits 12 (number_under M' x) w (λ e l.
          omega (arith, u.once s x e l, clear x e, pieces_digit C B x 0 12 (fine s x) e, ap (λ (k : ℕ). k / 2 ^ e % 2) (weight_total C B x (omega arith)))) in
          omega (arith, weight_le C B x, number_small M' u.table x)

      pub scanned_weighed : Weighed C B M' (not r)
      scanned_weighed =
          record { table = u.table; test = scanned_good; weights = λ t x _. scanned_weight (by_bool r (λ s. clash t (ap not s)) (λ s. s)) x }
