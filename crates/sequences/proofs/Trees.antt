-- Which positions serve the leaves of a run: those of one class. Assumes nothing.
use mathlib.Core.Path.{◌≡◌, sym, ap, ap₂, ◌∙◌, subst}
use mathlib.Core.Bool.{true}
use Prim.Native.Nat.{ℕ, zero, suc, ◌+◌, ◌-◌, ◌*◌, ◌/◌, ◌%◌, ◌^◌, ◌≤◌, ◌<◌}
use native.Mathlib.Nat.{div-eq_of_lt-le, mod-le, mul-le-mul_right, div-mul-le_self, lt-div-mul-add}
use native.Mathlib.Decide.{dec_lt}
use native.Mathlib.Omega.{arith}
use lib.Arith.{digits_lt}
use lib.Count.{count_trailing_zeros}
use lib.Dec.{leb, ltb}
use lib.Pow.{pow_pos, pow-add, high, low, mod-pow-add, mod-mod-pow, field}
use borrow.Author.Tests.{eq-eqb, eqb-true, leb-true, ltb-true, le-leb, lt-ltb}
use Rattle.general.proofs.Laws.{both, same_test}
use Rattle.sequences.specs.Sequences.{rb}
use Rattle.sequences.specs.SlotOrder.{digits, term, column, bit, start, leaf_at, Position}
use Rattle.sequences.specs.Serving.{count_in, serves, in_run, serves_run}
use Rattle.sequences.proofs.Reverse.{rb_lt, rb_high, rb_to, rb_back}
use Rattle.sequences.proofs.Zeros.{zeros_form, zeros_unique}
use Rattle.sequences.proofs.Places.{tree_split}
use Rattle.sequences.proofs.Stepping.{column_add}
use Rattle.sequences.proofs.Counting.{class, count_same, spread_times}

mod_pow_mono : (n i j : ℕ) → i ≤ j → n % 2 ^ i ≤ n % 2 ^ j
mod_pow_mono n i j h =
    let e : j - i + i ≡ j = omega arith in
    let m : n % 2 ^ j % 2 ^ i ≡ n % 2 ^ i = ap (λ (x : ℕ). n % 2 ^ x % 2 ^ i) (sym e) ∙ mod-mod-pow n (j - i) i in
    let l = mod-le (n % 2 ^ j) (2 ^ i) in
    omega arith

-- Trees lie end to end, largest first: tree j ends where the next smaller one starts, or before.
trees_apart : (C i j : ℕ) → i < j → bit C j ≡ 1 → start C j + 2 ^ j ≤ start C i
trees_apart C i j h b =
    let e = tree_split C j b in
    let l : C % 2 ^ suc i ≤ C % 2 ^ j = mod_pow_mono C (suc i) j h in
    let u : C % 2 ^ suc i ≤ C = mod-le C (2 ^ suc i) in
    omega arith

-- A run of 2 ^ l leaves, the q-th of that size in tree m + l of a board with C leaves, whose order is k = t + 1 + m + l.
-- It is served at the positions of one class modulo 2 ^ (k - l): those that are `residue` there.
abbrev pub residue : ℕ → ℕ → ℕ → ℕ
residue t m q = rb q m * 2 ^ suc t + 2 ^ t

pub residue_lt : (t m q : ℕ) → residue t m q < 2 ^ (m + suc t)
residue_lt t m q =
    let h : 2 ^ t < 2 ^ suc t = let z = pow_pos t in omega arith in
    let l : residue t m q < 2 ^ m * 2 ^ suc t = digits_lt (rb_lt q m) h in
    rw (pow-add 2 m (suc t)) l

module _ (C t m l q : ℕ) (order : digits C ≡ suc t + (m + l)) (p : ℕ) (at : Position C p) where
  to_class : column C p ≡ m + l → rb (p / 2 ^ term (digits C) p) (m + l) / 2 ^ l ≡ q → p % 2 ^ (m + suc t) ≡ residue t m q
  unfolding term
  to_class e r =
      let a = column_add C p at in
      let v : count_trailing_zeros (digits C) p ≡ t = omega arith in
      let f : p % 2 ^ suc t ≡ 2 ^ t = subst (λ (x : ℕ). p % 2 ^ suc x ≡ 2 ^ x) v (zeros_form (digits C) p at.first at.last).1 in
      let i : rb (p / 2 ^ suc t) m ≡ q = sym (rb_high (p / 2 ^ suc t) m l) ∙ subst (λ (x : ℕ). rb (p / 2 ^ suc x) (m + l) / 2 ^ l ≡ q) v r in
      let g : p / 2 ^ suc t % 2 ^ m ≡ rb q m = rb_to (p / 2 ^ suc t) m q i in
      mod-pow-add p m (suc t) ∙ ap₂ (λ (x y : ℕ). x * 2 ^ suc t + y) g f

  from_class : q < 2 ^ m → p % 2 ^ (m + suc t) ≡ residue t m q → (column C p ≡ m + l) × (rb (p / 2 ^ term (digits C) p) (m + l) / 2 ^ l ≡ q)
  unfolding term
  from_class h e =
      let z : 2 ^ t < 2 ^ suc t = let z = pow_pos t in omega arith in
      let f : p % 2 ^ suc t ≡ 2 ^ t = sym (mod-mod-pow p m (suc t)) ∙ ap (λ (x : ℕ). x % 2 ^ suc t) e ∙ low (rb q m) (suc t) z in
      let v : count_trailing_zeros (digits C) p ≡ t = zeros_unique (digits C) p t (omega arith) f in
      let a = column_add C p at in
      let g : p / 2 ^ suc t % 2 ^ m ≡ rb q m = sym (field p m (suc t)) ∙ ap (λ (x : ℕ). x / 2 ^ suc t) e ∙ high (rb q m) (suc t) z in
      let i : rb (p / 2 ^ suc t) m ≡ q = rb_back (p / 2 ^ suc t) m q h g in
      (omega arith, subst (λ (x : ℕ). rb (p / 2 ^ suc x) (m + l) / 2 ^ l ≡ q) (sym v) (rb_high (p / 2 ^ suc t) m l ∙ i))

  leaf_in : column C p ≡ m + l → leaf_at C p ≡ start C (m + l) + rb (p / 2 ^ term (digits C) p) (m + l)
  unfolding leaf_at
  leaf_in e = ap (λ (x : ℕ). start C x + rb (p / 2 ^ term (digits C) p) x) e

  -- The run ends within its tree.
  run_fits : q < 2 ^ m → q * 2 ^ l + 2 ^ l ≤ 2 ^ (m + l)
  run_fits h =
      let g : suc q * 2 ^ l ≤ 2 ^ m * 2 ^ l = mul-le-mul_right (2 ^ l) h in
      let e : 2 ^ (m + l) ≡ 2 ^ m * 2 ^ l = pow-add 2 m l in
      omega arith

  leaf_bounds : (start C (column C p) ≤ leaf_at C p) × (leaf_at C p < start C (column C p) + 2 ^ column C p)
  unfolding leaf_at
  leaf_bounds = let r = rb_lt (p / 2 ^ term (digits C) p) (column C p) in (omega arith, omega arith)

  -- A set column whose leaf is in the run is the run's tree.
  module _ (set : bit C (m + l) ≡ 1) (h : q < 2 ^ m) where
    run_column : bit C (column C p) ≡ 1 → start C (m + l) + q * 2 ^ l ≤ leaf_at C p → leaf_at C p < start C (m + l) + q * 2 ^ l + 2 ^ l
        → Dec (column C p < m + l) → Dec (m + l < column C p) → column C p ≡ m + l
    run_column b lo hi (yes g) d =
        let w = trees_apart C (column C p) (m + l) g set in
        let n = leaf_bounds in
        let f = run_fits h in
        omega arith
    run_column b lo hi (no g) (yes d) =
        let w = trees_apart C (m + l) (column C p) d b in
        let n = leaf_bounds in
        omega arith
    run_column b lo hi (no g) (no d) = omega arith

    -- A position serves a leaf of the run just if it is of the run's class.
    pub in_class : bit C (column C p) ≡ 1 → start C (m + l) + q * 2 ^ l ≤ leaf_at C p → leaf_at C p < start C (m + l) + q * 2 ^ l + 2 ^ l
        → p % 2 ^ (m + suc t) ≡ residue t m q
    in_class b lo hi =
        let e = run_column b lo hi (dec_lt (column C p) (m + l)) (dec_lt (m + l) (column C p)) in
        let f = leaf_in e in
        to_class e (div-eq_of_lt-le (2 ^ l) (omega arith) (omega arith))

    pub of_class : p % 2 ^ (m + suc t) ≡ residue t m q
        → (bit C (column C p) ≡ 1) × (start C (m + l) + q * 2 ^ l ≤ leaf_at C p) × (leaf_at C p < start C (m + l) + q * 2 ^ l + 2 ^ l)
    of_class e =
        let f = from_class h e in
        let g = leaf_in f.0 in
        let i = rb (p / 2 ^ term (digits C) p) (m + l) in
        let lo = div-mul-le_self i (2 ^ l) in
        let hi : i < i / 2 ^ l * 2 ^ l + 2 ^ l = lt-div-mul-add (pow_pos l) in
        let d : i / 2 ^ l * 2 ^ l ≡ q * 2 ^ l = ap (λ (x : ℕ). x * 2 ^ l) f.1 in
        (rw f.0 set, omega arith, omega arith)

    pub run_test : serves_run C (start C (m + l) + q * 2 ^ l) l p ≡ class (2 ^ (m + suc t)) (residue t m q) p
    run_test = same_test _ _ there back
      where
        there : serves_run C (start C (m + l) + q * 2 ^ l) l p ≡ true → class (2 ^ (m + suc t)) (residue t m q) p ≡ true
        there e =
            let s = both (serves C p) (in_run (start C (m + l) + q * 2 ^ l) l (leaf_at C p)) e in
            let r = both (leb (start C (m + l) + q * 2 ^ l) (leaf_at C p)) (ltb (leaf_at C p) (start C (m + l) + q * 2 ^ l + 2 ^ l)) s.1 in
            eq-eqb (p % 2 ^ (m + suc t)) (residue t m q) (in_class (eqb-true (bit C (column C p)) 1 s.0) (leb-true _ _ r.0) (ltb-true _ _ r.1))

        back : class (2 ^ (m + suc t)) (residue t m q) p ≡ true → serves_run C (start C (m + l) + q * 2 ^ l) l p ≡ true
        back e =
            let f = of_class (eqb-true (p % 2 ^ (m + suc t)) (residue t m q) e) in
            rw (eq-eqb (bit C (column C p)) 1 f.0, le-leb _ _ f.1, lt-ltb _ _ f.2)

-- So among any T positions in a row within a round, the run's leaves are served 2 ^ l * T / 2 ^ k times, up to less than one.
pub run_spread : (C t m l q P T : ℕ) → digits C ≡ suc t + (m + l) → zero < C → C < 4096 → bit C (m + l) ≡ 1 → q < 2 ^ m → zero < P → P + T ≤ 2 ^ digits C
    → (2 ^ digits C * count_in (serves_run C (start C (m + l) + q * 2 ^ l) l) P T < 2 ^ l * T + 2 ^ digits C)
    × (2 ^ l * T < 2 ^ digits C * count_in (serves_run C (start C (m + l) + q * 2 ^ l) l) P T + 2 ^ digits C)
run_spread C t m l q P T order some few set h first last =
    let a = start C (m + l) + q * 2 ^ l in
    let s = count_in (serves_run C a l) P T in
    let M = 2 ^ (m + suc t) in
    let e : s ≡ count_in (class M (residue t m q)) P T =
    count_same (serves_run C a l) (class M (residue t m q)) P T
    (λ x lo hi. run_test C t m l q order x (record { some = some; few = few; first = omega arith; last = omega arith }) set h) in
    let w : 2 ^ digits C ≡ 2 ^ l * M = ap (λ (x : ℕ). 2 ^ x) (order ∙ (omega arith)) ∙ pow-add 2 l (m + suc t) in
    rw e (spread_times (2 ^ digits C) (2 ^ l) M (residue t m q) P T w (pow_pos l) (residue_lt t m q))
