-- Each run of leaves lies in one tree, and each leaf is served at just one position of a round. Assumes nothing.
use mathlib.Core.Path.{◌≡◌, sym, ap, ◌∙◌, subst}
use mathlib.Core.Logic.{◌⊎◌, inl, inr}
use Prim.Native.Nat.{ℕ, zero, suc, ◌+◌, ◌-◌, ◌*◌, ◌/◌, ◌%◌, ◌^◌, ◌≤◌, ◌<◌}
use native.Mathlib.Nat.{mod-eq_of_lt, mod-one, div-add-mod', le-div_iff_mul-le, lt_of_mul-lt-mul_right, le_of_mul-le-mul_right, eq-zero-or-pos, zero-add, suc-add, mul_assoc, mul-le-mul_right, le-add_right}
use native.Mathlib.Decide.{dec_le}
use native.Mathlib.Omega.{arith}
use lib.Pow.{pow_pos, pow_mono, pow-add, split}
use Rattle.sequences.specs.SlotOrder.{digits, column, bit, start, leaf_at, Position}
use Rattle.sequences.proofs.Places.{digits_lt, start_split, bit_below}
use Rattle.sequences.proofs.Trees.{residue, residue_lt, in_class, of_class}

-- The run of 2 ^ l leaves from a on is the q-th of its size in tree m + l, whose column is set.
pub record InTree (C a l : ℕ) : Type 0 where
  pub t : ℕ
  pub m : ℕ
  pub q : ℕ
  pub order : digits C ≡ suc t + (m + l)
  pub set : bit C (m + l) ≡ 1
  pub place : a ≡ start C (m + l) + q * 2 ^ l
  pub within : q < 2 ^ m

start_times : (C j : ℕ) → start C j ≡ C / 2 ^ suc j * 2 ^ suc j
start_times C j = let e = split C (suc j) in omega arith

pow_block : (n m l : ℕ) → n * 2 ^ suc (m + l) ≡ n * 2 ^ suc m * 2 ^ l
pow_block n m l = ap (λ (x : ℕ). n * x) (ap (λ (x : ℕ). 2 ^ x) (sym (suc-add m l)) ∙ pow-add 2 (suc m) l) ∙ sym (mul_assoc n (2 ^ suc m) (2 ^ l))

-- A run that starts in tree m + l, at or after its start and before its end.
in_tree : (C a m l : ℕ) → a % 2 ^ l ≡ 0 → start C (m + l) ≤ a → a < start C (m + l) + bit C (m + l) * 2 ^ (m + l) → InTree C a l
in_tree C a m l multiple lo hi =
    let one : bit C (m + l) ≡ 1 = is_one (eq-zero-or-pos (bit C (m + l))) in
    let below = bit_below C (m + l) one in
    let A = a / 2 ^ l in
    let B = C / 2 ^ suc (m + l) * 2 ^ suc m in
    let x : A * 2 ^ l + a % 2 ^ l ≡ a = div-add-mod' a (2 ^ l) in
    let y : start C (m + l) ≡ B * 2 ^ l = start_times C (m + l) ∙ pow_block (C / 2 ^ suc (m + l)) m l in
    let le : B ≤ A = le_of_mul-le-mul_right {k = 2 ^ l} (omega arith) (pow_pos l) in
    let z : (A - B + B) * 2 ^ l ≡ A * 2 ^ l = ap (λ (n : ℕ). n * 2 ^ l) (omega arith) in
    let p : 2 ^ (m + l) ≡ 2 ^ m * 2 ^ l = pow-add 2 m l in
    let s : bit C (m + l) * 2 ^ (m + l) ≡ 2 ^ (m + l) = ap (λ (n : ℕ). n * 2 ^ (m + l)) one ∙ (omega arith) in
    record {
      t = digits C - suc (m + l);
      m = m;
      q = A - B;
      order = omega arith;
      set = one;
      place = omega arith;
      within = lt_of_mul-lt-mul_right (2 ^ l) (omega arith);
    }
  where
    is_one : (bit C (m + l) ≡ 0) ⊎ (0 < bit C (m + l)) → bit C (m + l) ≡ 1
    is_one (inl e) = let s : bit C (m + l) * 2 ^ (m + l) ≡ 0 = ap (λ (n : ℕ). n * 2 ^ (m + l)) e ∙ (omega arith) in omega arith
    is_one (inr h) = omega arith

-- Down from the columns above the order: a is at or after the end of each tree above place d + l.
descend : (C a l d : ℕ) → a % 2 ^ l ≡ 0 → a + 2 ^ l ≤ C → C - C % 2 ^ (d + l) ≤ a → InTree C a l
descend C a l zero multiple fits h = absurd (past (div-add-mod' a (2 ^ l)) (split C l))
  where
    past : a / 2 ^ l * 2 ^ l + a % 2 ^ l ≡ a → C / 2 ^ l * 2 ^ l + C % 2 ^ l ≡ C → ⊥
    past x y =
        let g : suc (a / 2 ^ l) ≤ C / 2 ^ l = (le-div_iff_mul-le (pow_pos l)).1 (omega arith) in
        let w : suc (a / 2 ^ l) * 2 ^ l ≤ C / 2 ^ l * 2 ^ l = mul-le-mul_right (2 ^ l) g in
        let u : C - C % 2 ^ l ≤ a = subst (λ (n : ℕ). C - C % 2 ^ n ≤ a) (zero-add l) h in
        let z = pow_pos l in
        omega arith
descend C a l (suc d) multiple fits h = go (dec_le (C - C % 2 ^ (d + l)) a) (descend C a l d multiple fits)
  where
    go : Dec (C - C % 2 ^ (d + l) ≤ a) → (C - C % 2 ^ (d + l) ≤ a → InTree C a l) → InTree C a l
    go (yes g) ih = ih g
    go (no g) ih =
        let u : start C (d + l) ≤ a = subst (λ (n : ℕ). C - C % 2 ^ n ≤ a) (suc-add d l) h in
        let e = start_split C (d + l) in
        in_tree C a d l multiple u (omega arith)

pub run_tree : (C a l : ℕ) → a % 2 ^ l ≡ 0 → a + 2 ^ l ≤ C → InTree C a l
run_tree C a l multiple fits =
    let h = digits_lt C in
    let g : 2 ^ digits C ≤ 2 ^ (digits C + l) = pow_mono (le-add_right (digits C) l) in
    let e : C % 2 ^ (digits C + l) ≡ C = mod-eq_of_lt (omega arith) in
    descend C a l (digits C) multiple fits (omega arith)

-- Each leaf is served at one position of a round, and at no other.
pub record Once (C x : ℕ) : Type 0 where
  pub place : ℕ
  pub here : Position C place
  pub set : bit C (column C place) ≡ 1
  pub leaf : leaf_at C place ≡ x
  pub only : (p : ℕ) → Position C p → bit C (column C p) ≡ 1 → leaf_at C p ≡ x → p ≡ place

once_in : (C x : ℕ) → zero < C → C < 4096 → InTree C x 0 → Once C x
once_in C x some few i =
    let p = residue i.t i.m i.q in
    let M = 2 ^ (i.m + suc i.t) in
    let w : M ≡ 2 ^ digits C = let o = i.order in ap (λ (n : ℕ). 2 ^ n) (omega arith) in
    let l = residue_lt i.t i.m i.q in
    let z = pow_pos i.t in
    let at : Position C p = record { some = some; few = few; first = omega arith; last = omega arith } in
    let f = of_class C i.t i.m 0 i.q i.order p at i.set i.within (mod-eq_of_lt l) in
    let e = i.place in
    record {
      place = p;
      here = at;
      set = f.0;
      leaf = omega arith;
      only = λ p' at' b g.
          let c = in_class C i.t i.m 0 i.q i.order p' at' i.set i.within b (omega arith) (omega arith) in
          let u = at'.last in
          sym (mod-eq_of_lt (omega arith)) ∙ c;
    }

pub once : (C x : ℕ) → C < 4096 → x < C → Once C x
once C x few h = once_in C x (omega arith) few (run_tree C x 0 (mod-one x) (omega arith))
