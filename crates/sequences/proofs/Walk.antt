-- Slots in a row within a round: they are the serving positions of a window, one after the other; and a whole round of them. Assumes nothing.
use mathlib.Core.Path.{◌≡◌, refl, sym, ap, ◌∙◌}
use mathlib.Core.Bool.{Bool, true, false, cond, ◌&&◌}
use mathlib.Core.List.{List, ◌∷◌}
use Prim.Native.Nat.{ℕ, zero, suc, ◌+◌, ◌-◌, ◌*◌, ◌%◌, ◌^◌, ◌≤◌, ◌<◌}
use native.Mathlib.Nat.{mod-eq_of_lt, le_of_eq, add-zero}
use native.Mathlib.Decide.{dec_lt}
use native.Mathlib.Omega.{arith}
use lib.Dec.{eqb}
use lib.ListN.{length}
use borrow.Author.Tests.{eq-eqb, eqb-true}
use Rattle.general.specs.Tests.{one}
use Rattle.general.proofs.Laws.{both, same_test}
use Rattle.sequences.specs.SlotOrder.{digits, column, bit, leaf_at, passed_from, served_from, next_from, Position}
use Rattle.sequences.specs.Serving.{count_in, count_list, serves, serves_of, left, leaves_in, leaves_from, after_slots, Walked}
use Rattle.sequences.proofs.Places.{digits_pos}
use Rattle.sequences.proofs.Stepping.{served, served_set, served_clear, position_more, position_end, last_serves, even_pow}
use Rattle.sequences.proofs.Successive.{leaves_length}
use Rattle.sequences.proofs.Counting.{class, count_same, count_append, count_more, class_all}
use Rattle.sequences.proofs.Rounds.{round_count}
use Rattle.sequences.proofs.Runs.{Once, once}

-- The leaves of a window are as many as its serving positions;
listed_slots : (C P T : ℕ) → length (leaves_in C P T) ≡ count_in (serves C) P T
unfolding leaves_in count_in
listed_slots C P zero = refl
listed_slots C P (suc T) = go (serves C P) (listed_slots C (suc P) T)
  where
    go : (b : Bool) → length (leaves_in C (suc P) T) ≡ count_in (serves C) (suc P) T
        → length (cond b (leaf_at C P ∷ leaves_in C (suc P) T) (leaves_in C (suc P) T)) ≡ one b + count_in (serves C) (suc P) T
    go true ih = omega arith
    go false ih = omega arith

-- those that pass a test are as many as the positions that serve such a leaf.
listed_more : (f : ℕ → Bool) (b : Bool) (x m : ℕ) (xs : List ℕ) → count_list f xs ≡ m → count_list f (cond b (x ∷ xs) xs) ≡ one (b && f x) + m
unfolding count_list
listed_more f true x m xs e = omega arith
listed_more f false x m xs e = omega arith

listed_count : (C : ℕ) (f : ℕ → Bool) (P T : ℕ) → count_list f (leaves_in C P T) ≡ count_in (serves_of C f) P T
unfolding leaves_in count_in count_list
listed_count C f P zero = refl
listed_count C f P (suc T) = listed_more f (serves C P) (leaf_at C P) (count_in (serves_of C f) (suc P) T) (leaves_in C (suc P) T) (listed_count C f (suc P) T)

-- One slot from p goes over the position that it serves and the one that it passes over.
slot_by : (C p T b : ℕ) → Position C p → bit C (column C p) ≡ b
    → leaves_in C p (suc (passed_from C p) + T) ≡ leaf_at C (served_from C p) ∷ leaves_in C (suc (served_from C p)) T
unfolding passed_from leaves_in
slot_by C p T zero at e =
    let s = served_clear C p e in
    let i : bit C (column C (suc p)) ≡ 1 = rw s at (served C p at).set in
    let n : suc (1 - bit C (column C p)) + T ≡ suc (suc T) = omega arith in
    rw (n, s, e, i)
slot_by C p T (suc b) at e =
    let i : bit C (column C p) ≡ 1 = omega arith in
    let s = served_set C p i in
    let n : suc (1 - bit C (column C p)) + T ≡ suc T = omega arith in
    rw (n, s, i)

slot_listed : (C p T : ℕ) → Position C p → leaves_in C p (suc (passed_from C p) + T) ≡ leaf_at C (served_from C p) ∷ leaves_in C (suc (served_from C p)) T
slot_listed C p T at = slot_by C p T (bit C (column C p)) at refl

slot_counted : (C p T : ℕ) → Position C p → count_in (serves C) p (suc (passed_from C p) + T) ≡ suc (count_in (serves C) (suc (served_from C p)) T)
slot_counted C p T at =
    sym (listed_slots C p (suc (passed_from C p) + T)) ∙ ap length (slot_listed C p T at) ∙ ap suc (listed_slots C (suc (served_from C p)) T)

served_next : (C p : ℕ) → p + suc (passed_from C p) ≡ suc (served_from C p)
unfolding served_from
served_next C p = omega arith

-- What is left after one slot.
left_next : (C p : ℕ) → Position C p → left C p ≡ suc (left C (suc (served_from C p)))
left_next C p at =
    let e = served_next C p in
    let g = (served C p at).here.last in
    ap (count_in (serves C) p) (omega arith) ∙ slot_counted C p (2 ^ digits C - suc (served_from C p)) at

-- The list and the end tell all of a walk.
walked : (C p n T : ℕ) → p + T ≤ 2 ^ digits C → leaves_from C p n ≡ leaves_in C p T → (p + T < 2 ^ digits C → after_slots C p n ≡ p + T)
    → (p + T ≡ 2 ^ digits C → after_slots C p n ≡ 1) → Walked C p n
walked C p n T within listed goes_on ends = record {
  over = T;
  within = within;
  slots = sym (listed_slots C p T) ∙ ap length (sym listed) ∙ leaves_length C p n;
  listed = listed;
  leaves = λ f. ap (count_list f) listed ∙ listed_count C f p T;
  goes_on = goes_on;
  ends = ends;
}

walk_more : (C p n : ℕ) → Position C p → suc (served_from C p) < 2 ^ digits C → Walked C (suc (served_from C p)) n → Walked C p (suc n)
unfolding leaves_from after_slots next_from
walk_more C p n at l w =
    let e = served_next C p in
    let T = w.over in
    let go : next_from C p ≡ suc (served_from C p) = position_more (digits C) (served_from C p) l in
    let u = w.within in
    walked C p (suc n) (suc (passed_from C p) + T) (omega arith)
    (ap (λ (y : ℕ). leaf_at C (served_from C p) ∷ leaves_from C y n) go ∙ ap (λ (xs : List ℕ). leaf_at C (served_from C p) ∷ xs) w.listed ∙ sym (slot_listed C p T at))
    (λ g. ap (λ (y : ℕ). after_slots C y n) go ∙ w.goes_on (omega arith) ∙ (omega arith))
    (λ g. ap (λ (y : ℕ). after_slots C y n) go ∙ w.ends (omega arith))

walk_last : (C p : ℕ) → Position C p → 2 ^ digits C ≤ suc (served_from C p) → Walked C p 1
unfolding leaves_from leaves_in after_slots next_from
walk_last C p at l =
    let e = served_next C p in
    let g = (served C p at).here.last in
    walked C p 1 (suc (passed_from C p) + 0) (omega arith) (sym (slot_listed C p 0 at)) (λ x. omega arith) (λ x. position_end (digits C) (served_from C p) l)

-- The rest is none after the last position.
left_none : (C q : ℕ) → 2 ^ digits C ≤ q → left C q ≡ 0
unfolding count_in
left_none C q l = let e : 2 ^ digits C - q ≡ 0 = omega arith in ap (count_in (serves C) q) e

pub walk : (C n p : ℕ) → Position C p → n ≤ left C p → Walked C p n
unfolding leaves_from leaves_in after_slots
walk C zero p at h = let u = at.last in walked C p 0 0 (omega arith) refl (λ g. sym (add-zero p)) (λ g. omega arith)
walk C (suc n) p at h = go (dec_lt (suc (served_from C p)) (2 ^ digits C)) (left_next C p at) (walk C n (suc (served_from C p)))
  where
    go : Dec (suc (served_from C p) < 2 ^ digits C) → left C p ≡ suc (left C (suc (served_from C p)))
        → (Position C (suc (served_from C p)) → n ≤ left C (suc (served_from C p)) → Walked C (suc (served_from C p)) n) → Walked C p (suc n)
    go (yes l) s ih = walk_more C p n at l (ih (record { some = at.some; few = at.few; first = omega arith; last = l }) (omega arith))
    go (no l) s ih =
        let z = left_none C (suc (served_from C p)) (omega arith) in
        let e : n ≡ 0 = omega arith in
        rw e (walk_last C p at (omega arith))

-- Before a round ends, n slots leave n fewer.
pub left_after : (C p n : ℕ) → Position C p → n < left C p → left C (after_slots C p n) + n ≡ left C p
left_after C p n at h = go (walk C n p at (omega arith))
  where
    go : Walked C p n → left C (after_slots C p n) + n ≡ left C p
    go w = more (dec_lt (p + w.over) (2 ^ digits C)) w.slots
      where
        more : Dec (p + w.over < 2 ^ digits C) → count_in (serves C) p w.over ≡ n → left C (after_slots C p n) + n ≡ left C p
        more (yes l) s =
            let T = w.over in
            let R = 2 ^ digits C - (p + T) in
            let a : left C p ≡ count_in (serves C) p T + left C (p + T) = ap (count_in (serves C) p) (omega arith) ∙ count_append (serves C) p T R in
            rw (w.goes_on l) (omega arith)
        more (no l) s =
            let u = w.within in
            let e : left C p ≡ count_in (serves C) p w.over = ap (count_in (serves C) p) (omega arith) in
            omega arith

-- A round of C slots from the first position goes over all positions and comes back to it.
module _ (C : ℕ) (some : zero < C) (few : C < 4096) where
  pub first_position : Position C 1
  first_position = let e = even_pow (digits C) (digits_pos C some) in record { some = some; few = few; first = omega arith; last = omega arith }

  pub left_first : left C 1 ≡ C
  left_first = round_count C some few

  -- The slots of a round after its first i.
  pub left_within : (i t : ℕ) → i < C → i + t ≤ C → t ≤ left C (after_slots C 1 i)
  left_within i t h l =
      let a = left_first in
      let b = left_after C 1 i first_position (omega arith) in
      omega arith

  round : Walked C 1 C
  round = walk C C 1 first_position (le_of_eq (sym left_first))

  -- Positions after those of the round would hold the last one, which serves.
  rest_empty : (R : ℕ) → count_in (serves C) (1 + round.over) R ≡ 0 → 1 + round.over + R ≡ 2 ^ digits C → R ≡ 0
  rest_empty zero z e = refl
  rest_empty (suc n) z e =
      let l = count_more (serves C) (1 + round.over) n in
      let p : 1 + round.over + n ≡ 2 ^ digits C - 1 = omega arith in
      let s : serves C (1 + round.over + n) ≡ true = eq-eqb _ _ (ap (λ (x : ℕ). bit C (column C x)) p ∙ last_serves C some few) in
      let t : one (serves C (1 + round.over + n)) ≡ 1 = ap one s in
      omega arith

  round_over : suc round.over ≡ 2 ^ digits C
  round_over =
      let T = round.over in
      let R = 2 ^ digits C - 1 - T in
      let u = round.within in
      let a : count_in (serves C) 1 (T + R) ≡ count_in (serves C) 1 T + count_in (serves C) (1 + T) R = count_append (serves C) 1 T R in
      let b : count_in (serves C) 1 (T + R) ≡ C = ap (count_in (serves C) 1) (omega arith) ∙ left_first in
      let c = round.slots in
      let z = rest_empty R (omega arith) (omega arith) in
      omega arith

  pub round_ends : after_slots C 1 C ≡ 1
  round_ends = let e = round_over in round.ends (omega arith)

  pub round_listed : leaves_from C 1 C ≡ leaves_in C 1 (2 ^ digits C - 1)
  round_listed = let e = round_over in round.listed ∙ ap (leaves_in C 1) (omega arith)

  -- In a round of C slots each leaf is served once.
  round_serves_once : (x : ℕ) → x < C → count_list (λ (y : ℕ). eqb y x) (leaves_from C 1 C) ≡ 1
  round_serves_once x h =
      let o = once C x few h in
      let M = 2 ^ digits C in
      let e = round_over in
      let w = o.here in
      let c : count_in (serves_of C (λ (y : ℕ). eqb y x)) 1 round.over ≡ count_in (class M o.place) 1 round.over =
      count_same (serves_of C (λ (y : ℕ). eqb y x)) (class M o.place) 1 round.over (λ p lo hi. at_place x o p (record { some = some; few = few; first = lo; last = omega arith })) in
      let d : round.over ≡ 1 * M - 1 = omega arith in
      round.leaves (λ (y : ℕ). eqb y x) ∙ c ∙ ap (count_in (class M o.place) 1) d ∙ class_all M 1 o.place (omega arith) o.here.first o.here.last
    where
      at_place : (x : ℕ) (o : Once C x) (p : ℕ) → Position C p → serves_of C (λ (y : ℕ). eqb y x) p ≡ class (2 ^ digits C) o.place p
      at_place x o p at = same_test (serves_of C (λ (y : ℕ). eqb y x) p) (class (2 ^ digits C) o.place p) there back
        where
          m : p % 2 ^ digits C ≡ p
          m = mod-eq_of_lt at.last

          there : serves_of C (λ (y : ℕ). eqb y x) p ≡ true → class (2 ^ digits C) o.place p ≡ true
          there e =
              let s = both (serves C p) (eqb (leaf_at C p) x) e in
              eq-eqb _ _ (m ∙ o.only p at (eqb-true (bit C (column C p)) 1 s.0) (eqb-true (leaf_at C p) x s.1))

          back : class (2 ^ digits C) o.place p ≡ true → serves_of C (λ (y : ℕ). eqb y x) p ≡ true
          back e =
              let g : p ≡ o.place = sym m ∙ eqb-true (p % 2 ^ digits C) o.place e in
              rw (g, eq-eqb _ _ o.set, eq-eqb _ _ o.leaf)

pub round_once : (C x : ℕ) → C < 4096 → x < C → count_list (λ (y : ℕ). eqb y x) (leaves_from C 1 C) ≡ 1
round_once C x few h = round_serves_once C (omega arith) few x h
