-- The checks of a call: a list of refusals is looked through part by part, and what is known once no refusal of it applies. Assumes nothing.
use mathlib.Core.Path.{◌≡◌, refl, sym, ◌∙◌}
use mathlib.Core.Bool.{Bool, true, false, not}
use mathlib.Core.List.{List, [], ◌∷◌, ◌++◌}
use Prim.Native.Nat.{ℕ, zero, ◌*◌, ◌-◌, ◌%◌, ◌^◌, ◌≤◌, ◌<◌}
use native.Mathlib.Omega.{arith}
use lib.Dec.{eqb, ltb}
use lib.ListN.{length}
use lib.Pow.{pow_pos}
use borrow.Author.Tests.{eqb-true, eqb-false, ne_eqb, ltb-false, le-ltb, not-false}
use Rattle.general.proofs.Laws.{neither}
use Rattle.sequences.specs.SlotOrder as sequences
use Rattle.sequences.proofs.Laws.{digits_lt, digits_small, shift_exact}
use Rattle.pieces.specs.Board.{good, weight}
use Rattle.pieces.specs.Placing.{Placeable, Admissible}
use Rattle.pieces.specs.Tidying.{Removable}
use Rattle.pieces.proofs.Laws.{weight_le}
use Rattle.calls.specs.declared.Drive.{Drive}
use Rattle.calls.specs.declared.Refusal.{Refusal}
use Rattle.calls.specs.declared.Refusal.TheVariants.{Position, Midround, Damaged, Name, Weight, Taken, Absent, Room, Output}
use Rattle.calls.specs.Types.{Check}
use Rattle.std.specs.Prelude.{Ok, Err}
use Rattle.calls.specs.Refusals.{Asked, applies, refuse_if, first_of, asked, open_check, add_check, admit_check, remove_check, slot_check, change_check, round_check, report_check, position_check, good_check, held_check, new_check, asked_open, asked_add, asked_name, asked_output, open_may, add_may, admit_may, remove_may, slot_may, change_may, round_may, report_may, and_then}
use Rattle.calls.specs.Records.{drive_at}

-- 1 shifted by the digits of a capacity
pub record Order (C : ℕ) : Type 0 where
  pub small : sequences.digits C ≤ 12
  pub some : 1 ≤ 2 ^ sequences.digits C
  pub exact : 1 * 2 ^ sequences.digits C % 2 ^ 64 ≡ 2 ^ sequences.digits C

pub order : (C : ℕ) → zero < C → C ≤ 4095 → Order C
order C z h =
    let k : sequences.digits C ≤ 12 = digits_small C z (omega arith) in
    record { small = k; some = pow_pos (sequences.digits C); exact = shift_exact (sequences.digits C) (omega arith) }

-- a number of leaves is at most the capacity
pub count_small : (C : ℕ) (B : List ℕ) (x n : ℕ) → n ≡ weight C B x → n ≤ C
count_small C B x n e = rw e (weight_le C B x)

refuse_next : (b : Bool) (r : Refusal) (j k : Check) → refuse_if b r (and_then j k) ≡ and_then (refuse_if b r j) k
refuse_next true r j k = refl
refuse_next false r j k = refl

-- a list of refusals is looked through part by part
pub first_next : (rs ss : List Refusal) (a : Asked) → first_of (rs ++ ss) a ≡ and_then (first_of rs a) (first_of ss a)
unfolding first_of
first_next [] ss a = refl
first_next (r ∷ rs) ss a = rw (first_next rs ss a) (refuse_next (applies r a) r (first_of rs a) (first_of ss a))

module _ (d : Drive) (B : List ℕ) where
  pub slot_parts : slot_check d B ≡ and_then (open_check d.capacity B) (position_check d.capacity d.position)
  unfolding slot_check open_check position_check
  slot_parts = first_next open_may (Position ∷ []) (asked d B)

  pub change_parts : change_check d B ≡ and_then (slot_check d B) (refuse_if (not (eqb d.position 1)) Midround (good_check d.capacity B))
  unfolding change_check slot_check good_check
  change_parts = first_next slot_may (Midround ∷ Damaged ∷ []) (asked d B)

  pub admit_parts : (x w : ℕ) → admit_check d B x w ≡ and_then (change_check d B) (new_check d.capacity B x w)
  unfolding admit_check change_check new_check
  admit_parts x w = first_next change_may (Name ∷ Weight ∷ Taken ∷ []) (asked_add d B x w)

  pub add_parts : (x w : ℕ) → add_check d B x w ≡ and_then (admit_check d B x w) (refuse_if (ltb (weight d.capacity B 0) w) Room (Ok tt))
  unfolding add_check admit_check
  add_parts x w = first_next admit_may (Room ∷ []) (asked_add d B x w)

  pub remove_parts : (x : ℕ) → remove_check d B x ≡ and_then (change_check d B) (held_check d.capacity B x)
  unfolding remove_check change_check held_check
  remove_parts x = first_next change_may (Name ∷ Absent ∷ []) (asked_name d B x)

  pub round_parts : (n : ℕ) → round_check d B n ≡ and_then (slot_check d B) (refuse_if (ltb n d.capacity) Output (Ok tt))
  unfolding round_check slot_check
  round_parts n = first_next slot_may (Output ∷ []) (asked_output d B n d.capacity)

  pub report_parts : (x : ℕ) → report_check d B x ≡ and_then (slot_check d B) (and_then (good_check d.capacity B) (held_check d.capacity B x))
  unfolding report_check slot_check good_check held_check
  report_parts x = first_next slot_may (Damaged ∷ Name ∷ Absent ∷ []) (asked_name d B x)
      ∙ rw (first_next (Damaged ∷ []) (Name ∷ Absent ∷ []) (asked_name d B x))

-- two parts find nothing where each does
pub first_clear : (j k : Check) → and_then j k ≡ Ok tt → j ≡ Ok tt
first_clear (Ok tt) k e = refl
first_clear (Err r) k e = e

pub then_clear : (j k : Check) → and_then j k ≡ Ok tt → k ≡ Ok tt
then_clear (Ok tt) k e = e
then_clear (Err r) k e = let z : ◌≡◌ {A = ℕ} 0 1 = cc in absurd (omega arith)

-- a part that finds nothing changes nothing
pub then_none : (k : Check) → and_then k (Ok tt) ≡ k
then_none (Ok tt) = refl
then_none (Err r) = refl

pub refuse_clear : (b : Bool) (r : Refusal) (k : Check) → refuse_if b r k ≡ Ok tt → (b ≡ false) × (k ≡ Ok tt)
refuse_clear true r k e = let z : ◌≡◌ {A = ℕ} 0 1 = cc in absurd (omega arith)
refuse_clear false r k e = (refl, e)

-- What is known once no refusal applies: of each refusal of the list that its test is false.

unfoldable pub Passed : List Refusal → Asked → Type 0
Passed [] a = Unit {0}
Passed (r ∷ rs) a = (applies r a ≡ false) × Passed rs a

pub passed : (rs : List Refusal) (a : Asked) → first_of rs a ≡ Ok tt → Passed rs a
unfolding Passed first_of
passed [] a e = tt
passed (r ∷ rs) a e = let f = refuse_clear (applies r a) r (first_of rs a) e in (f.0, passed rs a f.1)

-- the capacity and the board's length
pub record Sized (C : ℕ) (B : List ℕ) : Type 0 where
  pub some : zero < C
  pub few : C ≤ 4095
  pub long : C ≤ length B

pub open_clear : (C : ℕ) (B : List ℕ) → open_check C B ≡ Ok tt → Sized C B
unfolding open_check Passed
open_clear C B e =
    let f = passed open_may (asked_open C B) e in
    let g = neither (eqb C 0) (ltb 4095 C) f.0 in
    let n = eqb-false C 0 g.0 in
    record { some = omega arith; few = ltb-false 4095 C g.1; long = ltb-false (length B) C f.1.0 }

pub open_sized : (C : ℕ) (B : List ℕ) → Sized C B → open_check C B ≡ Ok tt
unfolding open_check
open_sized C B s =
    let nonzero : C ≡ 0 → ⊥ = λ e. omega (arith, s.some) in
    rw (ne_eqb C 0 nonzero, le-ltb 4095 C s.few, le-ltb (length B) C s.long)

-- the position where a round starts is in range
pub position_first : (C : ℕ) → 0 < C → position_check C 1 ≡ Ok tt
unfolding position_check
position_first C some = rw (le-ltb (2 ^ sequences.digits C - 1) 1 (omega (arith, digits_lt C)))

pub slot_first : (C : ℕ) (B : List ℕ) → Sized C B → slot_check (drive_at C 1) B ≡ Ok tt
slot_first C B is = slot_parts (drive_at C 1) B ∙ rw (open_sized C B is) (position_first C is.some)

-- the checks of a slot look at no leaf
pub slot_long : (d : Drive) (B D : List ℕ) → length D ≡ length B → slot_check d B ≡ Ok tt → slot_check d D ≡ Ok tt
unfolding slot_check
slot_long d B D e h = rw e h

module _ (d : Drive) (B : List ℕ) where
  pub slot_sized : slot_check d B ≡ Ok tt → Sized d.capacity B
  slot_sized e = open_clear d.capacity B (first_clear _ _ (sym (slot_parts d B) ∙ e))

  pub slot_position : slot_check d B ≡ Ok tt → sequences.Position d.capacity d.position
  unfolding slot_check Passed
  slot_position e =
      let s = slot_sized e in
      let f = (passed slot_may (asked d B) e).1.1.0 in
      let g = neither (eqb d.position 0) (ltb (2 ^ sequences.digits d.capacity - 1) d.position) f in
      let n = eqb-false d.position 0 g.0 in
      let l = ltb-false (2 ^ sequences.digits d.capacity - 1) d.position g.1 in
      let z = pow_pos (sequences.digits d.capacity) in
      record { some = s.some; few = omega arith; first = omega arith; last = omega arith }

  pub change_slot : change_check d B ≡ Ok tt → slot_check d B ≡ Ok tt
  change_slot e = first_clear _ _ (sym (change_parts d B) ∙ e)

  pub change_start : change_check d B ≡ Ok tt → d.position ≡ 1
  unfolding change_check Passed
  change_start e = eqb-true d.position 1 (not-false (eqb d.position 1) (passed change_may (asked d B) e).1.1.1.0)

  pub change_good : change_check d B ≡ Ok tt → good d.capacity B ≡ true
  unfolding change_check Passed
  change_good e = not-false (good d.capacity B) (passed change_may (asked d B) e).1.1.1.1.0

  pub admit_change : (x w : ℕ) → admit_check d B x w ≡ Ok tt → change_check d B ≡ Ok tt
  admit_change x w e = first_clear _ _ (sym (admit_parts d B x w) ∙ e)

  -- what the search for room asks
  pub admit_clear : (x w : ℕ) → admit_check d B x w ≡ Ok tt → Admissible d.capacity B x
  unfolding admit_check Passed
  admit_clear x w e =
      let c = admit_change x w e in
      let s = slot_sized (change_slot c) in
      let f = (passed admit_may (asked_add d B x w) e).1.1.1.1.1 in
      let t = ltb-false 0 (weight d.capacity B x) f.1.1.0 in
      record { small = s.few; long = s.long; sound = change_good c; named = eqb-false x 0 f.0; absent = omega arith }

  pub add_admit : (x w : ℕ) → add_check d B x w ≡ Ok tt → admit_check d B x w ≡ Ok tt
  add_admit x w e = first_clear _ _ (sym (add_parts d B x w) ∙ e)

  pub add_change : (x w : ℕ) → add_check d B x w ≡ Ok tt → change_check d B ≡ Ok tt
  add_change x w e = admit_change x w (add_admit x w e)

  -- what placing asks
  pub add_clear : (x w : ℕ) → add_check d B x w ≡ Ok tt → Placeable d.capacity B x w
  add_clear x w e =
      let a = admit_clear x w (add_admit x w e) in
      let f = refuse_clear (ltb (weight d.capacity B 0) w) Room (Ok tt) (then_clear (admit_check d B x w) _ (sym (add_parts d B x w) ∙ e)) in
      record {
        small = a.small;
        long = a.long;
        sound = a.sound;
        named = a.named;
        absent = a.absent;
        room = ltb-false (weight d.capacity B 0) w f.0;
      }

  pub add_weight : (x w : ℕ) → add_check d B x w ≡ Ok tt → zero < w
  unfolding add_check Passed
  add_weight x w e = let n = eqb-false w 0 (passed add_may (asked_add d B x w) e).1.1.1.1.1.1.0 in omega arith

  pub remove_change : (x : ℕ) → remove_check d B x ≡ Ok tt → change_check d B ≡ Ok tt
  remove_change x e = first_clear _ _ (sym (remove_parts d B x) ∙ e)

  -- what removing asks
  pub remove_clear : (x : ℕ) → remove_check d B x ≡ Ok tt → Removable d.capacity B x
  unfolding remove_check Passed
  remove_clear x e =
      let c = remove_change x e in
      let s = slot_sized (change_slot c) in
      let f = (passed remove_may (asked_name d B x) e).1.1.1.1.1 in
      record { small = s.few; long = s.long; sound = change_good c; named = eqb-false x 0 f.0 }

  pub remove_held : (x : ℕ) → remove_check d B x ≡ Ok tt → weight d.capacity B x ≡ 0 → ⊥
  unfolding remove_check Passed
  remove_held x e = eqb-false (weight d.capacity B x) 0 (passed remove_may (asked_name d B x) e).1.1.1.1.1.1.0

  pub round_slot : (n : ℕ) → round_check d B n ≡ Ok tt → slot_check d B ≡ Ok tt
  round_slot n e = first_clear _ _ (sym (round_parts d B n) ∙ e)

  pub round_room : (n : ℕ) → round_check d B n ≡ Ok tt → d.capacity ≤ n
  unfolding round_check Passed
  round_room n e = ltb-false n d.capacity (passed round_may (asked_output d B n d.capacity) e).1.1.1.0

  pub report_slot : (x : ℕ) → report_check d B x ≡ Ok tt → slot_check d B ≡ Ok tt
  report_slot x e = first_clear _ _ (sym (report_parts d B x) ∙ e)

  pub report_good : (x : ℕ) → report_check d B x ≡ Ok tt → good d.capacity B ≡ true
  unfolding report_check Passed
  report_good x e = not-false (good d.capacity B) (passed report_may (asked_name d B x) e).1.1.1.0

  pub report_held : (x : ℕ) → report_check d B x ≡ Ok tt → weight d.capacity B x ≡ 0 → ⊥
  unfolding report_check Passed
  report_held x e = eqb-false (weight d.capacity B x) 0 (passed report_may (asked_name d B x) e).1.1.1.1.1.0
