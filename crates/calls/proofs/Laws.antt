-- The laws of the calls that document 01 asks for and upper crates cite: no second answer, record or slice fits a promise; a refusal leaves everything as it
-- was; a call answers only what it may; a round tells the whole board; what the spacing of a stream is. Assumes nothing.
use mathlib.Core.Path.{◌≡◌, refl, sym, ap, subst, ◌∙◌}
use mathlib.Core.Bool.{Bool, true, ◌&&◌}
use mathlib.Core.List.{List, [], ◌∷◌, map}
use Prim.Native.Nat.{ℕ, zero, suc, ◌/◌, ◌%◌, ◌^◌, ◌≤◌, ◌<◌}
use native.Mathlib.Decide.{dec_lt}
use native.Mathlib.Nat.{le_refl}
use native.Mathlib.Omega.{arith}
use lib.Dec.{eqb, ltb}
use lib.ListN.{length, get_or}
use borrow.Author.Tests.{eq-eqb, ne_eqb, eqb-true, ltb-true, le-ltb}
use Rattle.general.proofs.Laws.{unique, both, by_bool}
use Rattle.sequences.specs.SlotOrder.{leaf_at, served_from, next_from, Position}
use Rattle.sequences.specs.Serving.{count_list, leaves_from}
use Rattle.sequences.proofs.Laws.{first_position, leaf_below_lem, next_position, round_once}
use Rattle.pieces.specs.Board.{good, weight, piece_count}
use Rattle.pieces.specs.Placing.{Placeable, placed}
use Rattle.pieces.specs.Tidying as tidying
use Rattle.pieces.specs.Fresh.{fresh}
use Rattle.pieces.proofs.Laws.{placed_length, placed_good, placed_weight, removed_length, removed_good, removed_name, fresh_length, fresh_good, fresh_weights, fresh_same, fresh_again}
use Rattle.calls.specs.declared.Drive.{Drive}
use Rattle.calls.specs.declared.Refusal.{Refusal}
use Rattle.calls.specs.declared.Refusal.TheVariants.{Room}
use Rattle.calls.specs.Types.{Check, Checked, Changed, Served, Reported}
use Rattle.std.specs.Prelude.{Ok, Err}
use Rattle.calls.specs.declared.Unchanged.TheVariants as unchanged
use Rattle.calls.specs.Records.{drive_at}
use Rattle.calls.specs.Refusals.{Asked, number_of, applies, first_of, zero_or, numbers, among, open_may, add_may, remove_may, slot_may, round_may, report_may, change_may, asked_open, asked_add, asked_name, asked, asked_output, open_check, add_check, remove_check, slot_check, change_check, round_check, report_check, good_check, new_check}
use Rattle.calls.specs.Answers.{Answer, beside, check_answer, change_answer, serving_answer, report_answer}
use Rattle.calls.specs.Results.{if_clear, change_by, admitted_by, opened_answer, added_idle, added_answer, added_board, removed_idle, removed_answer, removed_board, refreshed_answer, refreshed_board, served_answer, slot_names, round_names, rounded_answer, reported_spacing, reported_answer}
use Rattle.calls.proofs.Checking.{change_parts, change_slot, change_start, add_change, add_clear, add_weight, remove_change, remove_clear, remove_held, admit_parts}
use Rattle.calls.proofs.Calling.{Refuses, refuses, refusal, may, first_within, first_among, never_within}
use Rattle.calls.specs.Spacing.{rounded_up}
use Rattle.calls.proofs.Spaced as spaced
use Rattle.calls.specs.Promises.{Opens, Adds, Removes, Refreshes, Serves, Rounds, Reports}
-- ---- what is known once the checks of a call are clear

unfoldable pub use Rattle.calls.proofs.Checking.{Passed}
pub use Rattle.calls.proofs.Checking.{Sized, count_small, passed, first_next, first_clear, then_clear, then_none, refuse_clear, open_clear, open_sized, slot_sized, slot_parts, slot_long, position_first, slot_first, change_parts, slot_position, change_slot, change_start, change_good, admit_change, admit_clear, add_parts, remove_parts, add_change, add_weight, add_clear, remove_change, remove_held, remove_clear, round_slot, round_room, report_slot, report_good, report_held}
pub use Rattle.calls.proofs.Admitting.{add_full}
-- an opened board is one with its leaves idle
pub use Rattle.calls.proofs.Writing.{idle_opened}
-- ---- spacing: the longest wait from one serve to the next (document 02, request No. 1)

-- Over the names of any round: it is the largest distance around the circle of the round; the round is no more than as many times the spacing as the name is
-- served; the spacing is at most the round, and all of it just where the name is served once. `gaps_..` say how a walk over the slots finds it.
pub use Rattle.calls.proofs.Waits.{spacing_circle, spacing_least, spacing_whole, spacing_once, gaps_served, gaps_passed, gaps_within, gaps_around}
-- On a board: a round serves each leaf of a name once, and twice C slots in a row are two rounds; a name with a run of 2 ^ l leaves waits C / 2 ^ l at most, rounded up.
pub use Rattle.calls.proofs.Spaced.{leaves_times, names_times, two_rounds, run_wait}
-- ---- what holds of every call

unfoldable pub use Rattle.calls.proofs.Calling.{covers}
pub use Rattle.calls.proofs.Calling.{number_some, number_tells, clear_number, is_clear_lem, not_clear, either_same, either_length, Refuses, refuses, refusal, Within, within_among, may, first_within, first_among, then_within, if_within, part_within, other_number, never_within}

-- ---- "the lowest number that applies is answered"

-- the numbers of a list go up, from above n
unfoldable pub ascending : ℕ → List Refusal → Bool
ascending n [] = true
ascending n (r ∷ rs) = ltb n (number_of r) && ascending (number_of r) rs

pub lists_ascending : (ascending 0 open_may && ascending 0 add_may && ascending 0 remove_may && ascending 0 slot_may && ascending 0 round_may && ascending 0 report_may && ascending 0 change_may) ≡ true
unfolding ascending
lists_ascending = refl

-- n is at most the number of each refusal of the list that applies
unfoldable pub Lowest : ℕ → List Refusal → Asked → Type 0
Lowest n [] a = Unit {0}
Lowest n (r ∷ rs) a = (applies r a ≡ true → n ≤ number_of r) × Lowest n rs a

above : (n m : ℕ) (rs : List Refusal) (a : Asked) → n ≤ m → ascending m rs ≡ true → Lowest n rs a
unfolding Lowest ascending
above n m [] a h e = tt
above n m (r ∷ rs) a h e =
    let f = both (ltb m (number_of r)) (ascending (number_of r) rs) e in
    let l = ltb-true m (number_of r) f.0 in
    ((λ t. omega arith), above n (number_of r) rs a (omega arith) f.1)

pub first_lowest : (n : ℕ) (rs : List Refusal) (a : Asked) (r : Refusal) → ascending n rs ≡ true → first_of rs a ≡ Err r
    → (applies r a ≡ true) × Lowest (number_of r) rs a
unfolding Lowest ascending first_of
first_lowest n [] a r o e = let z : ◌≡◌ {A = ℕ} 0 1 = cc in absurd (omega arith)
first_lowest n (s ∷ rs) a r o e =
    let f = both (ltb n (number_of s)) (ascending (number_of s) rs) o in
    by_bool (applies s a)
    (λ t.
    let g : s ≡ r = let h = rw t at e in cc in
    subst (λ (x : Refusal). (applies x a ≡ true) × Lowest (number_of x) (s ∷ rs) a) g
    (t, ((λ u. le_refl (number_of s)), above (number_of s) (number_of s) rs a (le_refl (number_of s)) f.1)))
    (λ t.
    let g = first_lowest (number_of s) rs a r f.1 (rw t at e) in
    (g.0, ((λ u. let z : ◌≡◌ {A = ℕ} 0 1 = cc in absurd (omega arith)), g.1)))

-- ---- ROOM is told with the idle leaves

admitted_tells : (k : Check) (left idle : ℕ) → admitted_by k left idle ≡ Err (unchanged.Refused Room) → ⊥
admitted_tells (Ok tt) left idle e = let z : ◌≡◌ {A = ℕ} 0 1 = cc in omega arith
admitted_tells (Err r) left idle e = by_bool (eqb (number_of r) 10)
    (λ t. let f = rw t at e in let z : ◌≡◌ {A = ℕ} 0 1 = cc in omega arith)
    (λ t. let f = rw t at e in let g : r ≡ Room = cc in let h = rw g at t in let z : ◌≡◌ {A = ℕ} 0 1 = cc in omega arith)

changed_tells : (k : Check) (idle : ℕ) → (k ≡ Err Room → ⊥) → change_by k idle ≡ Err (unchanged.Refused Room) → ⊥
changed_tells (Ok tt) idle n e = let z : ◌≡◌ {A = ℕ} 0 1 = cc in omega arith
changed_tells (Err r) idle n e = let g : r ≡ Room = cc in n (rw g refl)

-- ---- open

module _ (C : ℕ) (B : List ℕ) where
  pub open_unique : {r s : Checked} {E F : List ℕ} → Opens C B r E → Opens C B s F → (r ≡ s) × (E ≡ F)
  open_unique p q = (unique p.0 q.0, unique p.2 q.2)

  pub open_refused : {r : Checked} {E : List ℕ} → Opens C B r E → Refuses (check_answer r.answer) → (r.drive ≡ drive_at 0 0) × (E ≡ B)
  open_refused p h = rw (p.0, p.2, (refusal (open_check C B) (refuses p.1 h)).1) (refl, refl)

  pub open_answers : among (opened_answer C B).number open_may ≡ true
  unfolding open_check
  open_answers = first_among open_may (asked_open C B)

  pub open_may_lem : {r : Checked} {E : List ℕ} → Opens C B r E → among (check_answer r.answer).number open_may ≡ true
  open_may_lem p = may open_may p.1 open_answers

-- ---- add

module _ (d : Drive) (B : List ℕ) (x w : ℕ) where
  pub add_unique : {r s : Changed} {E F : List ℕ} → Adds d B x w r E → Adds d B x w s F → (r ≡ s) × (E ≡ F)
  add_unique p q = (unique p.0 q.0, unique p.2 q.2)

  -- the values are zero, but for ROOM the idle leaves
  pub add_refused : {r : Changed} {E : List ℕ} → Adds d B x w r E → Refuses (change_answer r.answer)
      → (r.drive ≡ d) × ((change_answer r.answer).values ≡ beside (change_answer r.answer).number (weight d.capacity B 0) ∷ []) × (E ≡ B)
  add_refused p h =
      let f = (refusal (add_check d B x w) (refuses p.1 h)).1 in (
        ap (λ (r : Changed). r.drive) p.0,
        subst (λ (a : Answer). a.values ≡ beside a.number (weight d.capacity B 0) ∷ []) (sym p.1) (rw f refl),
        p.2 ∙ rw f refl,
      )

  -- ROOM is never told without them
  pub add_tells : {r : Changed} {E : List ℕ} → Adds d B x w r E → r.answer ≡ Err (unchanged.Refused Room) → ⊥
  add_tells p e = admitted_tells (add_check d B x w) (added_idle d B x w) (weight d.capacity B 0) (ap (λ (r : Changed). r.answer) (sym p.0) ∙ e)

  pub add_answers : among (added_answer d B x w).number add_may ≡ true
  unfolding add_check
  add_answers = first_among add_may (asked_add d B x w)

  pub add_may_lem : {r : Changed} {E : List ℕ} → Adds d B x w r E → among (change_answer r.answer).number add_may ≡ true
  add_may_lem p = may add_may p.1 add_answers

-- ---- remove

module _ (d : Drive) (B : List ℕ) (x : ℕ) where
  pub remove_unique : {r s : Changed} {E F : List ℕ} → Removes d B x r E → Removes d B x s F → (r ≡ s) × (E ≡ F)
  remove_unique p q = (unique p.0 q.0, unique p.2 q.2)

  pub remove_refused : {r : Changed} {E : List ℕ} → Removes d B x r E → Refuses (change_answer r.answer)
      → (r.drive ≡ d) × ((change_answer r.answer).values ≡ 0 ∷ []) × (E ≡ B)
  remove_refused p h = rw (p.0, p.2, (refusal (remove_check d B x) (refuses p.1 h)).1) (refl, refl, refl)

  pub remove_tells : {r : Changed} {E : List ℕ} → Removes d B x r E → r.answer ≡ Err (unchanged.Refused Room) → ⊥
  unfolding remove_check zero_or
  remove_tells p e = changed_tells (remove_check d B x) (removed_idle d B x)
      (never_within (numbers remove_may) (remove_check d B x) Room (first_within remove_may (asked_name d B x)) refl)
      (ap (λ (r : Changed). r.answer) (sym p.0) ∙ e)

  pub remove_answers : among (removed_answer d B x).number remove_may ≡ true
  unfolding remove_check
  remove_answers = first_among remove_may (asked_name d B x)

  pub remove_may_lem : {r : Changed} {E : List ℕ} → Removes d B x r E → among (change_answer r.answer).number remove_may ≡ true
  remove_may_lem p = may remove_may p.1 remove_answers

-- ---- the fresh layout

module _ (d : Drive) (B : List ℕ) where
  pub fresh_unique : {r s : Checked} {E F : List ℕ} → Refreshes d B r E → Refreshes d B s F → (r ≡ s) × (E ≡ F)
  fresh_unique p q = (unique p.0 q.0, unique p.2 q.2)

  pub fresh_refused : {r : Checked} {E : List ℕ} → Refreshes d B r E → Refuses (check_answer r.answer) → (r.drive ≡ d) × (E ≡ B)
  fresh_refused p h = rw (p.0, p.2, (refusal (change_check d B) (refuses p.1 h)).1) (refl, refl)

  pub fresh_answers : among (refreshed_answer d B).number change_may ≡ true
  unfolding change_check
  fresh_answers = first_among change_may (asked d B)

  pub fresh_may : {r : Checked} {E : List ℕ} → Refreshes d B r E → among (check_answer r.answer).number change_may ≡ true
  fresh_may p = may change_may p.1 fresh_answers

-- ---- slot

module _ (d : Drive) (B : List ℕ) where
  pub slot_unique : {r s : Served} → Serves d B r → Serves d B s → r ≡ s
  slot_unique p q = unique p.0 q.0

  pub slot_refused : {r : Served} → Serves d B r → Refuses (serving_answer r.answer) → (r.drive ≡ d) × ((serving_answer r.answer).values ≡ 0 ∷ 0 ∷ 0 ∷ 0 ∷ [])
  slot_refused p h = rw (p.0, (refusal (slot_check d B) (refuses p.1 h)).1) (refl, refl)

  pub slot_answers : among (served_answer d B).number slot_may ≡ true
  unfolding slot_check
  slot_answers = first_among slot_may (asked d B)

  pub slot_may_lem : {r : Served} → Serves d B r → among (serving_answer r.answer).number slot_may ≡ true
  slot_may_lem p = may slot_may p.1 slot_answers

-- ---- round

module _ (d : Drive) (B O : List ℕ) where
  pub round_unique : {r s : Checked} {E F : List ℕ} → Rounds d B O r E → Rounds d B O s F → (r ≡ s) × (E ≡ F)
  round_unique p q = (unique p.0 q.0, unique p.2 q.2)

  pub round_refused : {r : Checked} {E : List ℕ} → Rounds d B O r E → Refuses (check_answer r.answer) → (r.drive ≡ d) × (E ≡ O)
  round_refused p h = rw (p.0, p.2, (refusal (round_check d B (length O)) (refuses p.1 h)).1) (refl, refl)

  pub round_answers : among (rounded_answer d B O).number round_may ≡ true
  unfolding round_check
  round_answers = first_among round_may (asked_output d B (length O) d.capacity)

  pub round_may_lem : {r : Checked} {E : List ℕ} → Rounds d B O r E → among (check_answer r.answer).number round_may ≡ true
  round_may_lem p = may round_may p.1 round_answers

-- ---- report

module _ (d : Drive) (B : List ℕ) (x : ℕ) where
  pub report_unique : {r s : Reported} → Reports d B x r → Reports d B x s → r ≡ s
  report_unique p q = unique p.0 q.0

  pub report_refused : {r : Reported} → Reports d B x r → Refuses (report_answer r.answer) → (r.drive ≡ d) × ((report_answer r.answer).values ≡ 0 ∷ 0 ∷ 0 ∷ [])
  report_refused p h = rw (p.0, (refusal (report_check d B x) (refuses p.1 h)).1) (refl, refl)

  pub report_answers : among (reported_answer d B x).number report_may ≡ true
  unfolding report_check
  report_answers = first_among report_may (asked_name d B x)

  pub report_may_lem : {r : Reported} → Reports d B x r → among (report_answer r.answer).number report_may ≡ true
  report_may_lem p = may report_may p.1 report_answers

-- ---- changes one after the other: none of them changes what the checks 1 to 5 find, since the board keeps its length and stays good

module _ (d : Drive) (B : List ℕ) where
  -- they find nothing on another board of that length that is good
  good_again : (D : List ℕ) → length D ≡ length B → good d.capacity D ≡ true → change_check d B ≡ Ok tt → change_check d D ≡ Ok tt
  unfolding slot_check good_check
  good_again D long fine e = change_parts d D ∙ rw (long, change_slot d B e, change_start d B e, fine) refl

  pub add_keeps : (x w : ℕ) → change_check d (added_board d B x w) ≡ change_check d B
  add_keeps x w = go (add_check d B x w) refl
    where
      go : (k : Check) → add_check d B x w ≡ k → change_check d (if_clear k (placed d.capacity B x w) B) ≡ change_check d B
      go (Err r) e = refl
      go (Ok tt) e =
          let may = add_clear d B x w e in
          let clear = add_change d B x w e in
          good_again (placed d.capacity B x w) (placed_length d.capacity B x w may) (placed_good d.capacity B x w may) clear ∙ sym clear

  pub remove_keeps : (x : ℕ) → change_check d (removed_board d B x) ≡ change_check d B
  remove_keeps x = go (remove_check d B x) refl
    where
      go : (k : Check) → remove_check d B x ≡ k → change_check d (if_clear k (tidying.removed d.capacity B x) B) ≡ change_check d B
      go (Err r) e = refl
      go (Ok tt) e =
          let may = remove_clear d B x e in
          let clear = remove_change d B x e in
          good_again (tidying.removed d.capacity B x) (removed_length d.capacity B x may) (removed_good d.capacity B x may) clear ∙ sym clear

  -- an add that can be placed passes its checks where these pass
  pub add_passes : (x w : ℕ) → change_check d B ≡ Ok tt → Placeable d.capacity B x w → 0 < w → add_check d B x w ≡ Ok tt
  unfolding new_check
  add_passes x w e may some = add_parts d B x w
      ∙ rw (
        admit_parts d B x w,
        e,
        ne_eqb x 0 may.named,
        ne_eqb w 0 (λ z. omega arith),
        le-ltb 0 (weight d.capacity B x) (omega (arith, may.absent)),
        le-ltb (weight d.capacity B 0) w may.room,
      ) refl

  pub fresh_keeps : change_check d (refreshed_board d B) ≡ change_check d B
  fresh_keeps = go (change_check d B) refl
    where
      go : (k : Check) → change_check d B ≡ k → change_check d (if_clear k (fresh d.capacity B) B) ≡ change_check d B
      go (Err r) e = refl
      go (Ok tt) e =
          let s = slot_sized d B (change_slot d B e) in
          good_again (fresh d.capacity B) (fresh_length d.capacity B s.few s.long) (fresh_good d.capacity B s.few s.long) e ∙ sym e

-- ---- "a leaf holds the name"

pub held_leaf : (C : ℕ) (B : List ℕ) (x : ℕ) → 0 < weight C B x → (i : ℕ) × (i < C) × (get_or B i 0 ≡ x)
unfolding weight
held_leaf zero B x h = absurd (omega arith)
held_leaf (suc n) B x h = by_bool (eqb (get_or B n 0) x)
    (λ t. (n, omega arith, eqb-true (get_or B n 0) x t))
    (λ f. let l = rw f at h in let g = held_leaf n B x (omega arith) in (g.0, omega arith, g.2))

pub leaf_held : (C : ℕ) (B : List ℕ) (x i : ℕ) → i < C → get_or B i 0 ≡ x → 0 < weight C B x
unfolding weight
leaf_held zero B x i h e = absurd (omega arith)
leaf_held (suc n) B x i h e = elim (dec_lt i n) [
  | yes l ↦ omega (arith, leaf_held n B x i l e)
  | no l ↦ let z : i ≡ n = omega arith in rw (eq-eqb (get_or B n 0) x (rw z at e)) (omega arith)
]

-- ---- a round tells the whole board

mapped : (f g : ℕ → ℕ) (xs : List ℕ) (x : ℕ) → map f xs ≡ map g xs → 0 < count_list (λ (y : ℕ). eqb y x) xs → f x ≡ g x
unfolding count_list
mapped f g [] x e h = absurd (omega arith)
mapped f g (y ∷ xs) x e h = by_bool (eqb y x)
    (λ t. let z : f y ≡ g y = cc in rw (eqb-true y x t) at z)
    (λ n. let l = rw n at h in mapped f g xs x (cc) (omega arith))

pub round_tells : (C : ℕ) (B D : List ℕ) → C < 4096 → round_names C B ≡ round_names C D → (i : ℕ) → i < C → get_or B i 0 ≡ get_or D i 0
unfolding slot_names
round_tells C B D few e i h =
    mapped (λ leaf. get_or B leaf 0) (λ leaf. get_or D leaf 0) (leaves_from C 1 C) i e (omega (arith, round_once C i few h))

-- and hangs on the leaves alone

names_same : (C : ℕ) (B D : List ℕ) → ((i : ℕ) → i < C → get_or B i 0 ≡ get_or D i 0) → (n p : ℕ) → Position C p
    → map (λ leaf. get_or B leaf 0) (leaves_from C p n) ≡ map (λ leaf. get_or D leaf 0) (leaves_from C p n)
unfolding leaves_from
names_same C B D same zero p at = refl
names_same C B D same (suc n) p at =
    rw (same (leaf_at C (served_from C p)) (leaf_below_lem C p at), names_same C B D same n (next_from C p) (next_position C p at)) refl

pub round_same : (C : ℕ) (B D : List ℕ) → zero < C → C < 4096 → ((i : ℕ) → i < C → get_or B i 0 ≡ get_or D i 0) → round_names C B ≡ round_names C D
unfolding slot_names
round_same C B D some few same = names_same C B D same C 1 (first_position C some few)

-- so a change that is done shows in the next round

weight_same : (C : ℕ) (B D : List ℕ) (x : ℕ) → ((i : ℕ) → i < C → get_or B i 0 ≡ get_or D i 0) → weight C B x ≡ weight C D x
unfolding weight
weight_same zero B D x same = refl
weight_same (suc n) B D x same = rw (weight_same n B D x (λ i h. same i (omega arith)), same n (omega arith))

pub add_shows : (d : Drive) (B : List ℕ) (x w : ℕ) → add_check d B x w ≡ Ok tt → round_names d.capacity (added_board d B x w) ≡ round_names d.capacity B → ⊥
add_shows d B x w e r =
    let p = add_clear d B x w e in
    let f = rw e at r in
    let s = weight_same d.capacity (placed d.capacity B x w) B x (round_tells d.capacity _ _ (omega (arith, p.small)) f) in
    omega (arith, placed_weight d.capacity B x w p, p.absent, add_weight d B x w e)

pub remove_shows : (d : Drive) (B : List ℕ) (x : ℕ) → remove_check d B x ≡ Ok tt → round_names d.capacity (removed_board d B x) ≡ round_names d.capacity B → ⊥
remove_shows d B x e r =
    let p = remove_clear d B x e in
    let f = rw e at r in
    let s = weight_same d.capacity (tidying.removed d.capacity B x) B x (round_tells d.capacity _ _ (omega (arith, p.small)) f) in
    let h = remove_held d B x e in
    omega (arith, removed_name d.capacity B x p)

-- ---- what the fresh layout does

module _ (d : Drive) (B : List ℕ) where
  -- Every stream keeps its weight, and as many leaves are idle.
  pub fresh_held : (x : ℕ) → weight d.capacity (refreshed_board d B) x ≡ weight d.capacity B x
  fresh_held x = go (change_check d B) refl
    where
      go : (k : Check) → change_check d B ≡ k → weight d.capacity (if_clear k (fresh d.capacity B) B) x ≡ weight d.capacity B x
      go (Err r) e = refl
      go (Ok tt) e = let s = slot_sized d B (change_slot d B e) in fresh_weights d.capacity B s.few s.long x

  -- Doing it again changes nothing.
  pub fresh_twice : refreshed_board d (refreshed_board d B) ≡ refreshed_board d B
  fresh_twice = go (change_check d B) refl
    where
      go : (k : Check) → change_check d B ≡ k → refreshed_board d (refreshed_board d B) ≡ refreshed_board d B
      go (Err r) e = rw (e, e) refl
      go (Ok tt) e =
          let s = slot_sized d B (change_slot d B e) in
          rw (fresh_keeps d B, e) (fresh_again d.capacity B s.few s.long)

-- Equal streams and weights give equal leaves, and so equal rounds, whatever boards they stood on.
module _ (d d' : Drive) (B B'' : List ℕ) (size : d.capacity ≡ d'.capacity) (clear : change_check d B ≡ Ok tt) (clear' : change_check d' B'' ≡ Ok tt)
    (same : (x : ℕ) → (x ≡ 0 → ⊥) → weight d.capacity B x ≡ weight d.capacity B'' x) where
  pub fresh_equal : (i : ℕ) → i < d.capacity → get_or (refreshed_board d B) i 0 ≡ get_or (refreshed_board d' B'') i 0
  fresh_equal =
      let s = slot_sized d B (change_slot d B clear) in
      let t = slot_sized d' B'' (change_slot d' B'' clear') in
      rw (clear, clear', ← size) (fresh_same d.capacity B B'' s.long (rw (← size) at t.long) same)

  pub fresh_rounds : round_names d.capacity (refreshed_board d B) ≡ round_names d.capacity (refreshed_board d' B'')
  fresh_rounds =
      let s = slot_sized d B (change_slot d B clear) in
      round_same d.capacity (refreshed_board d B) (refreshed_board d' B'') s.some (omega (arith, s.few)) fresh_equal

-- ---- the spacing that is reported

module _ (d : Drive) (B : List ℕ) (x : ℕ) (clear : report_check d B x ≡ Ok tt) where
  sized : Sized d.capacity B
  sized = slot_sized d B (report_slot d B x clear)

  few : d.capacity < 4096
  few = omega (arith, sized.few)

  held : 0 < weight d.capacity B x
  held = let h = report_held d B x clear in omega arith

  -- A report says C just where the stream is served once a round,
  pub report_once : (reported_spacing d B x ≡ d.capacity → weight d.capacity B x ≡ 1) × (weight d.capacity B x ≡ 1 → reported_spacing d B x ≡ d.capacity)
  report_once = spaced.once d.capacity B few x held

  -- and never less than C over its weight, rounded up, which document 01 had;
  pub report_least : rounded_up d.capacity (weight d.capacity B x) ≤ reported_spacing d B x
  report_least = spaced.least d.capacity B few x held

  -- for a stream of one piece it says just that,
  pub report_one_piece : piece_count d.capacity B x ≡ 1 → reported_spacing d B x ≡ rounded_up d.capacity (weight d.capacity B x)
  report_one_piece = spaced.one_piece d.capacity B few x held (report_good d B x clear)

  -- and for any stream no more than C over its largest piece, rounded up: 2 ^ l for the highest one of its weight, or any other one.
  pub report_most : (l : ℕ) → weight d.capacity B x / 2 ^ l % 2 ≡ 1 → reported_spacing d B x ≤ rounded_up d.capacity (2 ^ l)
  report_most = spaced.piece_wait d.capacity B few x (report_good d B x clear)
