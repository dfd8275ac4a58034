-- What the calls with the list answer: only the numbers of their lists; refused, nothing is changed. Assumes nothing.
use mathlib.Core.Path.{◌≡◌, refl, subst}
use mathlib.Core.Bool.{Bool, true, false, cond, not}
use mathlib.Core.List.{List, [], ◌∷◌, ◌++◌}
use mathlib.Core.Logic.{⊎_elim}
use Prim.Native.Nat.{ℕ, ◌+◌}
use lib.Dec.{eqb, ltb}
use lib.ListN.{length, drop}
use borrow.Author.Tests.{eq-eqb, eqb-false}
use Rattle.drives.proofs.Laws.{remove_order_lem}
use Rattle.general.proofs.Laws.{clash, by_bool}
use Rattle.pieces.specs.Board.{good, weight, piece_count}
use Rattle.pieces.specs.Fresh.{fresh}
use Rattle.calls.specs.declared.Drive.{Drive}
use Rattle.calls.specs.declared.Refusal.{Refusal}
use Rattle.calls.specs.declared.Refusal.TheVariants.{Short, Position, Damaged, Name, Weight, Taken, Absent, Room, Block}
use Rattle.calls.specs.Types.{Check}
use Rattle.std.specs.Prelude.{Ok, Err}
use Rattle.calls.specs.Refusals.{numbers, number_of, first_of, refuse_if, and_then, zero_or, among, asked_open, asked, asked_add, asked_name, open_may, change_may, slot_may, open_check, slot_check, position_check, good_check, held_check, change_check, admit_check, add_check, remove_check, round_check, report_check}
use Rattle.calls.specs.Records.{drive_at}
use Rattle.calls.specs.Answers.{number_by, answered, beside}
use Rattle.calls.specs.Results.{if_clear, round_names, reported_spacing}
use Rattle.calls.proofs.Laws.{refusal, Within, covers, first_next, first_within, then_within, if_within, part_within, other_number, change_parts, add_parts, remove_parts, round_answers, report_answers, fresh_answers}
use Rattle.demands.specs.Refusing.{zeros}
use Rattle.sheets.specs.Sheet.{capacity_in}
use Rattle.sheets.specs.Forms.{Form, size_of, saving_check, asked_sheet, block_check, head_check}
use Rattle.sheets.specs.Results.{save_pieces_may}
use Rattle.sheets.proofs.Laws.{save_answers, save_pieces_answers}
use Rattle.waiting.specs.declared.Order.{Order}
use Rattle.waiting.specs.Layout.{too_short, last_ticket, full, taken_list}
use Rattle.waiting.proofs.Laws.{fetch_cases}
use Rattle.orders.specs.Types.{Way}
use Rattle.orders.specs.declared.Moment.TheVariants as moment
use Rattle.orders.specs.Checks.{long_check, lent_check, bounds_check, reading_check, order_check, must_wait, way_by, way_of}
use Rattle.orders.specs.Results.{add_order, remove_order, carried_answer, carried_board, changed_answer_by, board_by, list_by, served_by, served_answer_by, board_then, list_then}
use Rattle.orders.proofs.Laws.{now_start}
use Rattle.amended.specs.Deeds.{Sheets, Leaves, Pieces, form_of, Deed, Opens, Reads, Adds, Removes, Slots, Rounds, Reports, Saves, Fetches, Refreshes, Desk, open_checks, read_checks, first_checks, way_at, answers}
use Rattle.amended.specs.Refusing as refusing
use Rattle.amended.specs.Refusing.{RefusedBy, may_answer, is_done, idle_leaves}

-- ---- the checks keep to their lists

pub lent_within : (C : ℕ) (B : List ℕ) (n : ℕ) → Within (1 ∷ 2 ∷ []) (lent_check C B n)
unfolding lent_check open_check zero_or
lent_within C B n =
    then_within (1 ∷ 2 ∷ []) (open_check C B) (long_check n) (first_within open_may (asked_open C B)) (if_within (1 ∷ 2 ∷ []) (too_short n) Short (Ok tt) refl refl)

pub bounds_within : (d : Drive) (B : List ℕ) (n : ℕ) → Within (1 ∷ 2 ∷ 3 ∷ []) (bounds_check d B n)
unfolding bounds_check position_check covers zero_or
bounds_within d B n =
    let ns : List ℕ = 1 ∷ 2 ∷ 3 ∷ [] in
    then_within ns (lent_check d.capacity B n) (position_check d.capacity d.position)
    (part_within ns (1 ∷ 2 ∷ []) (lent_check d.capacity B n) refl (lent_within d.capacity B n))
    (part_within ns (3 ∷ []) (position_check d.capacity d.position) refl (first_within (Position ∷ []) (asked (drive_at d.capacity d.position) [])))

block_within : (broken : Bool) → Within (12 ∷ 1 ∷ 2 ∷ 5 ∷ []) (block_check broken)
unfolding block_check covers zero_or
block_within broken = part_within (12 ∷ 1 ∷ 2 ∷ 5 ∷ []) (12 ∷ []) (block_check broken) refl (first_within (Block ∷ []) (asked_sheet broken))

read_within : (F : Form) (S B : List ℕ) (n : ℕ) → Within (12 ∷ 1 ∷ 2 ∷ 5 ∷ []) (reading_check F S B n)
unfolding reading_check head_check open_check good_check covers zero_or
read_within F S B n =
    let ns : List ℕ = 12 ∷ 1 ∷ 2 ∷ 5 ∷ [] in
    let C = capacity_in S in
    let sound = good_check C (F.leaves C S) in
    let laying = and_then (block_check (not (F.laid C S))) sound in
    then_within ns (head_check S B) (and_then (long_check n) laying)
    (then_within ns (block_check (ltb (length S) 512)) (open_check C B) (block_within (ltb (length S) 512))
    (part_within ns (1 ∷ 2 ∷ []) (open_check C B) refl (first_within open_may (asked_open C B))))
    (then_within ns (long_check n) laying (if_within ns (too_short n) Short (Ok tt) refl refl)
    (then_within ns (block_check (not (F.laid C S))) sound (block_within (not (F.laid C S)))
    (part_within ns (5 ∷ []) sound refl (first_within (Damaged ∷ []) (asked (drive_at C 1) (F.leaves C S))))))

save_within : (form : Sheets) (d : Drive) (B O : List ℕ) → Within (1 ∷ 2 ∷ 3 ∷ 4 ∷ 5 ∷ 11 ∷ []) (saving_check (form_of form) d B (length O))
unfolding among covers zero_or
save_within Leaves d B O = save_answers d B O
save_within Pieces d B O =
    part_within (1 ∷ 2 ∷ 3 ∷ 4 ∷ 5 ∷ 11 ∷ []) (numbers save_pieces_may) (saving_check (form_of Pieces) d B (length O)) refl (save_pieces_answers d B O)

-- an order that is to wait
pub order_within : (C : ℕ) (B : List ℕ) (o : Order) → Within (5 ∷ 6 ∷ 7 ∷ []) (order_check C B o)
unfolding order_check zero_or
order_within C B o =
    let ns : List ℕ = 5 ∷ 6 ∷ 7 ∷ [] in
    let weightless = cond (eqb o.kind 2) false (eqb o.weight 0) in
    if_within ns (not (good C B)) Damaged (refuse_if (eqb o.name 0) Name (refuse_if weightless Weight (Ok tt))) refl
    (if_within ns (eqb o.name 0) Name (refuse_if weightless Weight (Ok tt)) refl (if_within ns weightless Weight (Ok tt) refl refl))

-- a change that is made at position 1 is not refused for MIDROUND
change_within : (d : Drive) (B : List ℕ) → d.position ≡ 1 → Within (1 ∷ 2 ∷ 3 ∷ 5 ∷ []) (change_check d B)
unfolding slot_check good_check covers zero_or
change_within d B first =
    let ns : List ℕ = 1 ∷ 2 ∷ 3 ∷ 5 ∷ [] in
    rw (change_parts d B, eq-eqb d.position 1 first)
    (then_within ns (slot_check d B) (good_check d.capacity B)
    (part_within ns (1 ∷ 2 ∷ 3 ∷ []) (slot_check d B) refl (first_within slot_may (asked d B)))
    (part_within ns (5 ∷ []) (good_check d.capacity B) refl (first_within (Damaged ∷ []) (asked (drive_at d.capacity 1) B))))

pub add_within : (d : Drive) (B : List ℕ) (x w : ℕ) → d.position ≡ 1 → Within (1 ∷ 2 ∷ 3 ∷ 5 ∷ 6 ∷ 7 ∷ 8 ∷ 10 ∷ []) (add_check d B x w)
unfolding admit_check change_check covers zero_or
add_within d B x w first =
    let ns : List ℕ = 1 ∷ 2 ∷ 3 ∷ 5 ∷ 6 ∷ 7 ∷ 8 ∷ 10 ∷ [] in
    let own : List Refusal = Name ∷ Weight ∷ Taken ∷ [] in
    let q = asked_add d B x w in
    let admit : Within ns (admit_check d B x w) =
    rw (first_next change_may own q)
    (then_within ns (change_check d B) (first_of own q)
    (part_within ns (1 ∷ 2 ∷ 3 ∷ 5 ∷ []) (change_check d B) refl (change_within d B first))
    (part_within ns (6 ∷ 7 ∷ 8 ∷ []) (first_of own q) refl (first_within own q))) in
    let room : Check = refuse_if (ltb (weight d.capacity B 0) w) Room (Ok tt) in
    rw (add_parts d B x w) (then_within ns (admit_check d B x w) room admit (if_within ns (ltb (weight d.capacity B 0) w) Room (Ok tt) refl refl))

pub remove_within : (d : Drive) (B : List ℕ) (x : ℕ) → d.position ≡ 1 → Within (1 ∷ 2 ∷ 3 ∷ 5 ∷ 6 ∷ 9 ∷ []) (remove_check d B x)
unfolding held_check covers zero_or
remove_within d B x first =
    let ns : List ℕ = 1 ∷ 2 ∷ 3 ∷ 5 ∷ 6 ∷ 9 ∷ [] in
    rw (remove_parts d B x)
    (then_within ns (change_check d B) (held_check d.capacity B x)
    (part_within ns (1 ∷ 2 ∷ 3 ∷ 5 ∷ []) (change_check d B) refl (change_within d B first))
    (part_within ns (6 ∷ 9 ∷ []) (held_check d.capacity B x) refl (first_within (Name ∷ Absent ∷ []) (asked_name (drive_at d.capacity 1) B x))))

-- a change that is not made keeps to the lists of the first checks and of an order
pub way_within : (ns : List ℕ) (k : Check) (waits : Bool) (j : Check) → Within ns k → Within ns j → (r : Refusal) → way_by k waits j ≡ Err r → zero_or (number_of r) ns ≡ true
way_within ns (Err q) waits j m n r e = let z : q ≡ r = cc in subst (λ (x : Refusal). zero_or (number_of x) ns ≡ true) z m
way_within ns (Ok u) false j m n r e = cc
way_within ns (Ok u) true (Ok v) m n r e = cc
way_within ns (Ok u) true (Err q) m n r e = let z : q ≡ r = cc in subst (λ (x : Refusal). zero_or (number_of x) ns ≡ true) z n

-- How a change may be taken: it is refused only by a number of ns, and made at once only where a round begins.
pub record TakenBy (ns : List ℕ) (d : Drive) (k : Way) : Type 0 where
  pub within : (r : Refusal) → k ≡ Err r → zero_or (number_of r) ns ≡ true
  pub first : k ≡ Ok moment.Now → d.position ≡ 1

-- ---- demand 1, call by call

-- a call is refused where its number is not 0
refused : (k : Check) → eqb (number_by k) 0 ≡ false → (r : Refusal) × (k ≡ Err r)
refused k e = refusal k (λ z. eqb-false (number_by k) 0 e z)

-- zeros, where the list has neither 13 nor 10
zeros_say : (ns : List ℕ) (n t idle : ℕ) (vs : List ℕ) → zero_or n ns ≡ true → zero_or 13 ns ≡ false → zero_or 10 ns ≡ false → vs ≡ zeros vs
    → vs ≡ cond (eqb n 13) (t ∷ []) (cond (eqb n 10) (idle ∷ []) (zeros vs))
zeros_say ns n t idle vs m a b z = rw (other_number ns n 13 m a, other_number ns n 10 m b) z

-- ROOM's idle leaves, where the list has not 13
beside_say : (ns : List ℕ) (n t idle : ℕ) → zero_or n ns ≡ true → zero_or 13 ns ≡ false
    → beside n idle ∷ [] ≡ cond (eqb n 13) (t ∷ []) (cond (eqb n 10) (idle ∷ []) (0 ∷ []))
beside_say ns n t idle m a = rw (other_number ns n 13 m a) (by_bool (eqb n 10) (λ y. rw y refl) (λ y. rw y refl))

-- the refusals of an add and of a remove that are not made
abbrev pub firsts : List ℕ
firsts = 1 ∷ 2 ∷ 3 ∷ 5 ∷ 6 ∷ 7 ∷ []

abbrev pub remove_firsts : List ℕ
remove_firsts = 1 ∷ 2 ∷ 3 ∷ 5 ∷ 6 ∷ []

-- ---- add and remove, in whatever way they are taken

module _ (s : Desk) where
  abbrev d : Drive
  d = s.state.drive

  abbrev B : List ℕ
  B = s.state.board

  abbrev L : List ℕ
  L = s.list

  -- what a change leaves, taken in the way k
  abbrev LeftBy : Deed → Order → Way → Type 0
  LeftBy a o k = RefusedBy a s (changed_answer_by k d B L o) d (board_by k (carried_board d B o) B) (list_by k (taken_list L o) L) []

  pub add_refused : (x w : ℕ) (k : Way) → TakenBy firsts d k → eqb (changed_answer_by k d B L (add_order x w)).number 0 ≡ false → LeftBy (Adds x w) (add_order x w) k
  unfolding covers zero_or carried_answer carried_board
  add_refused x w (Err r) t h =
      let m = t.within r refl in
      record {
        number = part_within (may_answer (Adds x w)) firsts (Err r) refl m;
        record' = refl;
        board = refl;
        list = λ q. refl;
        output = refl;
        values = zeros_say firsts (number_of r) (last_ticket L + 1) (idle_leaves s) (0 ∷ []) m refl refl refl;
      }
  add_refused x w (Ok moment.Later) t h = by_bool (full L)
      (λ f. record { number = rw f refl; record' = refl; board = refl; list = λ q. rw f refl; output = refl; values = rw f refl })
      (λ f. record {
        number = rw f refl;
        record' = refl;
        board = refl;
        list = λ q. let z = rw f at q in cc;
        output = refl;
        values = rw f refl;
      })
  add_refused x w (Ok moment.Now) t h =
      let ns : List ℕ = 1 ∷ 2 ∷ 3 ∷ 5 ∷ 6 ∷ 7 ∷ 8 ∷ 10 ∷ [] in
      let f = refused (add_check d B x w) h in
      let m : zero_or (number_of f.0) ns ≡ true = rw f.1 at (add_within d B x w (t.first refl)) in
      record {
        number = rw f.1 (part_within (may_answer (Adds x w)) ns (Err f.0) refl m);
        record' = refl;
        board = rw f.1 refl;
        list = λ q. refl;
        output = refl;
        values = rw f.1 (beside_say ns (number_of f.0) (last_ticket L + 1) (idle_leaves s) m refl);
      }

  pub remove_refused : (x : ℕ) (k : Way) → TakenBy remove_firsts d k → eqb (changed_answer_by k d B L (remove_order x)).number 0 ≡ false → LeftBy (Removes x) (remove_order x) k
  unfolding covers zero_or carried_answer carried_board
  remove_refused x (Err r) t h =
      let m = t.within r refl in
      record {
        number = part_within (may_answer (Removes x)) remove_firsts (Err r) refl m;
        record' = refl;
        board = refl;
        list = λ q. refl;
        output = refl;
        values = zeros_say remove_firsts (number_of r) (last_ticket L + 1) (idle_leaves s) (0 ∷ []) m refl refl refl;
      }
  remove_refused x (Ok moment.Later) t h = by_bool (full L)
      (λ f. record { number = rw f refl; record' = refl; board = refl; list = λ q. rw f refl; output = refl; values = rw f refl })
      (λ f. record {
        number = rw f refl;
        record' = refl;
        board = refl;
        list = λ q. let z = rw f at q in cc;
        output = refl;
        values = rw f refl;
      })
  remove_refused x (Ok moment.Now) t h =
      let ns : List ℕ = 1 ∷ 2 ∷ 3 ∷ 5 ∷ 6 ∷ 9 ∷ [] in
      let f = refused (remove_check d B x) h in
      let m : zero_or (number_of f.0) ns ≡ true = rw f.1 at (remove_within d B x (t.first refl)) in
      record {
        number = rw f.1 (part_within (may_answer (Removes x)) ns (Err f.0) refl m);
        record' = refl;
        board = rw f.1 refl;
        list = λ q. refl;
        output = refl;
        values = rw f.1 (zeros_say ns (number_of f.0) (last_ticket L + 1) (idle_leaves s) (0 ∷ []) m refl refl refl);
      }

  pub add_taken : (x w : ℕ) → TakenBy firsts d (way_at (add_order x w) s)
  unfolding way_of covers zero_or
  add_taken x w =
      let o = add_order x w in
      record {
        within = way_within firsts (first_checks s) (must_wait d L) (order_check d.capacity B o)
            (part_within firsts (1 ∷ 2 ∷ 3 ∷ []) (first_checks s) refl (bounds_within d B (length L)))
            (part_within firsts (5 ∷ 6 ∷ 7 ∷ []) (order_check d.capacity B o) refl (order_within d.capacity B o));
        first = now_start d B L o;
      }

  pub remove_taken : (x : ℕ) → TakenBy remove_firsts d (way_at (remove_order x) s)
  unfolding way_of covers zero_or
  remove_taken x =
      let o = remove_order x in
      record {
        within = way_within remove_firsts (first_checks s) (must_wait d L) (order_check d.capacity B o)
            (part_within remove_firsts (1 ∷ 2 ∷ 3 ∷ []) (first_checks s) refl (bounds_within d B (length L)))
            (part_within remove_firsts (5 ∷ 6 ∷ []) (order_check d.capacity B o) refl (remove_order_lem d.capacity B x));
        first = now_start d B L o;
      }

  -- ---- slot, round, report, save and the fresh layout, by what their checks find

  pub slot_refused : (D F : List ℕ) (k : Check) → Within (may_answer Slots) k → eqb (number_by k) 0 ≡ false
      → RefusedBy Slots s (served_answer_by k d D) (served_by k d D).drive (if_clear k D B) (if_clear k F L) []
  unfolding zero_or
  slot_refused D F (Ok tt) m h = clash refl h
  slot_refused D F (Err r) m h = record {
    number = m;
    record' = refl;
    board = refl;
    list = λ q. refl;
    output = refl;
    values = zeros_say (may_answer Slots) (number_of r) 0 (idle_leaves s) (0 ∷ 0 ∷ 0 ∷ 0 ∷ []) m refl refl refl;
  }

  pub round_refused : (O done : List ℕ) (k : Check) → Within (may_answer (Rounds O)) k → eqb (number_by k) 0 ≡ false
      → RefusedBy (Rounds O) s (answered k []) d B L (if_clear k done O)
  unfolding zero_or
  round_refused O done (Ok tt) m h = clash refl h
  round_refused O done (Err r) m h = record {
    number = m;
    record' = refl;
    board = refl;
    list = λ q. refl;
    output = refl;
    values = zeros_say (may_answer (Rounds O)) (number_of r) 0 (idle_leaves s) [] m refl refl refl;
  }

  pub report_refused : (x w n p : ℕ) (k : Check) → Within (may_answer (Reports x)) k → eqb (number_by k) 0 ≡ false
      → RefusedBy (Reports x) s (answered k (w ∷ n ∷ p ∷ [])) d B L []
  unfolding zero_or
  report_refused x w n p (Ok tt) m h = clash refl h
  report_refused x w n p (Err r) m h = record {
    number = m;
    record' = refl;
    board = refl;
    list = λ q. refl;
    output = refl;
    values = zeros_say (may_answer (Reports x)) (number_of r) 0 (idle_leaves s) (0 ∷ 0 ∷ 0 ∷ []) m refl refl refl;
  }

  pub save_refused : (form : Sheets) (O done : List ℕ) (n : ℕ) (k : Check) → Within (may_answer (Saves form O)) k → eqb (number_by k) 0 ≡ false
      → RefusedBy (Saves form O) s (answered k (n ∷ [])) d B L (if_clear k done O)
  unfolding zero_or
  save_refused form O done n (Ok tt) m h = clash refl h
  save_refused form O done n (Err r) m h = record {
    number = m;
    record' = refl;
    board = refl;
    list = λ q. refl;
    output = refl;
    values = zeros_say (may_answer (Saves form O)) (number_of r) 0 (idle_leaves s) (0 ∷ []) m refl refl refl;
  }

  pub fresh_refused : (D : List ℕ) (k : Check) → Within (may_answer Refreshes) k → eqb (number_by k) 0 ≡ false
      → RefusedBy Refreshes s (answered k []) d (if_clear k D B) L []
  unfolding zero_or
  fresh_refused D (Ok tt) m h = clash refl h
  fresh_refused D (Err r) m h = record {
    number = m;
    record' = refl;
    board = refl;
    list = λ q. refl;
    output = refl;
    values = zeros_say (may_answer Refreshes) (number_of r) 0 (idle_leaves s) [] m refl refl refl;
  }

-- ---- fetch

fetch_refused : (t : ℕ) (s : Desk) → is_done (Fetches t) s ≡ false → refusing.Refused (Fetches t) s
unfolding zero_or
fetch_refused t s h = ⊎_elim
    (λ r. let z = rw r.1 at h in cc)
    (λ k. ⊎_elim
    (λ e. record { number = rw e refl; record' = refl; board = refl; list = λ q. k.1; output = refl; values = rw e refl })
    (λ e. record { number = rw e refl; record' = refl; board = refl; list = λ q. k.1; output = refl; values = rw e refl })
    k.0)
    (fetch_cases s.list t)

-- ---- all of them

-- Demand 1 as amended: a call that is not done answers a number of its list, and changes nothing but for what 10 and 13 say and a change's 13 puts on the list.
pub demand_1_amended : (a : Deed) (s : Desk) → is_done a s ≡ false → refusing.Refused a s
unfolding zero_or among
demand_1_amended (Opens C) s h =
    let e = (refused (open_checks s C) h).1 in
    let m = lent_within C s.state.board (length s.list) in
    record {
      number = m;
      record' = rw e refl;
      board = rw e refl;
      list = λ q. rw e refl;
      output = refl;
      values = zeros_say (1 ∷ 2 ∷ []) (answers (Opens C) s).number 0 (idle_leaves s) (answers (Opens C) s).values m refl refl (rw e refl);
    }
demand_1_amended (Reads form S) s h =
    let e = (refused (read_checks s form S) h).1 in
    let m = read_within (form_of form) S s.state.board (length s.list) in
    record {
      number = m;
      record' = rw e refl;
      board = rw e refl;
      list = λ q. rw e refl;
      output = refl;
      values = zeros_say (12 ∷ 1 ∷ 2 ∷ 5 ∷ []) (answers (Reads form S) s).number 0 (idle_leaves s) (answers (Reads form S) s).values m refl refl (rw e refl);
    }
demand_1_amended (Adds x w) s h = add_refused s x w (way_at (add_order x w) s) (add_taken s x w) h
demand_1_amended (Removes x) s h = remove_refused s x (way_at (remove_order x) s) (remove_taken s x) h
demand_1_amended Slots s h =
    let d = s.state.drive in
    slot_refused s (board_then d s.state.board s.list) (list_then d s.state.board s.list) (first_checks s) (bounds_within d s.state.board (length s.list)) h
demand_1_amended (Rounds O) s h =
    let d = s.state.drive in
    round_refused s O (round_names d.capacity s.state.board ++ drop d.capacity O) (round_check d s.state.board (length O)) (round_answers d s.state.board O) h
demand_1_amended (Reports x) s h =
    let d = s.state.drive in
    let B = s.state.board in
    report_refused s x (weight d.capacity B x) (piece_count d.capacity B x) (reported_spacing d B x) (report_check d B x) (report_answers d B x) h
demand_1_amended (Saves form O) s h =
    let d = s.state.drive in
    let B = s.state.board in
    let F = form_of form in
    save_refused s form O (F.sheet d.capacity d.position B ++ drop (size_of F d B) O) (size_of F d B) (saving_check F d B (length O)) (save_within form d B O) h
demand_1_amended (Fetches t) s h = fetch_refused t s h
demand_1_amended Refreshes s h =
    let d = s.state.drive in
    let B = s.state.board in
    fresh_refused s (fresh d.capacity B) (change_check d B) (fresh_answers d B) h
