-- The laws of the calls for two drives that upper crates cite: no second answer fits; what a refusal and a wait leave as it was; that only the numbers of its list
-- are answered; when a change is made at once and when the list is run; that neither drive comes first; and that one is two. Assumes nothing.
use mathlib.Core.Path.{◌≡◌, refl, ap, ◌∙◌}
use mathlib.Core.Bool.{Bool, true, false, not}
use mathlib.Core.List.{List, [], ◌∷◌}
use Prim.Native.Nat.{ℕ, ◌*◌}
use lib.Dec.{eqb}
use lib.ListN.{length}
use borrow.Author.Tests.{eqb-true}
use Rattle.general.proofs.Laws.{unique}
use Rattle.calls.specs.declared.Drive.{Drive}
use Rattle.calls.specs.declared.Refusal.{Refusal}
use Rattle.calls.specs.declared.Refusal.TheVariants.{Midround}
use Rattle.calls.specs.Types.{Check, Checked, Served, Reported}
use Rattle.std.specs.Prelude.{Ok, Err}
use Rattle.calls.specs.Refusals.{zero_or, refuse_if, numbers, among, asked, asked_name, asked_output, slot_may, round_may, report_may, change_may, round_check, report_check, change_check}
use Rattle.calls.specs.Answers.{Answer, serving_answer, report_answer, check_answer}
use Rattle.calls.specs.Results as plain
use Rattle.calls.proofs.Laws.{first_clear, then_clear, Refuses, refuses, refusal, may, within_among, first_within, then_within, if_within, covers, part_within, either_same}
use Rattle.sheets.specs.Types.{Saved}
use Rattle.sheets.specs.Sheet.{blocks}
use Rattle.sheets.specs.Forms.{size_of, saving_check, saved_output_as}
use Rattle.sheets.specs.Results.{save_may, save_check, saving_answer, save_pieces_may, piece_form}
use Rattle.waiting.specs.declared.Order.{Order}
use Rattle.waiting.specs.Layout.{too_short, taken, taken_list}
use Rattle.orders.specs.Types.{Ordered}
use Rattle.orders.specs.declared.Declined.TheVariants as declined
use Rattle.orders.specs.declared.Moment.TheVariants as moment
use Rattle.orders.specs.Answers.{ordering_answer, listed}
use Rattle.orders.specs.Results.{add_order, remove_order}
use Rattle.drives.specs.Checks.{list_check, look_check, both_start, way_of, start_check, pair_round_check, pair_report_check, pair_save_check, level_check, pair_pieces_check, pair_fresh_check}
use Rattle.drives.specs.Results.{changed, changed_board, changed_list, board_then, list_then, served_answer, served_board, served_list, rounded_answer, reported_answer, saved_answer, saved_pieces_answer, saved_pieces_output, refreshed_answer, refreshed_board}
use Rattle.drives.specs.Promises.{Orders, Serves, Rounds, Reports, Saves, SavesPieces, Refreshes}
use Rattle.drives.proofs.PairChecks.{pair_clear, pair_swap, start_swap}
use Rattle.drives.proofs.Alike.{ran_alike}
use Rattle.drives.proofs.Answering.{pair_within, behind_within, four_within, start_both, add_answers, remove_answers, change_still}
-- ---- the checks: once they find nothing each record passes those of slot, both have one C, and nothing lent is too short; and neither record comes first

pub use Rattle.drives.proofs.PairChecks.{Paired, pair_clear, clear_pair, pair_vouch, pair_swap, start_swap}
-- ---- one is two: with one record in both places each call is that of one drive

pub use Rattle.drives.proofs.Single.{one_start, one_list, one_look, one_way, change_one_is_two, slot_one_is_two, round_one_is_two, report_one_is_two, save_one_is_two, save_pieces_one_is_two, fresh_one_is_two}
-- ---- whose call carries an order out does not matter: only C and p are looked at

pub use Rattle.drives.proofs.Alike.{add_alike, remove_alike, carried_alike, answer_alike, board_alike, all_alike, outcomes_alike, ran_alike}
-- ---- what is made at once: the first checks are clear, both drives are at the start of a round, and no order waits. The numbers that are answered

pub use Rattle.drives.proofs.Answering.{AtOnce, start_both, now_both, pair_within, add_answers, remove_answers, add_order_lem, remove_order_lem, way_now, way_within, start_within, carried_still}

-- ---- for calls that have more to check: the numbers of an order that is to wait, of a way, and of a call at position 1; and an order that is not done changes nothing

-- Records that pass the checks together and are both at the start of a round have equal C and p.
pub both_alike : (a b : Drive) (B : List ℕ) (n : ℕ) → list_check a b B n ≡ Ok tt → both_start a b ≡ true → (a.capacity ≡ b.capacity) × (a.position ≡ b.position)
both_alike a b B n e t = let p = start_both a b t in ((pair_clear a b B (too_short n) e).same, unique p.0 p.1)

-- ---- neither drive comes first: which of the two makes a call decides neither the way of a change nor what a slot leaves of the board and the list

module _ (a b : Drive) (B L : List ℕ) where
  pub way_swap : (o : Order) → way_of a b B L o ≡ way_of b a B L o
  unfolding way_of
  way_swap o = go (list_check a b B (length L)) refl
    where
      go : (k : Check) → list_check a b B (length L) ≡ k → way_of a b B L o ≡ way_of b a B L o
      go (Ok tt) e = rw (pair_swap a b B (too_short (length L)), start_swap a b, (pair_clear a b B (too_short (length L)) e).same) refl
      go (Err r) e = rw (← pair_swap a b B (too_short (length L)), e) refl

  pub slot_swap : (served_board a b B L ≡ served_board b a B L) × (served_list a b B L ≡ served_list b a B L)
  unfolding board_then list_then
  slot_swap = go (list_check a b B (length L)) refl (both_start a b) refl
    where
      go : (k : Check) → list_check a b B (length L) ≡ k → (t : Bool) → both_start a b ≡ t
          → (served_board a b B L ≡ served_board b a B L) × (served_list a b B L ≡ served_list b a B L)
      go (Err r) e t s = rw (← pair_swap a b B (too_short (length L)), e) (refl, refl)
      go (Ok tt) e false s = rw (← pair_swap a b B (too_short (length L)), e, ← start_swap a b, s) (refl, refl)
      go (Ok tt) e true s =
          let same = both_alike a b B (length L) e s in
          rw (← pair_swap a b B (too_short (length L)), e, ← start_swap a b, s) (ran_alike a b same.0 same.1 B L)

-- Nor what a fresh layout finds and leaves.
pub fresh_swap : (a b : Drive) (B : List ℕ) → (pair_fresh_check a b B ≡ pair_fresh_check b a B) × (refreshed_board a b B ≡ refreshed_board b a B)
unfolding pair_fresh_check start_check change_check
fresh_swap a b B = go (look_check a b B) refl (both_start a b) refl
  where
    go : (k : Check) → look_check a b B ≡ k → (t : Bool) → both_start a b ≡ t → (pair_fresh_check a b B ≡ pair_fresh_check b a B) × (refreshed_board a b B ≡ refreshed_board b a B)
    go (Err r) e t s = rw (← pair_swap a b B false, e) (refl, refl)
    go (Ok tt) e false s = rw (← pair_swap a b B false, e, ← start_swap a b, s) (refl, refl)
    go (Ok tt) e true s =
        let p = start_both a b s in
        let same = (pair_clear a b B false e).same in
        rw (← pair_swap a b B false, e, ← start_swap a b, s, p.0, p.1, same) (refl, refl)

-- ---- add and remove

module _ (a b : Drive) (B L : List ℕ) where
  pub change_unique : (o : Order) {r s : Ordered} {E F G H : List ℕ} → Orders a b B L o r E F → Orders a b B L o s G H → (r ≡ s) × (E ≡ G) × (F ≡ H)
  change_unique o p q = (unique p.0 q.0, unique p.2 q.2, unique p.3 q.3)

  -- What is not done leaves the record and the board; the list too, unless it answers 13.
  pub change_refused : (o : Order) {r : Ordered} {E F : List ℕ} → Orders a b B L o r E F → Refuses (ordering_answer r.answer)
      → (r.drive ≡ a) × (E ≡ B) × (((ordering_answer r.answer).number ≡ 13 → ⊥) → F ≡ L)
  change_refused o p h =
      let s = change_still (way_of a b B L o) a B L o (refuses p.1 h) in
      (ap (λ (r : Ordered). r.drive) p.0, p.2 ∙ s.0, λ n. p.3 ∙ s.1 (λ e. n (ap (λ (x : Answer). x.number) p.1 ∙ e)))

  -- A refusal of the first checks, or of an order that would wait, changes nothing,
  pub refused_nothing : (o : Order) (r : Refusal) → way_of a b B L o ≡ Err r
      → (changed a b B L o ≡ record { drive = a; answer = Err (declined.Refused r) }) × (changed_board a b B L o ≡ B) × (changed_list a b B L o ≡ L)
  refused_nothing o r e = (rw e refl, rw e refl, rw e refl)

  -- and an order that waits the list alone.
  pub waits_list : (o : Order) → way_of a b B L o ≡ Ok moment.Later
      → (changed a b B L o ≡ record { drive = a; answer = listed (taken L) }) × (changed_board a b B L o ≡ B) × (changed_list a b B L o ≡ taken_list L o)
  waits_list o e = (rw e refl, rw e refl, rw e refl)

  -- 4 is not among the numbers.
  pub add_may_lem : (x w : ℕ) {r : Ordered} {E F : List ℕ} → Orders a b B L (add_order x w) r E F
      → zero_or (ordering_answer r.answer).number (1 ∷ 2 ∷ 3 ∷ 5 ∷ 6 ∷ 7 ∷ 14 ∷ 13 ∷ 8 ∷ 10 ∷ []) ≡ true
  add_may_lem x w p = rw p.1 (add_answers a b B L x w)

  pub remove_may_lem : (x : ℕ) {r : Ordered} {E F : List ℕ} → Orders a b B L (remove_order x) r E F
      → zero_or (ordering_answer r.answer).number (1 ∷ 2 ∷ 3 ∷ 5 ∷ 6 ∷ 14 ∷ 13 ∷ 9 ∷ []) ≡ true
  remove_may_lem x p = rw p.1 (remove_answers a b B L x)

-- ---- slot

module _ (a b : Drive) (B L : List ℕ) where
  pub slot_unique : {r s : Served} {E F G H : List ℕ} → Serves a b B L r E F → Serves a b B L s G H → (r ≡ s) × (E ≡ G) × (F ≡ H)
  slot_unique p q = (unique p.0 q.0, unique p.2 q.2, unique p.3 q.3)

  pub slot_refused : {r : Served} {E F : List ℕ} → Serves a b B L r E F → Refuses (serving_answer r.answer)
      → (r.drive ≡ a) × ((serving_answer r.answer).values ≡ 0 ∷ 0 ∷ 0 ∷ 0 ∷ []) × (E ≡ B) × (F ≡ L)
  slot_refused p h = rw (p.0, p.2, p.3, (refusal (list_check a b B (length L)) (refuses p.1 h)).1) (refl, refl, refl, refl)

  pub slot_answers : among (served_answer a b B L).number slot_may ≡ true
  slot_answers = within_among slot_may (list_check a b B (length L)) (pair_within a b B (too_short (length L)))

  pub slot_may_lem : {r : Served} {E F : List ℕ} → Serves a b B L r E F → among (serving_answer r.answer).number slot_may ≡ true
  slot_may_lem p = may slot_may p.1 slot_answers

  -- Where one of them is within a round a slot changes neither the board nor the list.
  then_still : both_start a b ≡ false → (board_then a b B L ≡ B) × (list_then a b B L ≡ L)
  unfolding board_then list_then
  then_still e = (rw e refl, rw e refl)

  pub slot_midround : both_start a b ≡ false → (served_board a b B L ≡ B) × (served_list a b B L ≡ L)
  slot_midround e =
      let f = then_still e in
      (rw f.0 (either_same (list_check a b B (length L)) B), rw f.1 (either_same (list_check a b B (length L)) L))

-- ---- round

module _ (a b : Drive) (B O : List ℕ) where
  pub round_unique : {r s : Checked} {E F : List ℕ} → Rounds a b B O r E → Rounds a b B O s F → (r ≡ s) × (E ≡ F)
  round_unique p q = (unique p.0 q.0, unique p.2 q.2)

  pub round_refused : {r : Checked} {E : List ℕ} → Rounds a b B O r E → Refuses (check_answer r.answer) → (r.drive ≡ a) × (E ≡ O)
  round_refused p h = rw (p.0, p.2, (refusal (pair_round_check a b B (length O)) (refuses p.1 h)).1) (refl, refl)

  pub round_answers : among (rounded_answer a b B O).number round_may ≡ true
  unfolding pair_round_check round_check covers
  round_answers = within_among round_may (pair_round_check a b B (length O))
      (behind_within a b B (numbers round_may) (round_check a B (length O)) refl (first_within round_may (asked_output a B (length O) a.capacity)))

  pub round_may_lem : {r : Checked} {E : List ℕ} → Rounds a b B O r E → among (check_answer r.answer).number round_may ≡ true
  round_may_lem p = may round_may p.1 round_answers

-- ---- report

module _ (a b : Drive) (B : List ℕ) (x : ℕ) where
  pub report_unique : {r s : Reported} → Reports a b B x r → Reports a b B x s → r ≡ s
  report_unique p q = unique p.0 q.0

  pub report_refused : {r : Reported} → Reports a b B x r → Refuses (report_answer r.answer) → (r.drive ≡ a) × ((report_answer r.answer).values ≡ 0 ∷ 0 ∷ 0 ∷ [])
  report_refused p h = rw (p.0, (refusal (pair_report_check a b B x) (refuses p.1 h)).1) (refl, refl)

  pub report_answers : among (reported_answer a b B x).number report_may ≡ true
  unfolding pair_report_check report_check covers
  report_answers = within_among report_may (pair_report_check a b B x)
      (behind_within a b B (numbers report_may) (report_check a B x) refl (first_within report_may (asked_name a B x)))

  pub report_may_lem : {r : Reported} → Reports a b B x r → among (report_answer r.answer).number report_may ≡ true
  report_may_lem p = may report_may p.1 report_answers

-- ---- save

module _ (a b : Drive) (B O : List ℕ) where
  pub save_unique : {r s : Saved} {E F : List ℕ} → Saves a b B O r E → Saves a b B O s F → (r ≡ s) × (E ≡ F)
  save_unique p q = (unique p.0 q.0, unique p.2 q.2)

  pub save_refused : {r : Saved} {E : List ℕ} → Saves a b B O r E → Refuses (saving_answer r.answer)
      → (r.drive ≡ a) × ((saving_answer r.answer).values ≡ 0 ∷ []) × (E ≡ O)
  save_refused p h = rw (p.0, p.2, (refusal (pair_save_check a b B (length O)) (refuses p.1 h)).1) (refl, refl, refl)

  pub save_answers : among (saved_answer a b B O).number save_may ≡ true
  unfolding pair_save_check saving_check covers zero_or
  save_answers =
      let ns = numbers save_may in
      within_among save_may (pair_save_check a b B (length O))
      (then_within ns (start_check a b B) (save_check a B (length O))
      (four_within a b B ns refl refl refl)
      (first_within save_may (asked_output a B (length O) (512 * blocks a.capacity))))

  pub save_may_lem : {r : Saved} {E : List ℕ} → Saves a b B O r E → among (saving_answer r.answer).number save_may ≡ true
  save_may_lem p = may save_may p.1 save_answers

-- ---- save of the piece form: 1, 2, 3, 4 where the drives are at different positions, 5, 11

module _ (a b : Drive) (B O : List ℕ) where
  pub save_pieces_unique : {r s : Saved} {E F : List ℕ} → SavesPieces a b B O r E → SavesPieces a b B O s F → (r ≡ s) × (E ≡ F)
  save_pieces_unique p q = (unique p.0 q.0, unique p.2 q.2)

  pub save_pieces_refused : {r : Saved} {E : List ℕ} → SavesPieces a b B O r E → Refuses (saving_answer r.answer)
      → (r.drive ≡ a) × ((saving_answer r.answer).values ≡ 0 ∷ []) × (E ≡ O)
  save_pieces_refused p h = rw (p.0, p.2, (refusal (pair_pieces_check a b B (length O)) (refuses p.1 h)).1) (refl, refl, refl)

  pub save_pieces_answers : among (saved_pieces_answer a b B O).number save_may ≡ true
  unfolding pair_pieces_check level_check saving_check covers zero_or
  save_pieces_answers =
      let ns = numbers save_may in
      let apart = not (eqb a.position b.position) in
      within_among save_may (pair_pieces_check a b B (length O))
      (then_within ns (level_check a b B) (saving_check piece_form a B (length O))
      (behind_within a b B ns (refuse_if apart Midround (Ok tt)) refl (if_within ns apart Midround (Ok tt) refl refl))
      (part_within ns (numbers save_pieces_may) (saving_check piece_form a B (length O)) refl (first_within save_pieces_may (asked_output a B (length O) (size_of piece_form a B)))))

  pub save_pieces_may_lem : {r : Saved} {E : List ℕ} → SavesPieces a b B O r E → among (saving_answer r.answer).number save_may ≡ true
  save_pieces_may_lem p = may save_may p.1 save_pieces_answers

  -- Where it is done both drives are at the position saved, and it is that of one drive.
  pub save_pieces_one_drive : pair_pieces_check a b B (length O) ≡ Ok tt
      → (a.position ≡ b.position) × (saving_check piece_form a B (length O) ≡ Ok tt) × (saved_pieces_output a b B O ≡ saved_output_as piece_form a B O)
  unfolding pair_pieces_check level_check
  save_pieces_one_drive e =
      let k = then_clear (level_check a b B) (saving_check piece_form a B (length O)) e in
      let level = then_clear (look_check a b B) (refuse_if (not (eqb a.position b.position)) Midround (Ok tt)) (first_clear (level_check a b B) (saving_check piece_form a B (length O)) e) in
      (level_same (eqb a.position b.position) refl level, k, rw (e, k) refl)
    where
      level_same : (t : Bool) → eqb a.position b.position ≡ t → refuse_if (not t) Midround (Ok tt) ≡ Ok tt → a.position ≡ b.position
      level_same true e z = eqb-true a.position b.position e
      level_same false e z = cc

-- ---- the fresh layout

module _ (a b : Drive) (B : List ℕ) where
  pub fresh_unique : {r s : Checked} {E F : List ℕ} → Refreshes a b B r E → Refreshes a b B s F → (r ≡ s) × (E ≡ F)
  fresh_unique p q = (unique p.0 q.0, unique p.2 q.2)

  pub fresh_refused : {r : Checked} {E : List ℕ} → Refreshes a b B r E → Refuses (check_answer r.answer) → (r.drive ≡ a) × (E ≡ B)
  fresh_refused p h = rw (p.0, p.2, (refusal (pair_fresh_check a b B) (refuses p.1 h)).1) (refl, refl)

  pub fresh_answers : among (refreshed_answer a b B).number change_may ≡ true
  unfolding pair_fresh_check change_check covers zero_or
  fresh_answers =
      let ns = numbers change_may in
      within_among change_may (pair_fresh_check a b B)
      (then_within ns (start_check a b B) (change_check a B) (four_within a b B ns refl refl refl) (first_within change_may (asked a B)))

  pub fresh_may : {r : Checked} {E : List ℕ} → Refreshes a b B r E → among (check_answer r.answer).number change_may ≡ true
  fresh_may p = may change_may p.1 fresh_answers

  -- Where it is done it is that of one drive.
  pub fresh_one_drive : pair_fresh_check a b B ≡ Ok tt → (change_check a B ≡ Ok tt) × (refreshed_board a b B ≡ plain.refreshed_board a B)
  unfolding pair_fresh_check
  fresh_one_drive e = let k = then_clear (start_check a b B) (change_check a B) e in (k, rw (e, k) refl)
