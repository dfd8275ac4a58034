-- What the calls for two drives answer: only the numbers of their lists; refused, nothing is changed; and on a good board none answers DAMAGED. A call of the own
-- drive; for the other's the records are exchanged. Assumes nothing.
use mathlib.Core.Path.{◌≡◌, refl, ap}
use mathlib.Core.Bool.{true, false, not}
use mathlib.Core.List.{List, [], ◌∷◌, ◌++◌}
use Prim.Native.Nat.{ℕ}
use native.Mathlib.Omega.{arith}
use lib.Dec.{eqb}
use lib.ListN.{length, drop}
use Rattle.general.proofs.Laws.{clash, by_bool}
use Rattle.pieces.specs.Board.{weight, piece_count}
use Rattle.pieces.specs.Fresh.{fresh}
use Rattle.calls.specs.Refusals.{zero_or, among, first_of, asked_output}
use Rattle.calls.specs.Answers.{number_by}
use Rattle.calls.specs.Results.{round_names, reported_spacing}
use Rattle.calls.proofs.Laws.{Within, covers, part_within}
use Rattle.sheets.specs.Forms.{size_of, saving_check}
use Rattle.sheets.specs.Results.{leaf_form, piece_form}
use Rattle.demands.specs.Histories.{Round, Report, Fresh}
use Rattle.pieces.specs.Streams.{Stream}
use Rattle.demands.proofs.Laws.{never_damaged}
use Rattle.waiting.specs.declared.Order.{Order}
use Rattle.waiting.specs.Layout.{too_short}
use Rattle.orders.specs.Checks.{order_check, waits_if}
use Rattle.orders.specs.Results.{add_order, remove_order}
use Rattle.drives.specs.Checks.{both_start, way_of, start_check, pair_round_check, pair_report_check, pair_save_check, level_check, pair_pieces_check, pair_fresh_check}
use Rattle.drives.specs.Results.{board_then, list_then}
use Rattle.drives.proofs.Laws.{pair_within, now_both, slot_answers, round_answers, report_answers, save_answers, save_pieces_answers, fresh_answers, remove_order_lem}
use Rattle.amended.specs.Deeds.{Sheets, Leaves, Pieces, form_of, Deed, Opens, Reads, Adds, Removes, Slots, Rounds, Reports, Saves, Fetches, Refreshes}
use Rattle.amended.specs.Refusing.{of_board}
use Rattle.amended.specs.Turns.{Pair, seen, shown, first_checks, save_checks, fresh_checks, way_at, answers_own}
use Rattle.amended.specs.Sharing.{is_done, Refused}
use Rattle.amended.proofs.Answering.{TakenBy, firsts, remove_firsts, lent_within, order_within, way_within, add_refused, remove_refused, slot_refused, round_refused, report_refused, save_refused, fresh_refused, demand_1_amended}
use Rattle.amended.proofs.Damaging.{fines, not_five, fine_within, save_not, add_not, remove_not}
use Rattle.amended.proofs.Sharing.{Standing}
use Rattle.amended.proofs.TurnRounds.{look_clear, slot_served}

-- ---- how a change may be taken

module _ (s : Pair) where
  abbrev C : ℕ
  C = s.own.capacity

  abbrev B : List ℕ
  B = s.board

  first_within : (ns : List ℕ) → covers ns (1 ∷ 2 ∷ 3 ∷ []) ≡ true → Within ns (first_checks s)
  first_within ns c = part_within ns (1 ∷ 2 ∷ 3 ∷ []) (first_checks s) c (pair_within s.own s.other B (too_short (length s.list)))

  pub pair_taken : (ns : List ℕ) (o : Order) → covers ns (1 ∷ 2 ∷ 3 ∷ []) ≡ true → Within ns (order_check C B o) → TakenBy ns s.own (way_at o s)
  unfolding way_of
  pair_taken ns o c m = record {
    within = way_within ns (first_checks s) (waits_if (both_start s.own s.other) s.list) (order_check C B o) (first_within ns c) m;
    first = λ e. (now_both s.own s.other B s.list o e).own;
  }

  pub add_taken : (x w : ℕ) → TakenBy firsts s.own (way_at (add_order x w) s)
  unfolding covers zero_or
  add_taken x w = pair_taken firsts (add_order x w) refl (part_within firsts (5 ∷ 6 ∷ 7 ∷ []) (order_check C B (add_order x w)) refl (order_within C B (add_order x w)))

  pub remove_taken : (x : ℕ) → TakenBy remove_firsts s.own (way_at (remove_order x) s)
  unfolding covers zero_or
  remove_taken x = pair_taken remove_firsts (remove_order x) refl (part_within remove_firsts (5 ∷ 6 ∷ []) (order_check C B (remove_order x)) refl (remove_order_lem C B x))

-- ---- demand 1

save_within : (form : Sheets) (s : Pair) (O : List ℕ) → Within (1 ∷ 2 ∷ 3 ∷ 4 ∷ 5 ∷ 11 ∷ []) (save_checks form s (length O))
unfolding among
save_within Leaves s O = save_answers s.own s.other s.board O
save_within Pieces s O = save_pieces_answers s.own s.other s.board O

-- A call that is not done answers a number of its list, and changes nothing but for what 10 and 13 say and a change's 13 puts on the list.
pub demand_1_two : (a : Deed) (s : Pair) → is_done a s ≡ false → Refused a s
unfolding among
demand_1_two (Opens C) s h = demand_1_amended (Opens C) (seen s) h
demand_1_two (Reads form S) s h = demand_1_amended (Reads form S) (seen s) h
demand_1_two (Adds x w) s h = add_refused (seen s) x w (way_at (add_order x w) s) (add_taken s x w) h
demand_1_two (Removes x) s h = remove_refused (seen s) x (way_at (remove_order x) s) (remove_taken s x) h
demand_1_two Slots s h =
    let B = s.board in
    slot_refused (seen s) (board_then s.own s.other B s.list) (list_then s.own s.other B s.list) (first_checks s) (slot_answers s.own s.other B s.list) h
demand_1_two (Rounds O) s h =
    let C = s.own.capacity in
    round_refused (seen s) O (round_names C s.board ++ drop C O) (pair_round_check s.own s.other s.board (length O)) (round_answers s.own s.other s.board O) h
demand_1_two (Reports x) s h =
    let C = s.own.capacity in
    report_refused (seen s) x (weight C s.board x) (piece_count C s.board x) (reported_spacing s.own s.board x) (pair_report_check s.own s.other s.board x)
    (report_answers s.own s.other s.board x) h
demand_1_two (Saves form O) s h =
    let F = form_of form in
    save_refused (seen s) form O (F.sheet s.own.capacity s.own.position s.board ++ drop (size_of F s.own s.board) O) (size_of F s.own s.board) (save_checks form s (length O))
    (save_within form s O) h
demand_1_two (Fetches t) s h = demand_1_amended (Fetches t) (seen s) h
demand_1_two Refreshes s h = fresh_refused (seen s) (fresh s.own.capacity s.board) (fresh_checks s) (fresh_answers s.own s.other s.board) h

-- ---- no DAMAGED

module _ (hs : List Stream) (s : Pair) (is : Standing hs s) where
  taken : (o : Order) → TakenBy fines s.own (way_at o s)
  unfolding covers zero_or
  taken o =
      let C = s.own.capacity in
      pair_taken s fines o refl (part_within fines (6 ∷ 7 ∷ []) (order_check C s.board o) refl (fine_within C s.board o is.own.fine))

  -- save's 4 for the other drive stands before its 5
  pub save_undamaged : (form : Sheets) (O : List ℕ) → number_by (save_checks form s (length O)) ≡ 5 → ⊥
  unfolding pair_save_check start_check pair_pieces_check level_check saving_check
  save_undamaged Leaves O h =
      let q = asked_output s.own s.board (length O) (size_of leaf_form s.own s.board) in
      let look = look_clear hs s is in
      by_bool (both_start s.own s.other)
      (λ t. save_not Leaves (first_of leaf_form.may q) q refl (ap not is.own.fine) (rw (look, t) at h))
      (λ f. let z = rw (look, f) at h in omega arith)
  save_undamaged Pieces O h =
      let q = asked_output s.own s.board (length O) (size_of piece_form s.own s.board) in
      let look = look_clear hs s is in
      by_bool (eqb s.own.position s.other.position)
      (λ t. save_not Pieces (first_of piece_form.may q) q refl (ap not is.own.fine) (rw (look, t) at h))
      (λ f. let z = rw (look, f) at h in omega arith)

  -- so does the fresh layout's
  fresh_undamaged : number_by (fresh_checks s) ≡ 5 → ⊥
  unfolding pair_fresh_check start_check
  fresh_undamaged h =
      let look = look_clear hs s is in
      by_bool (both_start s.own s.other)
      (λ t. never_damaged (shown s) hs is.own Fresh (rw (look, t) at h))
      (λ f. let z = rw (look, f) at h in omega arith)

  pub undamaged : (a : Deed) → of_board a ≡ true → (answers_own a s).number ≡ 5 → ⊥
  unfolding zero_or pair_round_check pair_report_check
  undamaged (Opens C) o h = not_five (1 ∷ 2 ∷ []) (answers_own (Opens C) s).number (lent_within C s.board (length s.list)) refl h
  undamaged (Reads form S) o h = clash o refl
  undamaged (Adds x w) o h = add_not (shown s) hs is.own s.list x w (way_at (add_order x w) s) (taken (add_order x w)) h
  undamaged (Removes x) o h = remove_not (shown s) hs is.own s.list x (way_at (remove_order x) s) (taken (remove_order x)) h
  undamaged Slots o h = let z = slot_served hs s is in omega arith
  undamaged (Rounds O) o h = never_damaged (shown s) hs is.own (Round O) (rw (look_clear hs s is) at h)
  undamaged (Reports x) o h = never_damaged (shown s) hs is.own (Report x) (rw (look_clear hs s is) at h)
  undamaged (Saves form O) o h = save_undamaged form O h
  undamaged (Fetches t) o h = clash o refl
  undamaged Refreshes o h = fresh_undamaged h
