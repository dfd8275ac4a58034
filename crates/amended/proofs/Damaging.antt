-- On a good board no call with the list answers DAMAGED. Assumes nothing.
use mathlib.Core.Path.{◌≡◌, refl, sym, ap, ◌∙◌}
use mathlib.Core.Bool.{true, false, cond, not}
use mathlib.Core.List.{List, [], ◌∷◌}
use Prim.Native.Nat.{ℕ}
use native.Mathlib.Omega.{arith}
use lib.Dec.{eqb}
use lib.ListN.{length}
use borrow.Author.Tests.{eq-eqb}
use Rattle.general.proofs.Laws.{clash, by_bool}
use Rattle.pieces.specs.Board.{good}
use Rattle.calls.specs.declared.Refusal.TheVariants.{Damaged, Name, Weight}
use Rattle.calls.specs.Types.{Check}
use Rattle.std.specs.Prelude.{Ok, Err}
use Rattle.calls.specs.Refusals.{Asked, number_of, applies, first_of, refuse_if, zero_or, asked_output}
use Rattle.calls.specs.Answers.{Answer, number_by}
use Rattle.calls.proofs.Laws.{Within, covers, if_within, part_within, other_number, number_tells, ascending, first_lowest}
use Rattle.sheets.specs.Forms.{size_of, saving_check}
use Rattle.sheets.proofs.Laws.{save_ascending, save_pieces_ascending}
use Rattle.demands.specs.Histories.{Add, Remove, Round, Report, Fresh, State}
use Rattle.pieces.specs.Streams.{Stream}
use Rattle.demands.proofs.Laws.{Sound, never_damaged}
use Rattle.waiting.specs.declared.Order.{Order}
use Rattle.waiting.specs.Layout.{full}
use Rattle.orders.specs.Types.{Way}
use Rattle.orders.specs.declared.Moment.TheVariants as moment
use Rattle.orders.specs.Checks.{order_check, must_wait, way_of}
use Rattle.orders.specs.Results.{add_order, remove_order, taken_answer, changed_answer_by}
use Rattle.orders.proofs.Laws.{now_start}
use Rattle.amended.specs.Deeds.{Sheets, Leaves, Pieces, form_of, Deed, Opens, Reads, Adds, Removes, Slots, Rounds, Reports, Saves, Fetches, Refreshes, Desk, first_checks, way_at, answers}
use Rattle.amended.specs.Refusing.{of_board}
use Rattle.amended.proofs.Carrying.{add_says, remove_says}
use Rattle.amended.proofs.Sounding.{Standing}
use Rattle.amended.proofs.Rounding.{slot_served}
use Rattle.amended.proofs.Answering.{TakenBy, lent_within, bounds_within, way_within}

-- 5 is not of the list
pub not_five : (ns : List ℕ) (n : ℕ) → zero_or n ns ≡ true → zero_or 5 ns ≡ false → n ≡ 5 → ⊥
not_five ns n m f e = clash (eq-eqb n 5 e) (other_number ns n 5 m f)

pub taken_not : (L : List ℕ) → (taken_answer L).number ≡ 5 → ⊥
taken_not L h = by_bool (full L) (λ t. let z = rw t at h in omega arith) (λ t. let z = rw t at h in omega arith)

-- on a good board an order that waits is not refused for it
pub fine_within : (C : ℕ) (B : List ℕ) (o : Order) → good C B ≡ true → Within (6 ∷ 7 ∷ []) (order_check C B o)
unfolding order_check zero_or
fine_within C B o fine =
    let ns : List ℕ = 6 ∷ 7 ∷ [] in
    let weightless = cond (eqb o.kind 2) false (eqb o.weight 0) in
    rw fine (if_within ns (eqb o.name 0) Name (refuse_if weightless Weight (Ok tt)) refl (if_within ns weightless Weight (Ok tt) refl refl))

-- nor is save
ascends : (form : Sheets) → ascending 0 (form_of form).may ≡ true
ascends Leaves = save_ascending
ascends Pieces = save_pieces_ascending

pub save_not : (form : Sheets) (k : Check) (q : Asked) → first_of (form_of form).may q ≡ k → not (good q.capacity q.board) ≡ false → number_by k ≡ 5 → ⊥
unfolding applies
save_not form (Ok tt) q e fine h = omega arith
save_not form (Err r) q e fine h =
    let d : r ≡ Damaged = number_tells r Damaged h in
    let a = (first_lowest 0 (form_of form).may q r (ascends form) e).0 in
    clash (rw d at a) fine

-- nor is a change, in whatever way it is taken
abbrev pub fines : List ℕ
fines = 1 ∷ 2 ∷ 3 ∷ 6 ∷ 7 ∷ []

module _ (u : State) (hs : List Stream) (is : Sound u hs) (L : List ℕ) where
  pub add_not : (x w : ℕ) (k : Way) → TakenBy fines u.drive k → (changed_answer_by k u.drive u.board L (add_order x w)).number ≡ 5 → ⊥
  unfolding zero_or
  add_not x w (Err r) t h = not_five fines (number_of r) (t.within r refl) refl h
  add_not x w (Ok moment.Later) t h = taken_not L h
  add_not x w (Ok moment.Now) t h = never_damaged u hs is (Add x w) (ap (λ (a : Answer). a.number) (sym (add_says u x w)) ∙ h)

  pub remove_not : (x : ℕ) (k : Way) → TakenBy fines u.drive k → (changed_answer_by k u.drive u.board L (remove_order x)).number ≡ 5 → ⊥
  unfolding zero_or
  remove_not x (Err r) t h = not_five fines (number_of r) (t.within r refl) refl h
  remove_not x (Ok moment.Later) t h = taken_not L h
  remove_not x (Ok moment.Now) t h = never_damaged u hs is (Remove x) (ap (λ (a : Answer). a.number) (sym (remove_says u x)) ∙ h)

module _ (hs : List Stream) (s : Desk) (is : Standing hs s) where
  fine : good s.state.drive.capacity s.state.board ≡ true
  fine = is.sound.fine

  taken : (o : Order) → TakenBy fines s.state.drive (way_at o s)
  unfolding way_of covers zero_or
  taken o =
      let C = s.state.drive.capacity in
      let B = s.state.board in
      record {
        within = way_within fines (first_checks s) (must_wait s.state.drive s.list) (order_check C B o)
            (part_within fines (1 ∷ 2 ∷ 3 ∷ []) (first_checks s) refl (bounds_within s.state.drive B (length s.list)))
            (part_within fines (6 ∷ 7 ∷ []) (order_check C B o) refl (fine_within C B o fine));
        first = now_start s.state.drive B s.list o;
      }

  pub undamaged : (a : Deed) → of_board a ≡ true → (answers a s).number ≡ 5 → ⊥
  unfolding saving_check zero_or
  undamaged (Opens C) o h = not_five (1 ∷ 2 ∷ []) (answers (Opens C) s).number (lent_within C s.state.board (length s.list)) refl h
  undamaged (Reads form S) o h = clash o refl
  undamaged (Adds x w) o h = add_not s.state hs is.sound s.list x w (way_at (add_order x w) s) (taken (add_order x w)) h
  undamaged (Removes x) o h = remove_not s.state hs is.sound s.list x (way_at (remove_order x) s) (taken (remove_order x)) h
  undamaged Slots o h = let z = slot_served hs s is in omega arith
  undamaged (Rounds O) o h = never_damaged s.state hs is.sound (Round O) h
  undamaged (Reports x) o h = never_damaged s.state hs is.sound (Report x) h
  undamaged (Saves form O) o h =
      let F = form_of form in
      let q = asked_output s.state.drive s.state.board (length O) (size_of F s.state.drive s.state.board) in
      save_not form (first_of F.may q) q refl (ap not fine) h
  undamaged (Fetches t) o h = clash o refl
  undamaged Refreshes o h = never_damaged s.state hs is.sound Fresh h
