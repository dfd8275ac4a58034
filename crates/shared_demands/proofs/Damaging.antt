-- Where the tables fit a good board no call with them answers DAMAGED. Assumes nothing.
use mathlib.Core.Path.{◌≡◌, refl, ap, subst}
use mathlib.Core.Bool.{Bool, true, false}
use mathlib.Core.List.{List, [], ◌∷◌}
use lib.ListN.{length}
use Rattle.calls.specs.declared.Refusal.{Refusal}
use Rattle.calls.specs.Types.{Check}
use Rattle.std.specs.Prelude.{Ok, Err}
use Rattle.calls.specs.Refusals.{number_of, zero_or}
use Rattle.calls.proofs.Laws.{Within}
use Rattle.demands.specs.Histories.{after}
use Rattle.pieces.specs.Streams.{Stream}
use Rattle.waiting.specs.declared.Order.{Order}
use Rattle.orders.specs.Types.{Way}
use Rattle.orders.specs.declared.Moment.TheVariants as moment
use Rattle.orders.specs.Checks.{order_check, waits_if, way_by}
use Rattle.orders.specs.Results.{changed_answer_by}
use Rattle.drives.specs.Checks.{both_start}
use Rattle.shares.specs.Checks.{list_check, way_of}
use Rattle.shares.specs.Results.{board_order}
use Rattle.amended.specs.Carried.{acts_of}
use Rattle.amended.proofs.Laws as amended
use Rattle.shared_demands.specs.Turns.{Pair, shown, way_at, Changes, answers_own}
use Rattle.shared_demands.proofs.Standing.{Standing, first_clear}

-- a change that is refused before it waits is refused by the checks of an order
way_refused : (k j : Check) (waits : Bool) (r : Refusal) → k ≡ Ok tt → way_by k waits j ≡ Err r → j ≡ Err r
way_refused (Err q) j waits r c e = cc
way_refused (Ok tt) j false r c e = cc
way_refused (Ok u) (Ok v) true r c e = cc
way_refused (Ok tt) (Err q) true r c e = let z : q ≡ r = cc in ap Err z

module _ (hs : List Stream) (s : Pair) (is : Standing hs s) where
  change_not : (o : Order) (k : Way) → way_at o s ≡ k → (changed_answer_by k s.own s.state.board s.list (board_order o)).number ≡ 5 → ⊥
  unfolding way_of zero_or acts_of after
  change_not o (Err r) e h =
      let C = s.own.capacity in
      let B = s.state.board in
      let j = way_refused (list_check s.own s.other s.state (length s.list)) (order_check C B o) (waits_if (both_start s.own s.other) s.list) r (first_clear hs s is) e in
      let m : Within (6 ∷ 7 ∷ []) (Err r) = subst (λ (c : Check). Within (6 ∷ 7 ∷ []) c) j (amended.fine_within C B o is.own.fine) in
      amended.not_five (6 ∷ 7 ∷ []) (number_of r) m refl h
  change_not o (Ok moment.Later) e h = amended.taken_not s.list h
  change_not o (Ok moment.Now) e h = amended.turn_carried (shown s) hs is.own [] (board_order o) h

  pub change_undamaged : (o : Order) → (answers_own (Changes o) s).number ≡ 5 → ⊥
  change_undamaged o = change_not o (way_at o s) refl
