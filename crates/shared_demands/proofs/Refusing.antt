-- Demand 1 for a change and a slot with tables, on every input. Assumes nothing.
use mathlib.Core.Path.{◌≡◌, refl}
use mathlib.Core.Bool.{true, false}
use mathlib.Core.List.{List, [], ◌∷◌}
use Prim.Native.Nat.{ℕ}
use lib.Dec.{eqb}
use lib.ListN.{length}
use borrow.Author.Tests.{eqb-false}
use Rattle.calls.specs.declared.Drive.{Drive}
use Rattle.calls.specs.Refusals.{number_of, zero_or}
use Rattle.calls.proofs.Laws.{Within, covers, part_within, other_number}
use Rattle.tables.specs.Sharing.{held_for}
use Rattle.waiting.specs.declared.Order.{Order}
use Rattle.waiting.specs.Layout.{too_short}
use Rattle.orders.specs.declared.Moment.TheVariants as moment
use Rattle.std.specs.Prelude.{Ok}
use Rattle.orders.specs.Checks.{order_check, waits_if}
use Rattle.orders.specs.Results.{add_order, remove_order}
use Rattle.drives.specs.Checks.{both_start}
use Rattle.drives.proofs.Laws.{start_both, remove_order_lem}
use Rattle.shares.specs.Checks.{way_of}
use Rattle.shares.specs.Results.{over_order, board_order}
use Rattle.shares.proofs.Laws.{share_within, change_still}
use Rattle.amended.specs.Deeds.{desk}
use Rattle.amended.proofs.Laws as amended
use Rattle.shared_demands.specs.Turns.{Pair, first_checks, way_at, Changes, Slots, answers_own, state_after, list_after}
use Rattle.shared_demands.specs.Refusing as refusing
use Rattle.shared_demands.proofs.Checking.{by_check, now_both}

module _ (s : Pair) where
  abbrev d : Drive
  d = s.own

  -- the first checks find 1, 2, 3 or 5
  first_within : Within refusing.slot_may (first_checks s)
  first_within = share_within s.own s.other s.state (too_short (length s.list))

  -- a change that is not done leaves the board and the tables, and the list too unless it is answered 13
  kept : (o : Order) → eqb (answers_own (Changes o) s).number 0 ≡ false
      → (state_after (Changes o) s ≡ s.state) × (eqb (answers_own (Changes o) s).number 13 ≡ false → list_after (Changes o) s ≡ s.list)
  kept o h =
      let q = change_still (way_at o s) s.own s.state s.list o (eqb-false (answers_own (Changes o) s).number 0 h) in
      (q.0, λ n. q.1 (eqb-false (answers_own (Changes o) s).number 13 n))

  first : (o : Order) → way_at o s ≡ Ok moment.Now → s.own.position ≡ 1
  first o e = (start_both s.own s.other (now_both s.own s.other s.state s.list o e).1).0

  -- how a change may be taken: refused by the first checks or those of an order, and made at once only at the start of a round
  taken : (ns js : List ℕ) (o : Order) → covers ns refusing.slot_may ≡ true → covers ns js ≡ true → Within js (order_check s.own.capacity s.state.board o) → amended.TakenBy ns s.own (way_at o s)
  unfolding way_of
  taken ns js o a b m = record {
    within = amended.way_within ns (first_checks s) (waits_if (both_start s.own s.other) s.list) (order_check s.own.capacity s.state.board o)
        (part_within ns refusing.slot_may (first_checks s) a first_within)
        (part_within ns js (order_check s.own.capacity s.state.board o) b m);
    first = first o;
  }

  -- An add, over-allocated or not,
  pub demand_1_add : (x w : ℕ) → eqb (answers_own (Changes (add_order x w)) s).number 0 ≡ false → refusing.Refused refusing.add_may (Changes (add_order x w)) s
  unfolding board_order covers zero_or
  demand_1_add x w h =
      let o = add_order x w in
      let k = way_at o s in
      let t = taken amended.firsts (5 ∷ 6 ∷ 7 ∷ []) o refl refl (amended.order_within d.capacity s.state.board o) in
      let r = amended.add_refused (desk d s.state.board s.list) x w k t h in
      record {
        number = r.number;
        record' = refl;
        state = (kept o h).0;
        list = (kept o h).1;
        values = r.values;
      }

  pub demand_1_over : (x r : ℕ) → eqb (answers_own (Changes (over_order x r)) s).number 0 ≡ false → refusing.Refused refusing.add_may (Changes (over_order x r)) s
  unfolding board_order covers zero_or
  demand_1_over x r h =
      let o = over_order x r in
      let k = way_at o s in
      let t = taken amended.firsts (5 ∷ 6 ∷ 7 ∷ []) o refl refl (amended.order_within d.capacity s.state.board o) in
      let q = amended.add_refused (desk d s.state.board s.list) x (held_for r) k t h in
      record {
        number = q.number;
        record' = refl;
        state = (kept o h).0;
        list = (kept o h).1;
        values = q.values;
      }

  -- a remove
  pub demand_1_remove : (x : ℕ) → eqb (answers_own (Changes (remove_order x)) s).number 0 ≡ false → refusing.Refused refusing.remove_may (Changes (remove_order x)) s
  unfolding board_order covers zero_or
  demand_1_remove x h =
      let o = remove_order x in
      let k = way_at o s in
      let t = taken amended.remove_firsts (5 ∷ 6 ∷ []) o refl refl (remove_order_lem d.capacity s.state.board x) in
      let r = amended.remove_refused (desk d s.state.board s.list) x k t h in
      record {
        number = r.number;
        record' = refl;
        state = (kept o h).0;
        list = (kept o h).1;
        values = r.values;
      }

  -- and a slot, which changes nothing if it is refused.
  pub demand_1_slot : eqb (answers_own Slots s).number 0 ≡ false → refusing.Refused refusing.slot_may Slots s
  unfolding zero_or
  demand_1_slot h = by_check (first_checks s)
      (λ e. let z = rw e at h in cc)
      (λ r e.
      let m : zero_or (number_of r) refusing.slot_may ≡ true = rw e at first_within in
      record {
        number = rw e m;
        record' = rw e refl;
        state = rw e refl;
        list = λ q. rw e refl;
        values = rw (e, other_number refusing.slot_may (number_of r) 13 m refl, other_number refusing.slot_may (number_of r) 10 m refl) refl;
      })
