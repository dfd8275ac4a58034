-- What the calls with tables answer: the numbers that each part of their checks may find, and what a change that is not done leaves as it was.
-- Assumes nothing.
use mathlib.Core.Path.{◌≡◌, refl, ap, ◌∙◌}
use mathlib.Core.Bool.{Bool, true, not, ◌||◌}
use mathlib.Core.List.{List, [], ◌∷◌}
use Prim.Native.Nat.{ℕ, max}
use native.Mathlib.Decide.{ℕ_discrete}
use lib.ListN.{length}
use Rattle.general.proofs.Laws.{by_bool}
use Rattle.tables.specs.Sharing.{held_for}
use Rattle.calls.specs.declared.Drive.{Drive}
use Rattle.calls.specs.declared.Refusal.TheVariants.{Midround, Damaged}
use Rattle.calls.specs.Types.{Check}
use Rattle.std.specs.Prelude.{Ok, Err}
use Rattle.calls.specs.Refusals.{zero_or, refuse_if, and_then, asked_add, asked_name, add_may, remove_may, add_check, remove_check}
use Rattle.calls.proofs.Laws.{refusal, Within, then_within, if_within, covers, part_within, ascending}
use Rattle.waiting.specs.declared.Order.{Order}
use Rattle.waiting.specs.Layout.{too_short, full, taken_list}
use Rattle.orders.specs.Types.{Way}
use Rattle.orders.specs.declared.Moment.TheVariants as moment
use Rattle.orders.specs.Checks.{order_check, waits_if}
use Rattle.orders.specs.Results as plain
use Rattle.orders.specs.Results.{add_order, remove_order}
use Rattle.drives.specs.Checks.{pair_check, both_start}
use Rattle.drives.proofs.Laws.{pair_within, add_order_lem, remove_order_lem, way_within, start_within, carried_still}
use Rattle.shares.specs.States.{BoardTables, fitting}
use Rattle.shares.specs.Checks.{too_few, fit_check, placed_check, share_check, list_check, way_of}
use Rattle.shares.specs.Results.{over_order, board_order, table_after, rates_after, carried_state, state_by, changed_answer}
use Rattle.shares.proofs.Readying.{now_ready}
use Rattle.shares.proofs.Doings.{same_lent, on_plain, on_over, remove_state, over_state, plain_state}

module _ (a b : Drive) (s : BoardTables) (t : Bool) where
  abbrev pair : Check
  pair = pair_check a b s.board (t || too_few (max a.capacity b.capacity) s)

  pair_then : (ns : List ℕ) (k : Check) → covers ns (1 ∷ 2 ∷ 3 ∷ []) ≡ true → Within ns k → Within ns (and_then pair k)
  pair_then ns k c m =
      then_within ns pair k (part_within ns (1 ∷ 2 ∷ 3 ∷ []) pair c (pair_within a b s.board (t || too_few (max a.capacity b.capacity) s))) m

  -- The checks answer 1, 2, 3 or 5 wherever the drives are,
  pub share_within : Within (1 ∷ 2 ∷ 3 ∷ 5 ∷ []) (share_check a b s t)
  unfolding share_check covers zero_or
  share_within =
      let ns : List ℕ = 1 ∷ 2 ∷ 3 ∷ 5 ∷ [] in
      pair_then ns (fit_check a.capacity s) refl (if_within ns (not (fitting a.capacity s)) Damaged (Ok tt) refl refl)

  -- and 4 too, of a call that is made at one place.
  pub placed_within : (there : Bool) → Within (1 ∷ 2 ∷ 3 ∷ 4 ∷ 5 ∷ []) (placed_check there a b s t)
  unfolding placed_check covers zero_or
  placed_within there =
      let ns : List ℕ = 1 ∷ 2 ∷ 3 ∷ 4 ∷ 5 ∷ [] in
      pair_then ns (refuse_if (not there) Midround (fit_check a.capacity s)) refl
      (if_within ns (not there) Midround (fit_check a.capacity s) refl (if_within ns (not (fitting a.capacity s)) Damaged (Ok tt) refl refl))

module _ (a b : Drive) (s : BoardTables) (L : List ℕ) where
  -- A change answers what the first checks, an order that is to wait, the list and the change made at position 1 answer.
  change_within : (ns : List ℕ) (o : Order) → covers ns (1 ∷ 2 ∷ 3 ∷ 5 ∷ []) ≡ true → zero_or 14 ns ≡ true → zero_or 13 ns ≡ true
      → Within ns (order_check a.capacity s.board o) → (a.position ≡ 1 → zero_or (plain.carried_answer a s.board (board_order o)).number ns ≡ true)
      → zero_or (changed_answer a b s L o).number ns ≡ true
  unfolding way_of
  change_within ns o c queue waits m now = go (way_of a b s L o) refl
    where
      go : (k : Way) → way_of a b s L o ≡ k → zero_or (plain.changed_answer_by k a s.board L (board_order o)).number ns ≡ true
      go (Err r) e =
          way_within ns (list_check a b s (length L)) (waits_if (both_start a b) L) (order_check a.capacity s.board o) r
          (part_within ns (1 ∷ 2 ∷ 3 ∷ 5 ∷ []) (list_check a b s (length L)) c (share_within a b s (too_short (length L)))) m e
      go (Ok moment.Later) e = by_bool (full L) (λ f. rw f queue) (λ f. rw f waits)
      go (Ok moment.Now) e = now (now_ready a b s L o e).1

  pub add_answers : (x w : ℕ) → zero_or (changed_answer a b s L (add_order x w)).number (1 ∷ 2 ∷ 3 ∷ 5 ∷ 6 ∷ 7 ∷ 14 ∷ 13 ∷ 8 ∷ 10 ∷ []) ≡ true
  unfolding plain.carried_answer add_check covers ascending board_order
  add_answers x w =
      let ns : List ℕ = 1 ∷ 2 ∷ 3 ∷ 5 ∷ 6 ∷ 7 ∷ 14 ∷ 13 ∷ 8 ∷ 10 ∷ [] in
      change_within ns (add_order x w) refl refl refl
      (part_within ns (5 ∷ 6 ∷ 7 ∷ []) (order_check a.capacity s.board (add_order x w)) refl (add_order_lem a.capacity s.board x w))
      (start_within ns add_may (asked_add a s.board x w) refl refl)

  over_order_lem : (x w : ℕ) → Within (5 ∷ 6 ∷ 7 ∷ []) (order_check a.capacity s.board (over_order x w))
  unfolding order_check
  over_order_lem x w = add_order_lem a.capacity s.board x w

  pub over_answers : (x r : ℕ) → zero_or (changed_answer a b s L (over_order x r)).number (1 ∷ 2 ∷ 3 ∷ 5 ∷ 6 ∷ 7 ∷ 14 ∷ 13 ∷ 8 ∷ 10 ∷ []) ≡ true
  unfolding plain.carried_answer add_check covers ascending board_order
  over_answers x r =
      let ns : List ℕ = 1 ∷ 2 ∷ 3 ∷ 5 ∷ 6 ∷ 7 ∷ 14 ∷ 13 ∷ 8 ∷ 10 ∷ [] in
      change_within ns (over_order x r) refl refl refl
      (part_within ns (5 ∷ 6 ∷ 7 ∷ []) (order_check a.capacity s.board (over_order x r)) refl (over_order_lem x r))
      (start_within ns add_may (asked_add a s.board x (held_for r)) refl refl)

  pub remove_answers : (x : ℕ) → zero_or (changed_answer a b s L (remove_order x)).number (1 ∷ 2 ∷ 3 ∷ 5 ∷ 6 ∷ 14 ∷ 13 ∷ 9 ∷ []) ≡ true
  unfolding plain.carried_answer remove_check covers ascending board_order
  remove_answers x =
      let ns : List ℕ = 1 ∷ 2 ∷ 3 ∷ 5 ∷ 6 ∷ 14 ∷ 13 ∷ 9 ∷ [] in
      change_within ns (remove_order x) refl refl refl
      (part_within ns (5 ∷ 6 ∷ []) (order_check a.capacity s.board (remove_order x)) refl (remove_order_lem a.capacity s.board x))
      (start_within ns remove_may (asked_name a s.board x) refl refl)

-- ---- a change that is not done

module _ (d : Drive) (s : BoardTables) (o : Order) where
  remove_still : o.kind ≡ 2 → ((plain.carried_answer d s.board o).number ≡ 0 → ⊥) → carried_state d s o ≡ s
  unfolding plain.carried_answer table_after
  remove_still e h =
      let f = (refusal (remove_check d s.board o.name) (rw e at h)).1 in
      remove_state d s o e ∙ rw f refl

  over_still : o.kind ≡ 3 → ((plain.carried_answer d s.board (add_order o.name (held_for o.weight))).number ≡ 0 → ⊥) → carried_state d s o ≡ s
  unfolding plain.carried_answer rates_after
  over_still e h =
      let f = (refusal (add_check d s.board o.name (held_for o.weight)) h).1 in
      over_state d s o e ∙ rw f refl

  carried_stays : ((plain.carried_answer d s.board (board_order o)).number ≡ 0 → ⊥) → carried_state d s o ≡ s
  carried_stays h = elim (ℕ_discrete o.kind 3) [
    | yes e ↦ over_still e (λ z. h (ap (λ (q : Order). (plain.carried_answer d s.board q).number) (on_over o e) ∙ z))
    | no n ↦
        let g : (plain.carried_answer d s.board o).number ≡ 0 → ⊥ = λ z. h (ap (λ (q : Order). (plain.carried_answer d s.board q).number) (on_plain o n) ∙ z) in
        elim (ℕ_discrete o.kind 2) [
          | yes e ↦ remove_still e g
          | no m ↦ plain_state d s o m n ∙ same_lent (carried_still d s.board o g) refl refl refl
        ]
  ]

-- It leaves the state as it was, and the list too unless it answers 13.
pub change_still : (k : Way) (a : Drive) (s : BoardTables) (L : List ℕ) (o : Order) → ((plain.changed_answer_by k a s.board L (board_order o)).number ≡ 0 → ⊥)
    → (state_by k (carried_state a s o) s ≡ s) × (((plain.changed_answer_by k a s.board L (board_order o)).number ≡ 13 → ⊥) → plain.list_by k (taken_list L o) L ≡ L)
change_still (Err r) a s L o h = (refl, λ n. refl)
change_still (Ok moment.Later) a s L o h = (refl, λ n. by_bool (full L) (λ f. rw f refl) (λ f. absurd (n (rw f refl))))
change_still (Ok moment.Now) a s L o h = (carried_stays a s o h, λ n. refl)
