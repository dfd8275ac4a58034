-- What is held stands on the board, for each drive, the tables fit it, and each drive's deficits are told by its place in its round, whatever calls are made. Shown
-- for a call of the own drive; for the other's the records and the deficits are exchanged. Assumes nothing.
use mathlib.Core.Path.{◌≡◌, refl, sym, ap, subst, ◌∙◌}
use mathlib.Core.Bool.{true}
use mathlib.Core.List.{List, [], ◌∷◌}
use Prim.Native.Nat.{ℕ, zero, ◌≤◌, ◌<◌}
use native.Mathlib.Omega.{arith}
use lib.ListN.{length}
use Rattle.general.proofs.Laws.{by_bool}
use Rattle.pieces.specs.Board.{good}
use Rattle.std.specs.Prelude.{Ok, Err}
use Rattle.calls.proofs.Laws.{either_length}
use Rattle.tables.specs.Sharing.{all_zero}
use Rattle.tables.proofs.Laws.{zero_elim, fits_parts}
use Rattle.demands.specs.Histories.{after}
use Rattle.demands.specs.Histories as plainly
use Rattle.pieces.specs.Streams.{Stream}
use Rattle.demands.proofs.Laws.{Sound, reached, moves, slot_clear}
use Rattle.waiting.specs.declared.Order.{Order}
use Rattle.waiting.specs.Layout.{waiting}
use Rattle.waiting.specs.Carrying.{carried_all, outcomes}
use Rattle.waiting.proofs.Laws.{run_length, fetch_length}
use Rattle.orders.specs.Types.{Way}
use Rattle.orders.specs.declared.Moment.TheVariants as moment
use Rattle.drives.specs.Checks.{both_start}
use Rattle.drives.proofs.Laws.{start_both}
use Rattle.shares.specs.States.{BoardTables}
use Rattle.shares.specs.Results.{carried_state, doing, saying, ran_state, ran_list, state_by, state_then, list_then}
use Rattle.amended.specs.Deeds.{desk}
use Rattle.amended.specs.Holding.{on_leaves}
use Rattle.amended.proofs.Laws as amended
use Rattle.shared_demands.specs.Turns.{Pair, exchanged, exchanged_state, shown, first_checks, way_at, Deed, Changes, Slots, Fetches, list_after, leaves_own, Turn, Own, Other, leaves, leaves_all, shared, stands_for}
use Rattle.shared_demands.specs.Holding.{held_own, held_next, held_through, streams_on, Ready}
use Rattle.shared_demands.proofs.Checking.{share_lent, lent_share, now_both}
use Rattle.shared_demands.proofs.Turning.{ran_state', projected_one, shared_held, own_held}
use Rattle.shared_demands.proofs.Fitting.{Told, Tabling, tabling_turned, tabling_orders, tabling_turn}

-- ---- the list keeps its length

run_list : (s : Pair) → length (list_then s.own s.other s.state s.list) ≡ length s.list
unfolding list_then ran_list
run_list s = by_bool (both_start s.own s.other)
    (λ t. rw t (run_length s.list (outcomes (doing s.own) (saying s.own) s.state (waiting s.list))))
    (λ f. rw f refl)

pub list_length : (a : Deed) (s : Pair) → length (list_after a s) ≡ length s.list
list_length (Changes o) s = amended.by_way s.list o (way_at o s)
list_length Slots s = either_length (first_checks s) (list_then s.own s.other s.state s.list) s.list (run_list s)
list_length (Fetches t) s = fetch_length s.list t

-- ---- what stands

pub record Standing (hs : List Stream) (s : Pair) : Type 0 where
  pub own : Sound (shown s) hs
  pub other : Sound (shown (exchanged s)) hs
  pub same : s.own.capacity ≡ s.other.capacity
  pub long : 259 ≤ length s.list
  pub fine : Tabling s.own.capacity s.own.position s.other.position s.state

pub standing_turned : (hs : List Stream) (s : Pair) → Standing hs s → Standing hs (exchanged s)
standing_turned hs s is =
    let C = s.own.capacity in
    record {
      own = is.other;
      other = is.own;
      same = sym is.same;
      long = is.long;
      fine = subst (λ (c : ℕ). Tabling c s.other.position s.own.position (exchanged_state s.state)) is.same
          (tabling_turned C s.own.position s.other.position s.state is.fine);
    }

placed_at : (C : ℕ) (t : BoardTables) (p q m n : ℕ) → p ≡ m → q ≡ n → Tabling C p q t → Tabling C m n t
placed_at C t p q m n e f is = subst (λ (k : ℕ). Tabling C m k t) f (subst (λ (k : ℕ). Tabling C k q t) e is)

module _ (hs : List Stream) (s : Pair) (is : Standing hs s) where
  abbrev C : ℕ
  C = s.own.capacity

  pub some : zero < s.own.capacity
  some = is.own.valid.at.some

  pub few : s.own.capacity ≤ 4095
  few = let f = is.own.valid.at.few in omega arith

  -- the first checks find nothing
  pub first_clear : first_checks s ≡ Ok tt
  first_clear =
      let t = is.fine.tables in
      lent_share s.own s.other s.state (length s.list) (record {
        own = slot_clear (shown s) is.own.valid;
        other = slot_clear (shown (exchanged s)) is.other.valid;
        same = is.same;
        long = is.long;
        rates = t.rates;
        owed = t.owed;
        others = t.other;
        fit = t.fit;
      })

  -- orders are carried out where both drives are at the start of a round
  orders_fine : both_start s.own s.other ≡ true → (os : List Order) → Tabling C s.own.position s.other.position (carried_all (doing s.own) s.state os)
  orders_fine t os =
      let p = start_both s.own s.other t in
      let was = placed_at C s.state s.own.position s.other.position 1 1 p.0 p.1 is.fine in
      placed_at C (carried_all (doing s.own) s.state os) 1 1 s.own.position s.other.position (sym p.0) (sym p.1)
      (tabling_orders s.own s.state os some few was)

  pub ran_fine : Tabling s.own.capacity s.own.position s.other.position (ran_state' s)
  unfolding state_then ran_state
  ran_fine = by_bool (both_start s.own s.other) (λ t. rw t (orders_fine t (waiting s.list))) (λ f. rw f is.fine)

  change_fine : (o : Order) (k : Way) → way_at o s ≡ k → Tabling C s.own.position s.other.position (state_by k (carried_state s.own s.state o) s.state)
  unfolding carried_all
  change_fine o (Err r) e = is.fine
  change_fine o (Ok moment.Later) e = is.fine
  change_fine o (Ok moment.Now) e = orders_fine (now_both s.own s.other s.state s.list o e).1 (o ∷ [])

  own_fine : (a : Deed) → Tabling (leaves_own a s).own.capacity (leaves_own a s).own.position s.other.position (leaves_own a s).state
  own_fine (Changes o) = change_fine o (way_at o s) refl
  own_fine Slots = rw first_clear (tabling_turn s.own (ran_state' s) s.other.position is.own.valid.at ran_fine)
  own_fine (Fetches t) = is.fine

  own_standing : (a : Deed) → Standing (held_own hs a s) (leaves_own a s)
  own_standing a =
      let x = projected_one (Own a) s in
      let y = projected_one (Other a) (exchanged s) in
      record {
        own = subst (λ (u : plainly.State). Sound u (held_own hs a s)) (sym x)
            (subst (Sound (after (shown s) (stands_for (Own a) s))) (own_held hs a s) (reached (shown s) hs is.own (stands_for (Own a) s)));
        other = subst (λ (u : plainly.State). Sound u (held_own hs a s)) (sym y)
            (subst (Sound (after (shown (exchanged s)) (shared a s))) (sym (shared_held hs a s)) (reached (shown (exchanged s)) hs is.other (shared a s)));
        same = ap (λ (u : plainly.State). u.drive.capacity) x ∙ (moves (shown s) (stands_for (Own a) s)).0 ∙ is.same;
        long = let n = list_length a s in let l = is.long in omega arith;
        fine = own_fine a;
      }

pub standing_next : (hs : List Stream) (t : Turn) (s : Pair) → Standing hs s → Standing (held_next hs t s) (leaves t s)
standing_next hs (Own a) s is = own_standing hs s is a
standing_next hs (Other a) s is = standing_turned (held_own hs a (exchanged s)) (leaves_own a (exchanged s)) (own_standing hs (exchanged s) (standing_turned hs s is) a)

-- ---- where a history begins

-- where no stream is over-allocated nothing is owed
none_told : (C p : ℕ) (B T E : List ℕ) → all_zero C T ≡ true → Told C p B T E
none_told C p B T E none i h n = absurd (n (zero_elim T C i none h))

pub ready_standing : (s : Pair) → Ready s → Standing (streams_on s) s
ready_standing s is =
    let l = share_lent s.own s.other s.state (length s.list) is.clear in
    let B = s.state.board in
    let fine : good s.own.capacity B ≡ true = (fits_parts s.own.capacity B s.state.rates (s.state.owed ∷ s.state.other ∷ []) l.fit).0 in
    let fine' : good s.other.capacity B ≡ true = rw (← l.same) fine in
    record {
      own = amended.ready_sound (desk s.own B s.list) (record { clear = l.own; fine = fine; long = l.long });
      other = subst (λ (C : ℕ). Sound (shown (exchanged s)) (on_leaves B C)) (sym l.same)
          (amended.ready_sound (desk s.other B s.list) (record { clear = l.other; fine = fine'; long = l.long }));
      same = l.same;
      long = l.long;
      fine = record {
        tables = record { rates = l.rates; owed = l.owed; other = l.others; fit = l.fit };
        told = none_told s.own.capacity s.own.position B s.state.rates s.state.owed is.none;
        others = none_told s.own.capacity s.other.position B s.state.rates s.state.other is.none;
      };
    }

pub standing : (s : Pair) → Ready s → (turns : List Turn) → Standing (held_through (streams_on s) s turns) (leaves_all s turns)
standing s is turns = amended.ever leaves held_next Standing standing_next (streams_on s) s (ready_standing s is) turns
