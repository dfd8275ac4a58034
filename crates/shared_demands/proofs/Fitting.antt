-- The tables go on fitting the board, and each deficit is told by the drive's place in its round: after orders, which are carried out only where both drives are at
-- the start of a round and every deficit is 0, and after a turn. Assumes nothing.
use mathlib.Core.Path.{◌≡◌, refl, sym, ap, ◌∙◌}
use mathlib.Core.Bool.{Bool, true}
use mathlib.Core.List.{List, [], ◌∷◌}
use Prim.Native.Nat.{ℕ, zero, suc, ◌+◌, ◌≤◌, ◌<◌}
use native.Mathlib.Omega.{arith}
use native.Mathlib.Decide.{dec_lt, ℕ_discrete}
use lib.Dec.{eqb}
use lib.ListN.{length, get_or}
use borrow.Author.Tests.{eqb-true, ne_eqb}
use Rattle.general.proofs.Laws.{by_bool}
use Rattle.sequences.specs.SlotOrder.{leaf_at, served_from, next_from, Position}
use Rattle.sequences.specs.Serving.{count_list, left, leaves_from, after_slots}
use Rattle.sequences.proofs.Laws.{first_position, leaf_below_lem, left_first, left_after, leaves_more, after_more_slots, round_ends, list_append}
use Rattle.calls.specs.declared.Drive.{Drive}
use Rattle.calls.specs.Refusals.{add_check, remove_check}
use Rattle.calls.specs.Results.{served_leaf, added_board, removed_board}
use Rattle.calls.proofs.Laws.{add_clear, add_weight, remove_clear, leaves_times}
use Rattle.pieces.specs.Placing.{placed}
use Rattle.pieces.specs.Tidying.{removed}
use Rattle.tables.specs.Sharing.{held_for, lowest, rates_fit, owed_fit}
use Rattle.tables.specs.Turns.{owed_at, owed_along}
use Rattle.tables.proofs.Laws.{held_some, owed_from, owed_append, serves_whole, lowest_at, rated_at, owed_none, fits_parts, fits_first, fits_swap, placed_fits, over_fits, removed_fits, turn_fits, settled_length, rated_length, turn_length, along, Zero, plain_settled}
use Rattle.waiting.specs.declared.Order.{Order}
use Rattle.waiting.specs.Carrying.{carried_all}
use Rattle.orders.specs.Results.{carried_board}
use Rattle.shares.specs.States.{BoardTables, lent, fitting}
use Rattle.shares.specs.Results.{board_order, table_after, rates_after, carried_rates, carried_owed, carried_state, doing, turn_state}
use Rattle.shared_demands.specs.Turns.{exchanged_state}
use Rattle.shared_demands.proofs.Checking.{by_check}

-- ---- what fits goes on fitting

-- The tables are long enough, and fit the board.
pub record Tabled (C : ℕ) (s : BoardTables) : Type 0 where
  pub rates : C ≤ length s.rates
  pub owed : C ≤ length s.owed
  pub other : C ≤ length s.other
  pub fit : fitting C s ≡ true

module _ (d : Drive) (s : BoardTables) (is : Tabled d.capacity s) where
  abbrev C : ℕ
  C = d.capacity

  abbrev B : List ℕ
  B = s.board

  add_tabled : (x w : ℕ) → Tabled C (lent (added_board d B x w) s.rates s.owed s.other)
  add_tabled x w = by_check (add_check d B x w)
      (λ e. rw e (record { rates = is.rates; owed = is.owed; other = is.other; fit = placed_fits C B s.rates (s.owed ∷ s.other ∷ []) is.fit x w (add_clear d B x w e) }))
      (λ r e. rw e is)

  over_tabled : (x r : ℕ) → Tabled C (lent (added_board d B x (held_for r)) (rates_after d B x r s.rates) s.owed s.other)
  unfolding rates_after
  over_tabled x r = by_check (add_check d B x (held_for r))
      (λ e. rw e (record {
        rates = let l = rated_length C (placed C B x (held_for r)) s.rates x r in let k = is.rates in omega arith;
        owed = is.owed;
        other = is.other;
        fit = over_fits C B s.rates (s.owed ∷ s.other ∷ []) is.fit x r (add_clear d B x (held_for r) e) (add_weight d B x (held_for r) e) is.rates;
      }))
      (λ k e. rw e is)

  remove_tabled : (x : ℕ) → Tabled C (lent (removed_board d B x) (table_after d B x s.rates) (table_after d B x s.owed) (table_after d B x s.other))
  unfolding table_after
  remove_tabled x = by_check (remove_check d B x)
      (λ e. rw e (record {
        rates = let l = settled_length C B (removed C B x) s.rates in let k = is.rates in omega arith;
        owed = let l = settled_length C B (removed C B x) s.owed in let k = is.owed in omega arith;
        other = let l = settled_length C B (removed C B x) s.other in let k = is.other in omega arith;
        fit = removed_fits C B s.rates (s.owed ∷ s.other ∷ []) is.fit is.rates x (remove_clear d B x e);
      }))
      (λ k e. rw e is)

  pub carried_tabled : (o : Order) → Tabled d.capacity (carried_state d s o)
  unfolding board_order carried_board carried_rates carried_owed
  carried_tabled o = by_bool (eqb o.kind 2)
      (λ t.
      let k = eqb-true o.kind 2 t in
      rw (t, ne_eqb o.kind 3 (λ e. omega arith), ne_eqb o.kind 1 (λ e. omega arith), t) (remove_tabled o.name))
      (λ f. by_bool (eqb o.kind 3)
      (λ t. rw (f, t) (over_tabled o.name o.weight))
      (λ g. by_bool (eqb o.kind 1) (λ t. rw (f, g, t) (add_tabled o.name o.weight)) (λ h. rw (f, g, h, f) is)))

pub all_tabled : (d : Drive) (s : BoardTables) (os : List Order) → Tabled d.capacity s → Tabled d.capacity (carried_all (doing d) s os)
unfolding carried_all
all_tabled d s [] is = is
all_tabled d s (o ∷ os) is = all_tabled d (carried_state d s o) os (carried_tabled d s is o)

pub turn_tabled : (d : Drive) (s : BoardTables) → Position d.capacity d.position → Tabled d.capacity s → Tabled d.capacity (turn_state d s)
turn_tabled d s at is =
    let C = d.capacity in
    let B = s.board in
    let x = get_or B (served_leaf d) 0 in
    let l = lowest C B x in
    let below : lowest C B x < C = omega (arith, lowest_at B x C (served_leaf d) (leaf_below_lem C d.position at) refl, leaf_below_lem C d.position at) in
    record {
      rates = is.rates;
      owed = let n = turn_length s.rates s.owed l in let k = is.owed in omega arith;
      other = is.other;
      fit = turn_fits C B s.rates s.owed (s.other ∷ []) l below is.fit;
    }

-- ---- deficits of 0 stay so when orders are carried out

carried_zero : (d : Drive) (B : List ℕ) (o : Order) (E : List ℕ) → Zero d.capacity E → carried_owed d B o E ≡ E
unfolding carried_owed table_after
carried_zero d B o E none = by_bool (eqb o.kind 2)
    (λ t. rw t (by_check (remove_check d B o.name) (λ e. rw e (plain_settled d.capacity E none B (removed d.capacity B o.name))) (λ r e. rw e refl)))
    (λ f. rw f refl)

pub all_zero : (d : Drive) (s : BoardTables) (os : List Order) → Zero d.capacity s.owed → Zero d.capacity s.other
    → Zero d.capacity (carried_all (doing d) s os).owed × Zero d.capacity (carried_all (doing d) s os).other
unfolding carried_all
all_zero d s [] a b = (a, b)
all_zero d s (o ∷ os) a b =
    all_zero d (carried_state d s o) os (rw (carried_zero d s.board o s.owed a) a) (rw (carried_zero d s.board o s.other b) b)

-- ---- a deficit is told by the place in the round

-- The leaves of these that hold the name at leaf i.
abbrev pub given_to : List ℕ → ℕ → List ℕ → ℕ
given_to B i leaves = count_list (λ a. eqb (get_or B a 0) (get_or B i 0)) leaves

-- The deficit of the over-allocated stream at leaf i, where the drive is at position p, as many slots after the start of its round: that of as many turns as
-- leaves the stream was given in them.
pub record Owes (C p : ℕ) (B T E : List ℕ) (i : ℕ) : Type 0 where
  pub slots : ℕ
  pub within : slots < C
  pub at : after_slots C 1 slots ≡ p
  pub owes : get_or E i 0 ≡ owed_from (get_or T i 0) 0 (given_to B i (leaves_from C 1 slots))

abbrev pub Told : ℕ → ℕ → List ℕ → List ℕ → List ℕ → Type 0
Told C p B T E = (i : ℕ) → i < C → (get_or T i 0 ≡ 0 → ⊥) → Owes C p B T E i

-- within a round the position is not the first
pub start_none : (C n : ℕ) → zero < C → C ≤ 4095 → n < C → after_slots C 1 n ≡ 1 → n ≡ 0
start_none C n some few h e =
    let f = left_first C some (omega arith) in
    let a = left_after C 1 n (first_position C some (omega arith)) (omega arith) in
    let c : left C (after_slots C 1 n) ≡ left C 1 = ap (left C) e in
    omega arith

module _ (C : ℕ) (B T E : List ℕ) (some : zero < C) (few : C ≤ 4095) where
  -- At the start of a round every deficit is 0.
  pub told_zero : owed_fit C T E ≡ true → Told C 1 B T E → Zero C E
  unfolding leaves_from count_list owed_from
  told_zero fit told i h = elim (ℕ_discrete (get_or T i 0) 0) [
    | yes z ↦ owed_none C T E fit i h z
    | no n ↦
        let w = told i h n in
        let z = start_none C w.slots some few w.within w.at in
        rw z at w.owes
  ]

  pub zero_told : Zero C E → Told C 1 B T E
  unfolding after_slots leaves_from count_list owed_from
  zero_told none i h n = record { slots = 0; within = some; at = refl; owes = none i h }

module _ (C p : ℕ) (B T E : List ℕ) (at : Position C p) (fit : rates_fit C B T ≡ true) (wide : C ≤ length E) (i : ℕ) (h : i < C) (over : get_or T i 0 ≡ 0 → ⊥)
    (was : Owes C p B T E i) where
  abbrev leaf : ℕ
  leaf = leaf_at C (served_from C p)

  abbrev E' : List ℕ
  E' = owed_at C B T E leaf

  abbrev m : ℕ
  m = was.slots

  -- one leaf more
  more : given_to B i (leaves_from C 1 (suc m)) ≡ given_to B i (leaves_from C 1 m) + given_to B i (leaf ∷ [])
  more =
      let f : ℕ → Bool = λ a. eqb (get_or B a 0) (get_or B i 0) in
      ap (count_list f) (leaves_more C 1 m)
      ∙ rw was.at (list_append f (leaves_from C 1 m) (leaf ∷ []))

  owes_more : get_or E' i 0 ≡ owed_from (get_or T i 0) 0 (given_to B i (leaves_from C 1 (suc m)))
  unfolding owed_along
  owes_more =
      let r = rated_at C B T fit i h over in
      let t = along C B T (get_or B i 0) i r.named r.low h (get_or T i 0) refl (omega arith) (leaf ∷ []) E (omega arith) in
      t.0
      ∙ ap (λ (v : ℕ). owed_from (get_or T i 0) v (given_to B i (leaf ∷ []))) was.owes
      ∙ sym (owed_append (get_or T i 0) 0 (given_to B i (leaves_from C 1 m)) (given_to B i (leaf ∷ [])))
      ∙ ap (owed_from (get_or T i 0) 0) (sym more)

  next : after_slots C 1 (suc m) ≡ next_from C p
  next = after_more_slots C 1 m ∙ ap (next_from C) was.at

  -- A turn goes on in the round, or ends it: then R leaves were given, and the deficit is 0 again.
  pub owes_turn : Owes C (next_from C p) B T (owed_at C B T E (leaf_at C (served_from C p))) i
  unfolding after_slots leaves_from count_list owed_from
  owes_turn = elim (dec_lt (suc m) C) [
    | yes l ↦ record { slots = suc m; within = l; at = next; owes = owes_more }
    | no l ↦
        let few : C < 4096 = at.few in
        let last : suc m ≡ C = let w = was.within in omega arith in
        let r = rated_at C B T fit i h over in
        let all : given_to B i (leaves_from C 1 C) ≡ held_for (get_or T i 0) = leaves_times C B few (get_or B i 0) ∙ r.holds in
        record {
          slots = 0;
          within = at.some;
          at = sym (round_ends C at.some few) ∙ ap (after_slots C 1) (sym last) ∙ next;
          owes = owes_more
              ∙ ap (λ (n : ℕ). owed_from (get_or T i 0) 0 (given_to B i (leaves_from C 1 n))) last
              ∙ ap (owed_from (get_or T i 0) 0) all
              ∙ (serves_whole (get_or T i 0) (omega arith) 0 (held_some (get_or T i 0) (omega arith))).1;
        }
  ]

-- ---- the tables of two drives, the own at position p, the other at q

pub record Tabling (C p q : ℕ) (s : BoardTables) : Type 0 where
  pub tables : Tabled C s
  pub told : Told C p s.board s.rates s.owed
  pub others : Told C q s.board s.rates s.other

pub owed_fit_lem : (C : ℕ) (s : BoardTables) → Tabled C s → (rates_fit C s.board s.rates ≡ true) × (owed_fit C s.rates s.owed ≡ true) × (owed_fit C s.rates s.other ≡ true)
owed_fit_lem C s is =
    let B = s.board in
    let T = s.rates in
    let p = fits_first C B T s.owed (s.other ∷ []) is.fit in
    ((fits_parts C B T (s.owed ∷ s.other ∷ []) is.fit).1, p.0, (fits_first C B T s.other [] p.1).0)

pub tabling_turned : (C p q : ℕ) (s : BoardTables) → Tabling C p q s → Tabling C q p (exchanged_state s)
tabling_turned C p q s is =
    let t = is.tables in
    record {
      tables = record { rates = t.rates; owed = t.other; other = t.owed; fit = fits_swap C s.board s.rates s.owed [] s.other t.fit };
      told = is.others;
      others = is.told;
    }

-- Orders, carried out where both drives are at the start of a round.
pub tabling_orders : (d : Drive) (s : BoardTables) (os : List Order) → zero < d.capacity → d.capacity ≤ 4095 → Tabling d.capacity 1 1 s → Tabling d.capacity 1 1 (carried_all (doing d) s os)
tabling_orders d s os some few is =
    let C = d.capacity in
    let f = owed_fit_lem C s is.tables in
    let z = all_zero d s os (told_zero C s.board s.rates s.owed some few f.1 is.told) (told_zero C s.board s.rates s.other some few f.2 is.others) in
    let t = carried_all (doing d) s os in
    record {
      tables = all_tabled d s os is.tables;
      told = zero_told C t.board t.rates t.owed some few z.0;
      others = zero_told C t.board t.rates t.other some few z.1;
    }

-- A turn of the own drive.
pub tabling_turn : (d : Drive) (s : BoardTables) (q : ℕ) → Position d.capacity d.position → Tabling d.capacity d.position q s
    → Tabling d.capacity (next_from d.capacity d.position) q (turn_state d s)
tabling_turn d s q at is =
    let t = is.tables in
    record {
      tables = turn_tabled d s at t;
      told = λ i h n. owes_turn d.capacity d.position s.board s.rates s.owed at (owed_fit_lem d.capacity s t).0 t.owed i h n (is.told i h n);
      others = is.others;
    }
