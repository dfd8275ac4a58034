-- What an order of each kind does to a state and says; that it keeps the tables long enough and fitting the board; and what the code of the changes needs.
-- Assumes nothing.
use mathlib.Core.Path.{◌≡◌, refl, sym, ap, ◌∙◌}
use mathlib.Core.Bool.{Bool, true, false, ◌||◌}
use mathlib.Core.List.{List, [], ◌∷◌}
use Prim.Native.Nat.{ℕ, min, ◌≤◌, ◌<◌}
use native.Mathlib.Omega.{arith}
use native.Mathlib.Decide.{dec_lt, ℕ_discrete}
use lib.Dec.{eqb, ltb}
use lib.ListN.{length}
use borrow.Author.Tests.{ne_eqb, lt-ltb, ltb-false}
use Rattle.general.proofs.Laws.{by_bool}
use Rattle.pieces.specs.Board.{weight}
use Rattle.pieces.specs.Placing.{placed}
use Rattle.pieces.specs.Tidying as tidying
use Rattle.pieces.proofs.Laws.{weight_le, placed_weight}
use Rattle.tables.specs.Sharing.{held_for}
use Rattle.tables.specs.Settling.{settled_table, rated_table, Alike}
use Rattle.tables.proofs.Laws.{placed_fits, over_fits, removed_fits, settled_length, settled_told, rated_length}
use Rattle.calls.specs.declared.Drive.{Drive}
use Rattle.calls.specs.declared.Refusal.{Refusal}
use Rattle.calls.specs.Types.{Check, Changed}
use Rattle.std.specs.Prelude.{Ok, Err}
use Rattle.calls.specs.declared.Unchanged.{Unchanged}
use Rattle.calls.specs.Refusals.{number_of, applies, first_of, add_check, remove_check}
use Rattle.calls.specs.Results as calls
use Rattle.calls.specs.Results.{if_clear, admitted_by, change_by}
use Rattle.calls.specs.Promises as promised
use Rattle.calls.proofs.Laws.{add_clear, add_weight, remove_clear, either_length, slot_long}
use Rattle.waiting.specs.declared.Order.{Order}
use Rattle.waiting.specs.Carrying.{carried_all}
use Rattle.orders.specs.Results as plain
use Rattle.orders.proofs.Laws.{carried_length}
use Rattle.shares.specs.States.{BoardTables, lent, fitting}
use Rattle.shares.specs.Checks.{Ready}
use Rattle.shares.specs.Results.{board_order, carried, table_after, rates_after, carried_rates, carried_owed, carried_state, doing}

pub same_lent : {B D T U E G F H : List ℕ} → B ≡ D → T ≡ U → E ≡ G → F ≡ H → lent B T E F ≡ lent D U G H
same_lent b t e f = rw (b, t, e, f) refl

-- ---- by kind: what the board has of an order

module _ (o : Order) where
  pub on_plain : (o.kind ≡ 3 → ⊥) → board_order o ≡ o
  unfolding board_order
  on_plain n = rw (ne_eqb o.kind 3 n) refl

  pub on_over : o.kind ≡ 3 → board_order o ≡ plain.add_order o.name (held_for o.weight)
  unfolding board_order
  on_over e = rw e refl

module _ (d : Drive) (s : BoardTables) (o : Order) where
  -- a remove
  module _ (e : o.kind ≡ 2) where
    same : board_order o ≡ o
    same = on_plain o (λ z. omega arith)

    pub remove_said : carried d s o ≡ (calls.removed d s.board o.name).answer
    unfolding plain.carried
    remove_said = rw same (rw e refl)

    remove_board : plain.carried_board d s.board (board_order o) ≡ calls.removed_board d s.board o.name
    unfolding plain.carried_board
    remove_board = rw same (rw e refl)

    remove_rates : carried_rates d s o ≡ table_after d s.board o.name s.rates
    unfolding carried_rates
    remove_rates = rw e refl

    remove_owed : (E : List ℕ) → carried_owed d s.board o E ≡ table_after d s.board o.name E
    unfolding carried_owed
    remove_owed E = rw e refl

    pub remove_state : carried_state d s o ≡ lent (calls.removed_board d s.board o.name) (table_after d s.board o.name s.rates) (table_after d s.board o.name s.owed) (table_after d s.board o.name s.other)
    remove_state = same_lent remove_board remove_rates (remove_owed s.owed) (remove_owed s.other)

  -- an over-allocated add
  module _ (e : o.kind ≡ 3) where
    pub over_said : carried d s o ≡ (calls.added d s.board o.name (held_for o.weight)).answer
    unfolding plain.carried
    over_said = rw (on_over o e) refl

    over_board : plain.carried_board d s.board (board_order o) ≡ calls.added_board d s.board o.name (held_for o.weight)
    unfolding plain.carried_board
    over_board = rw (on_over o e) refl

    over_rates : carried_rates d s o ≡ rates_after d s.board o.name o.weight s.rates
    unfolding carried_rates
    over_rates = rw e refl

    over_owed : (E : List ℕ) → carried_owed d s.board o E ≡ E
    unfolding carried_owed
    over_owed E = rw e refl

    pub over_state : carried_state d s o ≡ lent (calls.added_board d s.board o.name (held_for o.weight)) (rates_after d s.board o.name o.weight s.rates) s.owed s.other
    over_state = same_lent over_board over_rates (over_owed s.owed) (over_owed s.other)

  -- any other
  module _ (m : o.kind ≡ 2 → ⊥) (n : o.kind ≡ 3 → ⊥) where
    pub plain_said : carried d s o ≡ plain.carried d s.board o
    plain_said = rw (on_plain o n) refl

    plain_rates : carried_rates d s o ≡ s.rates
    unfolding carried_rates
    plain_rates = rw (ne_eqb o.kind 2 m, ne_eqb o.kind 3 n) refl

    plain_owed : (E : List ℕ) → carried_owed d s.board o E ≡ E
    unfolding carried_owed
    plain_owed E = rw (ne_eqb o.kind 2 m) refl

    pub plain_state : carried_state d s o ≡ lent (plain.carried_board d s.board o) s.rates s.owed s.other
    plain_state = same_lent (ap (λ (q : Order). plain.carried_board d s.board q) (on_plain o n)) plain_rates (plain_owed s.owed) (plain_owed s.other)

-- ---- lengths

after_length : (d : Drive) (B : List ℕ) (x : ℕ) (T : List ℕ) → length (table_after d B x T) ≡ length T
unfolding table_after
after_length d B x T = either_length (remove_check d B x) (settled_table d.capacity B (tidying.removed d.capacity B x) T) T
    (settled_length d.capacity B (tidying.removed d.capacity B x) T)

rates_length : (d : Drive) (B : List ℕ) (x r : ℕ) (T : List ℕ) → length (rates_after d B x r T) ≡ length T
unfolding rates_after
rates_length d B x r T =
    either_length (add_check d B x (held_for r)) (rated_table d.capacity (placed d.capacity B x (held_for r)) T x r) T
    (rated_length d.capacity (placed d.capacity B x (held_for r)) T x r)

module _ (d : Drive) (s : BoardTables) (o : Order) where
  pub carried_rates_length : length (carried_rates d s o) ≡ length s.rates
  unfolding carried_rates
  carried_rates_length = by_bool (eqb o.kind 2)
      (λ t. rw t (after_length d s.board o.name s.rates))
      (λ f. by_bool (eqb o.kind 3)
      (λ t. rw (f, t) (rates_length d s.board o.name o.weight s.rates))
      (λ g. rw (f, g) refl))

  pub carried_owed_length : (E : List ℕ) → length (carried_owed d s.board o E) ≡ length E
  unfolding carried_owed
  carried_owed_length E = by_bool (eqb o.kind 2) (λ t. rw t (after_length d s.board o.name E)) (λ f. rw f refl)

-- ---- the tables go on fitting the board

module _ (d : Drive) (s : BoardTables) (long : d.capacity ≤ length s.rates) (fit : fitting d.capacity s ≡ true) where
  abbrev C : ℕ
  C = d.capacity

  abbrev Es : List (List ℕ)
  Es = s.owed ∷ s.other ∷ []

  remove_fits : (x : ℕ) → fitting d.capacity (lent (calls.removed_board d s.board x) (table_after d s.board x s.rates) (table_after d s.board x s.owed) (table_after d s.board x s.other)) ≡ true
  unfolding table_after
  remove_fits x = go (remove_check d s.board x) refl
    where
      go : (k : Check) → remove_check d s.board x ≡ k
          → fitting d.capacity (lent (calls.removed_board d s.board x) (if_clear (remove_check d s.board x) (settled_table d.capacity s.board (tidying.removed d.capacity s.board x) s.rates) s.rates) (if_clear (remove_check d s.board x) (settled_table d.capacity s.board (tidying.removed d.capacity s.board x) s.owed) s.owed) (if_clear (remove_check d s.board x) (settled_table d.capacity s.board (tidying.removed d.capacity s.board x) s.other) s.other)) ≡ true
      go (Ok tt) e = rw e (removed_fits d.capacity s.board s.rates (s.owed ∷ s.other ∷ []) fit long x (remove_clear d s.board x e))
      go (Err r) e = rw e fit

  add_fits : (x w : ℕ) → fitting d.capacity (lent (calls.added_board d s.board x w) s.rates s.owed s.other) ≡ true
  add_fits x w = go (add_check d s.board x w) refl
    where
      go : (k : Check) → add_check d s.board x w ≡ k → fitting d.capacity (lent (calls.added_board d s.board x w) s.rates s.owed s.other) ≡ true
      go (Ok tt) e = rw e (placed_fits d.capacity s.board s.rates (s.owed ∷ s.other ∷ []) fit x w (add_clear d s.board x w e))
      go (Err r) e = rw e fit

  add_over_fits : (x r : ℕ) → fitting d.capacity (lent (calls.added_board d s.board x (held_for r)) (rates_after d s.board x r s.rates) s.owed s.other) ≡ true
  unfolding rates_after
  add_over_fits x r = go (add_check d s.board x (held_for r)) refl
    where
      go : (k : Check) → add_check d s.board x (held_for r) ≡ k
          → fitting d.capacity (lent (calls.added_board d s.board x (held_for r)) (if_clear (add_check d s.board x (held_for r)) (rated_table d.capacity (placed d.capacity s.board x (held_for r)) s.rates x r) s.rates) s.owed s.other) ≡ true
      go (Ok tt) e =
          rw e (over_fits d.capacity s.board s.rates (s.owed ∷ s.other ∷ []) fit x r (add_clear d s.board x (held_for r) e) (add_weight d s.board x (held_for r) e) long)
      go (Err q) e = rw e fit

  plain_fits : (o : Order) → (o.kind ≡ 2 → ⊥) → fitting d.capacity (lent (plain.carried_board d s.board o) s.rates s.owed s.other) ≡ true
  unfolding plain.carried_board
  plain_fits o m = by_bool (eqb o.kind 1)
      (λ t. rw t (add_fits o.name o.weight))
      (λ f. rw (f, ne_eqb o.kind 2 m) fit)

  pub carried_fits : (o : Order) → fitting d.capacity (carried_state d s o) ≡ true
  carried_fits o = elim (ℕ_discrete o.kind 2) [
    | yes e ↦ ap (fitting d.capacity) (remove_state d s o e) ∙ remove_fits o.name
    | no m ↦ elim (ℕ_discrete o.kind 3) [
      | yes e ↦ ap (fitting d.capacity) (over_state d s o e) ∙ add_over_fits o.name o.weight
      | no n ↦ ap (fitting d.capacity) (plain_state d s o m n) ∙ plain_fits o m
    ]
  ]

-- slot's own checks see no more of the board than its length
-- What a record is ready for, it is ready for after any order, and after orders one after the other.
pub carried_ready : (d : Drive) (s : BoardTables) (o : Order) → Ready d s → Ready d (carried_state d s o)
carried_ready d s o is = record {
  clear = slot_long d s.board (plain.carried_board d s.board (board_order o)) (carried_length d s.board (board_order o)) is.clear;
  rates = omega (arith, carried_rates_length d s o, is.rates);
  owed = omega (arith, carried_owed_length d s o s.owed, is.owed);
  other = omega (arith, carried_owed_length d s o s.other, is.other);
  fit = carried_fits d s is.rates is.fit o;
}

pub all_ready : (d : Drive) (s : BoardTables) (os : List Order) → Ready d s → Ready d (carried_all (doing d) s os)
unfolding carried_all
all_ready d s [] is = is
all_ready d s (o ∷ os) is = all_ready d (carried_state d s o) os (carried_ready d s o is)

-- ---- what the code does: R is asked for as at most 65,535

later : (a b : Bool) → (a || b) ≡ false → b ≡ false
later true b e = let z : ◌≡◌ {A = ℕ} 0 1 = cc in absurd (omega arith)
later false b e = e

module _ (d : Drive) (B : List ℕ) (x : ℕ) where
  -- weights that no board has room for
  huge_same : (w v : ℕ) → 4095 < w → 4095 < v → add_check d B x w ≡ add_check d B x v
  unfolding add_check first_of applies
  huge_same w v p q = by_bool (eqb d.capacity 0 || ltb 4095 d.capacity)
      (λ t. rw t refl)
      (λ f.
      let few = ltb-false 4095 d.capacity (later (eqb d.capacity 0) (ltb 4095 d.capacity) f) in
      let some = weight_le d.capacity B 0 in
      rw (ne_eqb w 0 (λ e. omega arith), ne_eqb v 0 (λ e. omega arith), lt-ltb (weight d.capacity B 0) w (omega arith), lt-ltb (weight d.capacity B 0) v (omega arith)) refl)

  asked_check : (h n : ℕ) → n ≡ min h 65535 → add_check d B x n ≡ add_check d B x h
  asked_check h n is = elim (dec_lt 65535 h) [
    | yes l ↦ huge_same n h (omega arith) (omega arith)
    | no l ↦ let z : n ≡ h = omega arith in ap (λ (w : ℕ). add_check d B x w) z
  ]

  asked_same : (h n : ℕ) → n ≡ min h 65535 → add_check d B x h ≡ Ok tt → n ≡ h
  asked_same h n is e =
      let p = add_clear d B x h e in
      let few = p.small in
      let room = p.room in
      omega (arith, weight_le d.capacity B 0)

  -- the plain add of n leaves is that of R
  pub added_same : (h n : ℕ) → n ≡ min h 65535 → ((calls.added d B x n).answer ≡ (calls.added d B x h).answer) × (calls.added_board d B x n ≡ calls.added_board d B x h)
  added_same h n is = go (add_check d B x h) refl
    where
      go : (k : Check) → add_check d B x h ≡ k → ((calls.added d B x n).answer ≡ (calls.added d B x h).answer) × (calls.added_board d B x n ≡ calls.added_board d B x h)
      go (Ok tt) e = let z = asked_same h n is e in (ap (λ (w : ℕ). (calls.added d B x w).answer) z, ap (λ (w : ℕ). calls.added_board d B x w) z)
      go (Err r) e = let f = asked_check h n is ∙ e in (rw (e, f) refl, rw (e, f) refl)

-- ---- what an answer tells of the checks

admitted_done : (k : Check) (left idle n : ℕ) → admitted_by k left idle ≡ Ok n → k ≡ Ok tt
admitted_done (Ok tt) left idle n e = refl
admitted_done (Err r) left idle n e = by_bool (eqb (number_of r) 10)
    (λ t. let f = rw t at e in let z : ◌≡◌ {A = ℕ} 0 1 = cc in absurd (omega arith))
    (λ t. let f = rw t at e in let z : ◌≡◌ {A = ℕ} 0 1 = cc in absurd (omega arith))

changed_done : (k : Check) (idle n : ℕ) → change_by k idle ≡ Ok n → k ≡ Ok tt
changed_done (Ok tt) idle n e = refl
changed_done (Err r) idle n e = let z : ◌≡◌ {A = ℕ} 0 1 = cc in absurd (omega arith)

-- an error is that of a refusal
admitted_not : (k : Check) (left idle : ℕ) (u : Unchanged) → admitted_by k left idle ≡ Err u → (r : Refusal) × (k ≡ Err r)
admitted_not (Ok tt) left idle u e = let z : ◌≡◌ {A = ℕ} 0 1 = cc in absurd (omega arith)
admitted_not (Err r) left idle u e = (r, refl)

changed_not : (k : Check) (idle : ℕ) (u : Unchanged) → change_by k idle ≡ Err u → (r : Refusal) × (k ≡ Err r)
changed_not (Ok tt) idle u e = let z : ◌≡◌ {A = ℕ} 0 1 = cc in absurd (omega arith)
changed_not (Err r) idle u e = (r, refl)

-- ---- an over-allocated add, y being what the plain add of n leaves returns and D the board it leaves

module _ (d : Drive) (B T : List ℕ) (x r n : ℕ) (is : n ≡ min (held_for r) 65535) (y : Changed) (D : List ℕ) (p : promised.Adds d B x n y D) where
  asked : y.answer ≡ (calls.added d B x (held_for r)).answer
  asked = ap (λ (z : Changed). z.answer) p.0 ∙ (added_same d B x (held_for r) n is).0

  left : D ≡ calls.added_board d B x (held_for r)
  left = p.2 ∙ (added_same d B x (held_for r) n is).1

  pub over_not : (u : Unchanged) → y.answer ≡ Err u
      → (Err u ≡ (calls.added d B x (held_for r)).answer) × (D ≡ calls.added_board d B x (held_for r)) × (T ≡ rates_after d B x r T)
  unfolding rates_after
  over_not u e =
      let f = admitted_not (add_check d B x (held_for r)) (calls.added_idle d B x (held_for r)) (weight d.capacity B 0) u (sym asked ∙ e) in
      (sym e ∙ asked, left, rw f.1 refl)

  module _ (m : ℕ) (e : y.answer ≡ Ok m) where
    clear : add_check d B x (held_for r) ≡ Ok tt
    clear = admitted_done (add_check d B x (held_for r)) (calls.added_idle d B x (held_for r)) (weight d.capacity B 0) m (sym asked ∙ e)

    there : D ≡ placed d.capacity B x (held_for r)
    there = left ∙ rw clear refl

    -- r may be entered
    pub over_held : 0 < weight d.capacity D x
    over_held = rw there (omega (arith, placed_weight d.capacity B x (held_for r) (add_clear d B x (held_for r) clear), add_weight d B x (held_for r) clear))

    pub over_done : (U : List ℕ) → U ≡ rated_table d.capacity D T x r
        → ((Ok m) ≡ (calls.added d B x (held_for r)).answer) × (D ≡ calls.added_board d B x (held_for r)) × (U ≡ rates_after d B x r T)
    unfolding rates_after
    over_done U u = (sym e ∙ asked, left, u ∙ rw (there, clear) refl)

-- ---- a remove, M being the board remembered

module _ (d : Drive) (B T E F : List ℕ) (x : ℕ) (y : Changed) (D : List ℕ) (p : promised.Removes d B x y D) where
  told : y.answer ≡ (calls.removed d B x).answer
  told = ap (λ (z : Changed). z.answer) p.0

  pub remove_not : (u : Unchanged) → y.answer ≡ Err u
      → (Err u ≡ (calls.removed d B x).answer) × (D ≡ calls.removed_board d B x) × (T ≡ table_after d B x T) × (E ≡ table_after d B x E) × (F ≡ table_after d B x F)
  unfolding table_after
  remove_not u e =
      let f = changed_not (remove_check d B x) (calls.removed_idle d B x) u (sym told ∙ e) in
      (sym e ∙ told, p.2, rw f.1 refl, rw f.1 refl, rw f.1 refl)

  module _ (m : ℕ) (e : y.answer ≡ Ok m) (M : List ℕ) (alike : Alike d.capacity B M) where
    gone : remove_check d B x ≡ Ok tt
    gone = changed_done (remove_check d B x) (calls.removed_idle d B x) m (sym told ∙ e)

    tidied : D ≡ tidying.removed d.capacity B x
    tidied = p.2 ∙ rw gone refl

    settles : (S U : List ℕ) → U ≡ settled_table d.capacity M D S → U ≡ table_after d B x S
    unfolding table_after
    settles S U u = rw gone (settled_told d.capacity B M (tidying.removed d.capacity B x) D S U alike tidied u)

    pub remove_done : (T' E' F' : List ℕ) → T' ≡ settled_table d.capacity M D T → E' ≡ settled_table d.capacity M D E → F' ≡ settled_table d.capacity M D F
        → ((Ok m) ≡ (calls.removed d B x).answer) × (D ≡ calls.removed_board d B x) × (T' ≡ table_after d B x T) × (E' ≡ table_after d B x E) × (F' ≡ table_after d B x F)
    remove_done T' E' F' t f g = (sym e ∙ told, p.2, settles T T' t, settles E E' f, settles F F' g)
