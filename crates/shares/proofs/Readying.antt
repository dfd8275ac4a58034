-- The checks of a call with tables: what the code finds part by part, and what is known once they find nothing. Assumes nothing.
use mathlib.Core.Path.{◌≡◌, refl, sym, ap, subst, ◌∙◌}
use mathlib.Core.Bool.{Bool, true, false, not, ◌||◌}
use mathlib.Core.List.{List, [], ◌∷◌}
use Prim.Native.Nat.{ℕ, max, ◌≤◌}
use native.Mathlib.Omega.{arith}
use lib.Dec.{ltb}
use lib.ListN.{length}
use borrow.Author.Tests.{ltb-false, eq-eqb, not-false}
use Rattle.general.proofs.Laws.{neither}
use Rattle.pieces.specs.Board.{good}
use Rattle.tables.proofs.Laws.{fits_parts}
use Rattle.calls.specs.declared.Drive.{Drive}
use Rattle.calls.specs.declared.Refusal.{Refusal}
use Rattle.calls.specs.declared.Refusal.TheVariants.{Midround, Damaged}
use Rattle.calls.specs.Types.{Check}
use Rattle.std.specs.Prelude.{Ok, Err}
use Rattle.calls.specs.Refusals.{refuse_if, good_check, change_check}
use Rattle.calls.proofs.Laws.{first_clear, then_clear, slot_sized, change_parts, refuse_clear}
use Rattle.waiting.specs.declared.Order.{Order}
use Rattle.waiting.specs.Layout.{too_short, orders_in}
use Rattle.orders.specs.Checks.{words_check, order_check, waits_if, way_by}
use Rattle.orders.specs.Types.{Way}
use Rattle.orders.specs.declared.Moment.TheVariants as moment
use Rattle.orders.proofs.Laws.{way_wait}
use Rattle.drives.specs.Checks.{pair_check, both_start}
use Rattle.drives.proofs.Laws.{Paired, pair_clear, start_both, way_now}
use Rattle.shares.specs.States.{BoardTables, fitting}
use Rattle.shares.specs.Checks.{too_few, fit_check, placed_check, share_check, list_check, way_of, Ready}

-- ---- no table is too short

pub few_long : (C : ℕ) (s : BoardTables) → too_few C s ≡ false → (C ≤ length s.rates) × (C ≤ length s.owed) × (C ≤ length s.other)
unfolding too_few
few_long C s e =
    let f = neither (ltb (length s.rates) C) (ltb (length s.owed) C || ltb (length s.other) C) e in
    let g = neither (ltb (length s.owed) C) (ltb (length s.other) C) f.1 in
    (ltb-false (length s.rates) C f.0, ltb-false (length s.owed) C g.0, ltb-false (length s.other) C g.1)

-- ---- 1 to 3: t says that something else is too short

module _ (a b : Drive) (s : BoardTables) (t : Bool) where
  abbrev short : Bool
  short = t || too_few (max a.capacity b.capacity) s

  -- what a test of 5 may rely on
  pub pair_lengths : pair_check a b s.board (t || too_few (max a.capacity b.capacity) s) ≡ Ok tt
      → (a.capacity ≤ length s.board) × (a.capacity ≤ length s.rates) × (a.capacity ≤ length s.owed) × (a.capacity ≤ length s.other) × (a.capacity ≤ 4095)
  pair_lengths e =
      let p = pair_clear a b s.board short e in
      let z = slot_sized a s.board p.own in
      let l = few_long (max a.capacity b.capacity) s (neither t (too_few (max a.capacity b.capacity) s) p.long).1 in
      (z.long, omega (arith, l.0), omega (arith, l.1), omega (arith, l.2), z.few)

  -- what the code finds, k being the check of both records by the larger capacity c
  module _ (c : ℕ) (l : Bool) (k : Check) (larger : c ≡ max a.capacity b.capacity)
      (lacks : l ≡ (t || (ltb (length s.rates) c || (ltb (length s.owed) c || ltb (length s.other) c)))) (is : k ≡ pair_check a b s.board l) where
    lacking : l ≡ (t || too_few (max a.capacity b.capacity) s)
    unfolding too_few
    lacking = lacks ∙ rw larger refl

    pair_is : k ≡ pair_check a b s.board (t || too_few (max a.capacity b.capacity) s)
    pair_is = is ∙ ap (λ (x : Bool). pair_check a b s.board x) lacking

    pub found_lengths : k ≡ Ok tt
        → (a.capacity ≤ length s.board) × (a.capacity ≤ length s.rates) × (a.capacity ≤ length s.owed) × (a.capacity ≤ length s.other) × (a.capacity ≤ 4095)
    found_lengths e = pair_lengths (sym pair_is ∙ e)

    pub found_refused : (there : Bool) (r : Refusal) → k ≡ Err r → Err r ≡ placed_check there a b s t
    unfolding placed_check
    found_refused there r e = rw (← pair_is, e) refl

    pub found_away : (there : Bool) → k ≡ Ok tt → there ≡ false → Err Midround ≡ placed_check there a b s t
    unfolding placed_check
    found_away there e f = rw (← pair_is, e, f) refl

    pub found_next : (there : Bool) (j : Check) → k ≡ Ok tt → there ≡ true → j ≡ fit_check a.capacity s → j ≡ placed_check there a b s t
    unfolding placed_check
    found_next there j e f h = rw (← pair_is, e, f) h

-- ---- what is known once nothing is found

module _ (there : Bool) (a b : Drive) (s : BoardTables) (t : Bool) (e : placed_check there a b s t ≡ Ok tt) where
  -- The drives are where the call is made, and one that is made anywhere finds nothing either.
  pub placed_there : there ≡ true
  unfolding placed_check
  placed_there =
      let rest = refuse_if (not there) Midround (fit_check a.capacity s) in
      let k = then_clear (pair_check a b s.board (t || too_few (max a.capacity b.capacity) s)) rest e in
      not-false there (refuse_clear (not there) Midround (fit_check a.capacity s) k).0

  pub placed_look : share_check a b s t ≡ Ok tt
  unfolding share_check
  placed_look = subst (λ (x : Bool). placed_check x a b s t ≡ Ok tt) placed_there e

module _ (a b : Drive) (s : BoardTables) (t : Bool) (e : share_check a b s t ≡ Ok tt) where
  share_pair : pair_check a b s.board (t || too_few (max a.capacity b.capacity) s) ≡ Ok tt
  unfolding share_check
  share_pair = first_clear (pair_check a b s.board (t || too_few (max a.capacity b.capacity) s)) (refuse_if (not (fitting a.capacity s)) Damaged (Ok tt)) e

  share_fit : fitting a.capacity s ≡ true
  unfolding share_check
  share_fit =
      let k = then_clear (pair_check a b s.board (t || too_few (max a.capacity b.capacity) s)) (refuse_if (not (fitting a.capacity s)) Damaged (Ok tt)) e in
      not-false (fitting a.capacity s) (refuse_clear (not (fitting a.capacity s)) Damaged (Ok tt) k).0

  -- Both records pass the checks of slot and have one C, and nothing else that is lent is too short;
  pub share_paired : Paired a b s.board (t || too_few (max a.capacity b.capacity) s)
  share_paired = pair_clear a b s.board (t || too_few (max a.capacity b.capacity) s) share_pair

  pub share_long : t ≡ false
  share_long = (neither t (too_few (max a.capacity b.capacity) s) share_paired.long).0

  -- the tables are long enough, and fit the board.
  pub share_ready : Ready a s
  share_ready =
      let l = pair_lengths a b s t share_pair in
      record { clear = share_paired.own; rates = l.1; owed = l.2; other = l.3; fit = share_fit }

pub list_long : (a b : Drive) (s : BoardTables) (n : ℕ) → list_check a b s n ≡ Ok tt → 259 ≤ n
list_long a b s n e = ltb-false n 259 (share_long a b s (too_short n) e)

-- A record that is ready and at the start of a round passes the checks 1 to 5 of a change.
pub ready_good : (d : Drive) (s : BoardTables) → Ready d s → good d.capacity s.board ≡ true
ready_good d s is = (fits_parts d.capacity s.board s.rates (s.owed ∷ s.other ∷ []) is.fit).0

pub ready_change : (d : Drive) (s : BoardTables) → Ready d s → d.position ≡ 1 → Ok tt ≡ change_check d s.board
unfolding good_check
ready_change d s is at = sym (change_parts d s.board ∙ rw (is.clear, eq-eqb d.position 1 at, ready_good d s is) refl)

-- ---- how a change is taken: the board was looked at by the first checks

pub way_words : (a b : Drive) (s : BoardTables) (L : List ℕ) (o : Order) → way_by (list_check a b s (length L)) (waits_if (both_start a b) L) (words_check o) ≡ way_of a b s L o
unfolding way_of order_check
way_words a b s L o = go (list_check a b s (length L)) refl
  where
    go : (k : Check) → list_check a b s (length L) ≡ k → way_by (list_check a b s (length L)) (waits_if (both_start a b) L) (words_check o)
        ≡ way_by (list_check a b s (length L)) (waits_if (both_start a b) L) (refuse_if (not (good a.capacity s.board)) Damaged (words_check o))
    go (Ok tt) e = rw (ready_good a s (share_ready a b s (too_short (length L)) e)) refl
    go (Err r) e = rw e refl

module _ (a b : Drive) (s : BoardTables) (L : List ℕ) (o : Order) where
  -- what the code finds
  pub way_found : (k : Check) (begins : Bool) (w : Way) → k ≡ list_check a b s (length L) → begins ≡ both_start a b
      → w ≡ way_by k (waits_if begins L) (words_check o) → w ≡ way_of a b s L o
  way_found k begins w e f g = g ∙ rw (e, f) (way_words a b s L o)

  -- What waits or is made at once has passed the first checks,
  pub way_clear : way_of a b s L o ≡ Ok moment.Later → list_check a b s (length L) ≡ Ok tt
  unfolding way_of
  way_clear e = way_wait (list_check a b s (length L)) (waits_if (both_start a b) L) (order_check a.capacity s.board o) e

  -- and what is made at once stands at the start of a round.
  pub now_ready : way_of a b s L o ≡ Ok moment.Now → Ready a s × (a.position ≡ 1)
  unfolding way_of
  now_ready e =
      let f = way_now (list_check a b s (length L)) (both_start a b) (ltb 0 (orders_in L)) (order_check a.capacity s.board o) e in
      (share_ready a b s (too_short (length L)) f.0, (start_both a b f.1).0)
