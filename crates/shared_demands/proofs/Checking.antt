-- The first checks of the calls with tables: what is known once they find nothing, and that they find nothing where that is so; and when a change is made at once.
-- Assumes nothing.
use mathlib.Core.Path.{◌≡◌, refl}
use mathlib.Core.Bool.{true}
use mathlib.Core.List.{List}
use Prim.Native.Nat.{ℕ, max, ◌≤◌}
use native.Mathlib.Omega.{arith}
use lib.Dec.{ltb}
use lib.ListN.{length}
use borrow.Author.Tests.{le-ltb}
use Rattle.calls.specs.declared.Drive.{Drive}
use Rattle.calls.specs.declared.Refusal.{Refusal}
use Rattle.calls.specs.Types.{Check}
use Rattle.std.specs.Prelude.{Ok, Err}
use Rattle.calls.specs.Refusals.{slot_check}
use Rattle.waiting.specs.declared.Order.{Order}
use Rattle.waiting.specs.Layout.{too_short, orders_in}
use Rattle.orders.specs.declared.Moment.TheVariants as moment
use Rattle.orders.specs.Checks.{order_check}
use Rattle.drives.specs.Checks.{both_start}
use Rattle.drives.proofs.Laws.{clear_pair, way_now}
use Rattle.shares.specs.States.{BoardTables, fitting}
use Rattle.shares.specs.Checks.{too_few, share_check, list_check, way_of}
use Rattle.shares.proofs.Laws.{share_paired, share_ready, list_long}

-- Each record passes slot's checks, they have one capacity, nothing that is lent is too short, and the tables fit the board.
pub record Lent (a b : Drive) (s : BoardTables) (n : ℕ) : Type 0 where
  pub own : slot_check a s.board ≡ Ok tt
  pub other : slot_check b s.board ≡ Ok tt
  pub same : a.capacity ≡ b.capacity
  pub long : 259 ≤ n
  pub rates : a.capacity ≤ length s.rates
  pub owed : a.capacity ≤ length s.owed
  pub others : a.capacity ≤ length s.other
  pub fit : fitting a.capacity s ≡ true

module _ (a b : Drive) (s : BoardTables) (n : ℕ) where
  pub share_lent : list_check a b s n ≡ Ok tt → Lent a b s n
  share_lent e =
      let p = share_paired a b s (too_short n) e in
      let r = share_ready a b s (too_short n) e in
      record {
        own = p.own;
        other = p.other;
        same = p.same;
        long = list_long a b s n e;
        rates = r.rates;
        owed = r.owed;
        others = r.other;
        fit = r.fit;
      }

  pub lent_share : Lent a b s n → list_check a b s n ≡ Ok tt
  unfolding share_check too_few
  lent_share l =
      let same = l.same in
      let x = l.rates in
      let y = l.owed in
      let z = l.others in
      rw (
        le-ltb n 259 l.long,
        le-ltb (length s.rates) (max a.capacity b.capacity) (omega arith),
        le-ltb (length s.owed) (max a.capacity b.capacity) (omega arith),
        le-ltb (length s.other) (max a.capacity b.capacity) (omega arith),
        clear_pair a b s.board l.own l.other l.same,
        l.fit,
      ) refl

-- A change is made at once only where the first checks find nothing and both drives are at the start of a round.
pub now_both : (a b : Drive) (s : BoardTables) (L : List ℕ) (o : Order) → way_of a b s L o ≡ Ok moment.Now → (list_check a b s (length L) ≡ Ok tt) × (both_start a b ≡ true)
unfolding way_of
now_both a b s L o e =
    let w = way_now (list_check a b s (length L)) (both_start a b) (ltb 0 (orders_in L)) (order_check a.capacity s.board o) e in
    (w.0, w.1)

-- By what a check finds.
pub by_check : {P : Type 0} (k : Check) → (k ≡ Ok tt → P) → ((r : Refusal) → k ≡ Err r → P) → P
by_check (Ok tt) f g = f refl
by_check (Err r) f g = g r refl
