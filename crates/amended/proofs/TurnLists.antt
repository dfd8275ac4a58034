-- What the calls of two drives do to the list that they share: it stays in order, the tickets told to both count up together, and one order is followed from the
-- call that took it to the fetch of its answer, by either drive. Assumes nothing.
use mathlib.Core.Path.{◌≡◌, refl}
use mathlib.Core.Bool.{false}
use mathlib.Core.List.{List, [], ◌∷◌, ◌++◌}
use Prim.Native.Nat.{ℕ, ◌≤◌}
use native.Mathlib.Omega.{arith}
use lib.ListN.{length}
use Rattle.waiting.specs.declared.Order.{Order}
use Rattle.waiting.specs.Layout.{last_ticket, full}
use Rattle.waiting.specs.Meaning.{InOrder}
use Rattle.orders.specs.declared.Moment.TheVariants as moment
use Rattle.std.specs.Prelude.{Ok}
use Rattle.orders.specs.Results.{add_order, remove_order}
use Rattle.drives.specs.Checks.{both_start}
use Rattle.drives.specs.Results.{list_then}
use Rattle.amended.specs.Histories.{along}
use Rattle.amended.specs.Deeds.{Deed, Opens, Reads, Adds, Removes, Slots, Rounds, Reports, Saves, Fetches, Refreshes, CountUp}
use Rattle.amended.specs.Fates.{Fate, told_of}
use Rattle.amended.specs.Turns.{Pair, exchanged, seen, first_checks, way_at, answers_own, list_after, leaves_own, Turn, Own, Other, answers, leaves, leaves_all, ticket_own, ticket_told, tickets_told}
use Rattle.amended.specs.Sharing.{fate_own, fate_next, fate_through}
use Rattle.amended.proofs.Listing as one
use Rattle.amended.proofs.Listing.{order_in_order, check_in_order, if_in_order, add_other, remove_other, way_count, check_count, if_last, way_thirteen, Follows, still, order_follows, slot_follows, told}
use Rattle.amended.proofs.Projecting as projecting
use Rattle.amended.proofs.Sharing.{list_length}
use Rattle.amended.proofs.TurnAnswers.{add_taken, remove_taken}

-- the list once it has run, if it runs
abbrev ran_list_of : Pair → List ℕ
ran_list_of s = list_then s.own s.other s.board s.list

-- ---- the list stays in order

own_in_order : (a : Deed) (s : Pair) → InOrder s.list → InOrder (list_after a s)
unfolding list_then
own_in_order (Opens C) s is = one.in_order_next (Opens C) (seen s) is
own_in_order (Reads form S) s is = one.in_order_next (Reads form S) (seen s) is
own_in_order (Adds x w) s is = order_in_order s.list (add_order x w) (way_at (add_order x w) s) is
own_in_order (Removes x) s is = order_in_order s.list (remove_order x) (way_at (remove_order x) s) is
own_in_order Slots s is = check_in_order (first_checks s) (ran_list_of s) s.list (if_in_order (both_start s.own s.other) s.own s.board s.list is) is
own_in_order (Rounds O) s is = is
own_in_order (Reports x) s is = is
own_in_order (Saves form O) s is = is
own_in_order Refreshes s is = is
own_in_order (Fetches t) s is = one.in_order_next (Fetches t) (seen s) is

in_order_next : (t : Turn) (s : Pair) → InOrder s.list → InOrder (leaves t s).list
in_order_next (Own a) s is = own_in_order a s is
in_order_next (Other a) s is = own_in_order a (exchanged s) is

pub in_order : (s : Pair) → InOrder s.list → (turns : List Turn) → InOrder (leaves_all s turns).list
in_order s is turns = projecting.always leaves (λ u. InOrder u.list) in_order_next s is turns

-- ---- tickets

own_count : (a : Deed) (s : Pair) (ts : List ℕ) → 259 ≤ length s.list → CountUp (last_ticket (list_after a s)) ts → CountUp (last_ticket s.list) (ticket_own a s ++ ts)
unfolding list_then
own_count (Opens C) s ts l c = one.count_next (Opens C) (seen s) ts l c
own_count (Reads form S) s ts l c = one.count_next (Reads form S) (seen s) ts l c
own_count (Adds x w) s ts l c =
    let k = way_at (add_order x w) s in
    way_count (answers_own (Adds x w) s) s.list (add_order x w) k l (add_other (seen s) x w k (add_taken s x w)) (λ e. rw e refl) ts c
own_count (Removes x) s ts l c =
    let k = way_at (remove_order x) s in
    way_count (answers_own (Removes x) s) s.list (remove_order x) k l (remove_other (seen s) x k (remove_taken s x)) (λ e. rw e refl) ts c
own_count Slots s ts l c = check_count (first_checks s) (ran_list_of s) s.list ts (if_last (both_start s.own s.other) s.own s.board s.list l) c
own_count (Rounds O) s ts l c = c
own_count (Reports x) s ts l c = c
own_count (Saves form O) s ts l c = c
own_count Refreshes s ts l c = c
own_count (Fetches t) s ts l c = one.count_next (Fetches t) (seen s) ts l c

count_next : (t : Turn) (s : Pair) (ts : List ℕ) → 259 ≤ length s.list → CountUp (last_ticket (leaves t s).list) ts → CountUp (last_ticket s.list) (ticket_told t s ++ ts)
count_next (Own a) s = own_count a s
count_next (Other a) s = own_count a (exchanged s)

length_next : (t : Turn) (s : Pair) → length (leaves t s).list ≡ length s.list
length_next (Own a) s = list_length a s
length_next (Other a) s = list_length a (exchanged s)

-- The tickets that the calls of both drives tell count up from the list's last.
pub count_up : (s : Pair) (turns : List Turn) → 259 ≤ length s.list → CountUp (last_ticket s.list) (tickets_told s turns)
unfolding along CountUp
count_up s [] l = tt
count_up s (t ∷ rest) l = count_next t s (tickets_told (leaves t s) rest) l (count_up (leaves t s) rest (let n = length_next t s in omega arith))

-- ---- one order

module _ (t : ℕ) (o : Order) (ahead : List Order) where
  own_follows : (ψ : Fate) (a : Deed) (s : Pair) → Follows t o ahead ψ (seen s) → Follows t o ahead (fate_own t o ahead ψ a s) (seen (leaves_own a s))
  unfolding list_then
  own_follows ψ (Opens C) s f = one.follows_next t o ahead ψ (Opens C) (seen s) f
  own_follows ψ (Reads form S) s f = one.follows_next t o ahead ψ (Reads form S) (seen s) f
  own_follows ψ (Adds x w) s f = order_follows t o ahead ψ (seen s) (seen (leaves_own (Adds x w) s)) (add_order x w) (way_at (add_order x w) s) refl f
  own_follows ψ (Removes x) s f = order_follows t o ahead ψ (seen s) (seen (leaves_own (Removes x) s)) (remove_order x) (way_at (remove_order x) s) refl f
  own_follows ψ Slots s f = slot_follows t o ahead ψ (seen s) (seen (leaves_own Slots s)) (first_checks s) (both_start s.own s.other) refl f
  own_follows ψ (Rounds O) s f = f
  own_follows ψ (Reports x) s f = f
  own_follows ψ (Saves form O) s f = f
  own_follows ψ Refreshes s f = still t o ahead ψ (seen s) (seen (leaves_own Refreshes s)) refl f
  own_follows ψ (Fetches u) s f = one.follows_next t o ahead ψ (Fetches u) (seen s) f

  follows_next : (ψ : Fate) (u : Turn) (s : Pair) → Follows t o ahead ψ (seen s) → Follows t o ahead (fate_next t o ahead ψ u s) (seen (leaves u s))
  follows_next ψ (Own a) s f = own_follows ψ a s f
  follows_next ψ (Other a) s f =
      still t o ahead (fate_own t o ahead ψ a (exchanged s)) (seen (leaves_own a (exchanged s))) (seen (leaves (Other a) s)) refl
      (own_follows ψ a (exchanged s) (still t o ahead ψ (seen s) (seen (exchanged s)) refl f))

  pub followed : (ψ : Fate) (s : Pair) → Follows t o ahead ψ (seen s) → (between : List Turn)
      → answers (Own (Fetches t)) (leaves_all s between) ≡ told_of t (fate_through t o ahead ψ s between)
  followed ψ s f between = told t o ahead (fate_through t o ahead ψ s between) (seen (leaves_all s between))
      (projecting.ever leaves (fate_next t o ahead) (λ φ u. Follows t o ahead φ (seen u)) follows_next ψ s f between)

-- a change that answers 13 is on the list
pub add_thirteen : (s : Pair) (x w : ℕ) → (answers_own (Adds x w) s).number ≡ 13 → (way_at (add_order x w) s ≡ Ok moment.Later) × (full s.list ≡ false)
add_thirteen s x w h =
    way_thirteen (answers_own (Adds x w) s) s.list (way_at (add_order x w) s) h (add_other (seen s) x w (way_at (add_order x w) s) (add_taken s x w)) (λ e. rw e refl)

pub remove_thirteen : (s : Pair) (x : ℕ) → (answers_own (Removes x) s).number ≡ 13 → (way_at (remove_order x) s ≡ Ok moment.Later) × (full s.list ≡ false)
remove_thirteen s x h =
    way_thirteen (answers_own (Removes x) s) s.list (way_at (remove_order x) s) h (remove_other (seen s) x (way_at (remove_order x) s) (remove_taken s x)) (λ e. rw e refl)
