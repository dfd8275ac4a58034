-- What calls do to the list: it stays in order, its tickets count up, and one order is followed from the call that took it to the fetch of its answer.
-- Assumes nothing.
use mathlib.Core.Path.{◌≡◌, refl, sym, ap, ◌∙◌}
use mathlib.Core.Bool.{Bool, true, false, cond, ◌&&◌}
use mathlib.Core.List.{List, [], ◌∷◌, ◌++◌}
use Prim.Native.Nat.{ℕ, suc, zero, ◌+◌, ◌≤◌, ◌<◌}
use native.Mathlib.Omega.{arith}
use lib.Dec.{eqb}
use lib.ListN.{length, get_or}
use borrow.Author.Tests.{eq-eqb}
use Rattle.general.proofs.Laws.{clash, by_bool}
use Rattle.calls.specs.declared.Drive.{Drive}
use Rattle.calls.specs.Types.{Check}
use Rattle.std.specs.Prelude.{Ok, Err}
use Rattle.calls.specs.Refusals.{number_of, is_clear, zero_or, add_check, remove_check}
use Rattle.calls.specs.Answers.{Answer, number_by}
use Rattle.calls.specs.Results.{if_clear}
use Rattle.calls.proofs.Laws.{other_number}
use Rattle.waiting.specs.declared.Order.{Order}
use Rattle.waiting.specs.declared.Outcome.{Outcome}
use Rattle.waiting.specs.Layout.{last_ticket, waiting, full, taken_list, answer_of, emptied}
use Rattle.waiting.specs.Carrying.{carried_all}
use Rattle.waiting.specs.Meaning.{InOrder, Fits}
use Rattle.waiting.specs.Fates as list
use Rattle.waiting.proofs.Laws.{take_last, run_last, fetch_last, empty_last, empty_in_order, take_in_order, run_in_order, fetch_in_order, Stands, stands_taken, stands_take, stands_run, stands_fetch, stands_empty, stands_told}
use Rattle.orders.specs.Types.{Way}
use Rattle.orders.specs.declared.Moment.TheVariants as moment
use Rattle.orders.specs.Answers.{fetching_answer}
use Rattle.orders.specs.Results.{add_order, remove_order, carried_answer, doing, saying, list_by, taken_answer, changed_answer_by, ran_list, list_if, list_then}
use Rattle.orders.proofs.Laws.{kept_says}
use Rattle.amended.specs.Histories.{along}
use Rattle.amended.specs.Carried.{in_turn}
use Rattle.amended.specs.Deeds.{Deed, Opens, Reads, Adds, Removes, Slots, Rounds, Reports, Saves, Fetches, Refreshes, Desk, open_checks, read_checks, first_checks, way_at, answers, leaves, leaves_all, list_after, ticket_in, ticket_told, tickets_told, CountUp}
use Rattle.amended.specs.Fates.{Fate, Waits, Answered, Gone, told_of, ran, handed_out, fate_next, fate_through}
use Rattle.amended.proofs.Carrying.{turn_says}
use Rattle.amended.proofs.Sounding.{list_length}
use Rattle.amended.proofs.Answering.{TakenBy, firsts, remove_firsts, add_taken, remove_taken, add_within, remove_within}
use Rattle.amended.proofs.Projecting as projecting

-- ---- the list stays in order

pub order_in_order : (L : List ℕ) (o : Order) (k : Way) → InOrder L → InOrder (list_by k (taken_list L o) L)
order_in_order L o (Err r) is = is
order_in_order L o (Ok moment.Later) is = take_in_order L is o
order_in_order L o (Ok moment.Now) is = is

pub check_in_order : (k : Check) (F L : List ℕ) → InOrder F → InOrder L → InOrder (if_clear k F L)
check_in_order (Ok tt) F L f l = f
check_in_order (Err r) F L f l = l

pub if_in_order : (begins : Bool) (d : Drive) (B L : List ℕ) → InOrder L → InOrder (list_if begins d B L)
unfolding ran_list
if_in_order true d B L is = run_in_order L is (doing d) (saying d) B
if_in_order false d B L is = is

pub in_order_next : (a : Deed) (s : Desk) → InOrder s.list → InOrder (list_after a s)
unfolding list_then
in_order_next (Opens C) s is = check_in_order (open_checks s C) (emptied s.list) s.list (empty_in_order s.list is.long) is
in_order_next (Reads form S) s is = check_in_order (read_checks s form S) (emptied s.list) s.list (empty_in_order s.list is.long) is
in_order_next (Adds x w) s is = order_in_order s.list (add_order x w) (way_at (add_order x w) s) is
in_order_next (Removes x) s is = order_in_order s.list (remove_order x) (way_at (remove_order x) s) is
in_order_next Slots s is = check_in_order (first_checks s) (list_then s.state.drive s.state.board s.list) s.list
    (if_in_order (eqb s.state.drive.position 1) s.state.drive s.state.board s.list is) is
in_order_next (Rounds O) s is = is
in_order_next (Reports x) s is = is
in_order_next (Saves form O) s is = is
in_order_next Refreshes s is = is
in_order_next (Fetches t) s is = fetch_in_order s.list is t

pub in_order : (s : Desk) → InOrder s.list → (deeds : List Deed) → InOrder (leaves_all s deeds).list
in_order s is deeds = projecting.always leaves (λ t. InOrder t.list) in_order_next s is deeds

-- ---- tickets

-- 13 is answered by a change that waits, and finds a place, alone
not_thirteen : (ns : List ℕ) (n : ℕ) → zero_or n ns ≡ true → zero_or 13 ns ≡ false → eqb n 13 ≡ false
not_thirteen ns n m f = other_number ns n 13 m f

module _ (s : Desk) where
  abbrev d : Drive
  d = s.state.drive

  abbrev B : List ℕ
  B = s.state.board

  pub add_other : (x w : ℕ) (k : Way) → TakenBy firsts d k → (k ≡ Ok moment.Later → ⊥) → eqb (changed_answer_by k d B s.list (add_order x w)).number 13 ≡ false
  unfolding carried_answer zero_or
  add_other x w (Err r) t n = not_thirteen firsts (number_of r) (t.within r refl) refl
  add_other x w (Ok moment.Later) t n = absurd (n refl)
  add_other x w (Ok moment.Now) t n = not_thirteen (1 ∷ 2 ∷ 3 ∷ 5 ∷ 6 ∷ 7 ∷ 8 ∷ 10 ∷ []) (number_by (add_check d B x w)) (add_within d B x w (t.first refl)) refl

  pub remove_other : (x : ℕ) (k : Way) → TakenBy remove_firsts d k → (k ≡ Ok moment.Later → ⊥) → eqb (changed_answer_by k d B s.list (remove_order x)).number 13 ≡ false
  unfolding carried_answer zero_or
  remove_other x (Err r) t n = not_thirteen remove_firsts (number_of r) (t.within r refl) refl
  remove_other x (Ok moment.Later) t n = absurd (n refl)
  remove_other x (Ok moment.Now) t n = not_thirteen (1 ∷ 2 ∷ 3 ∷ 5 ∷ 6 ∷ 9 ∷ []) (number_by (remove_check d B x)) (remove_within d B x (t.first refl)) refl

-- what a change tells, and where the tickets then stand
pub way_count : (a : Answer) (L : List ℕ) (o : Order) (k : Way) → 259 ≤ length L
    → ((k ≡ Ok moment.Later → ⊥) → eqb a.number 13 ≡ false) → (k ≡ Ok moment.Later → a ≡ taken_answer L)
    → (ts : List ℕ) → CountUp (last_ticket (list_by k (taken_list L o) L)) ts → CountUp (last_ticket L) (ticket_in a ++ ts)
unfolding CountUp
way_count a L o (Err r) l n m ts c = rw (n (λ e. cc)) c
way_count a L o (Ok moment.Now) l n m ts c = rw (n (λ e. cc)) c
way_count a L o (Ok moment.Later) l n m ts c = by_bool (full L)
    (λ f. rw (m refl, f) (rw f at c))
    (λ f.
    let t : last_ticket (taken_list L o) ≡ last_ticket L + 1 = take_last L l o ∙ rw f refl in
    rw (m refl, f) (refl, rw t at c))

pub check_count : (k : Check) (F L : List ℕ) (ts : List ℕ) → last_ticket F ≡ last_ticket L → CountUp (last_ticket (if_clear k F L)) ts → CountUp (last_ticket L) ts
check_count (Ok tt) F L ts e c = rw e at c
check_count (Err r) F L ts e c = c

pub if_last : (begins : Bool) (d : Drive) (B L : List ℕ) → 259 ≤ length L → last_ticket (list_if begins d B L) ≡ last_ticket L
unfolding ran_list
if_last true d B L l = run_last L l (doing d) (saying d) B
if_last false d B L l = refl

pub count_next : (a : Deed) (s : Desk) (ts : List ℕ) → 259 ≤ length s.list → CountUp (last_ticket (list_after a s)) ts → CountUp (last_ticket s.list) (ticket_told a s ++ ts)
unfolding list_then
count_next (Opens C) s ts l c = check_count (open_checks s C) (emptied s.list) s.list ts (empty_last s.list l) c
count_next (Reads form S) s ts l c = check_count (read_checks s form S) (emptied s.list) s.list ts (empty_last s.list l) c
count_next (Adds x w) s ts l c =
    let k = way_at (add_order x w) s in
    way_count (answers (Adds x w) s) s.list (add_order x w) k l (add_other s x w k (add_taken s x w)) (λ e. rw e refl) ts c
count_next (Removes x) s ts l c =
    let k = way_at (remove_order x) s in
    way_count (answers (Removes x) s) s.list (remove_order x) k l (remove_other s x k (remove_taken s x)) (λ e. rw e refl) ts c
count_next Slots s ts l c = check_count (first_checks s) (list_then s.state.drive s.state.board s.list) s.list ts
    (if_last (eqb s.state.drive.position 1) s.state.drive s.state.board s.list l) c
count_next (Rounds O) s ts l c = c
count_next (Reports x) s ts l c = c
count_next (Saves form O) s ts l c = c
count_next Refreshes s ts l c = c
count_next (Fetches t) s ts l c = rw (fetch_last s.list l t) at c

-- The tickets that calls tell count up from the list's last.
pub count_up : (s : Desk) (deeds : List Deed) → 259 ≤ length s.list → CountUp (last_ticket s.list) (tickets_told s deeds)
unfolding along CountUp
count_up s [] l = tt
count_up s (a ∷ rest) l = count_next a s (tickets_told (leaves a s) rest) l (count_up (leaves a s) rest (let n = list_length a s in omega arith))

-- Tickets that count up rise.
up_above : (n : ℕ) (ts : List ℕ) → CountUp n ts → (j : ℕ) → j < length ts → n < get_or ts j 0
unfolding CountUp
up_above n [] c j h = absurd (omega arith)
up_above n (t ∷ ts) c zero h = let e = c.0 in omega arith
up_above n (t ∷ ts) c (suc j) h = let e = c.0 in let m = up_above t ts c.1 j (omega arith) in omega arith

pub up_rising : (n : ℕ) (ts : List ℕ) → CountUp n ts → (i j : ℕ) → i < j → j < length ts → get_or ts i 0 < get_or ts j 0
unfolding CountUp
up_rising n [] c i j l h = absurd (omega arith)
up_rising n (t ∷ ts) c i zero l h = absurd (omega arith)
up_rising n (t ∷ ts) c zero (suc j) l h = up_above t ts c.1 j (omega arith)
up_rising n (t ∷ ts) c (suc i) (suc j) l h = up_rising t ts c.1 i j (omega arith) (omega arith)

-- ---- one order

-- a fate on the list, in numbers
in_numbers : list.Fate → Fate
in_numbers list.Waits = Waits
in_numbers (list.Answered r) = Answered (fetching_answer (answer_of r))
in_numbers list.Gone = Gone

-- the order stands on the list as its fate says
pub record Follows (t : ℕ) (o : Order) (ahead : List Order) (ψ : Fate) (s : Desk) : Type 0 where
  φ : list.Fate
  stands : Stands t o ahead φ s.list
  same : in_numbers φ ≡ ψ

module _ (t : ℕ) (o : Order) (ahead : List Order) where
  -- the list is as it was
  pub still : (ψ : Fate) (s u : Desk) → u.list ≡ s.list → Follows t o ahead ψ s → Follows t o ahead ψ u
  still ψ s u e f = record { φ = f.φ; stands = rw e f.stands; same = f.same }

  pub order_follows : (ψ : Fate) (s u : Desk) (p : Order) (k : Way) → u.list ≡ list_by k (taken_list s.list p) s.list → Follows t o ahead ψ s → Follows t o ahead ψ u
  order_follows ψ s u p (Err r) e f = still ψ s u e f
  order_follows ψ s u p (Ok moment.Later) e f = record { φ = f.φ; stands = rw e (stands_take t o ahead f.φ s.list f.stands p); same = f.same }
  order_follows ψ s u p (Ok moment.Now) e f = still ψ s u e f

  -- the list is emptied where the check finds nothing
  restart_follows : (ψ : Fate) (s u : Desk) (k : Check) → u.list ≡ if_clear k (emptied s.list) s.list → Follows t o ahead ψ s → Follows t o ahead (cond (is_clear k) Gone ψ) u
  unfolding in_numbers
  restart_follows ψ s u (Ok tt) e f = record { φ = list.Gone; stands = rw e (stands_empty t o ahead f.φ s.list f.stands); same = refl }
  restart_follows ψ s u (Err r) e f = still ψ s u e f

  -- a run answers the order in its turn
  ran_numbers : (r : Outcome) (φ : list.Fate) → in_numbers (list.ran r φ) ≡ ran (fetching_answer (answer_of r)) (in_numbers φ)
  unfolding in_numbers
  ran_numbers r list.Waits = refl
  ran_numbers r (list.Answered q) = refl
  ran_numbers r list.Gone = refl

  run_follows : (ψ : Fate) (s u : Desk) → u.list ≡ ran_list s.state.drive s.state.board s.list → Follows t o ahead ψ s
      → Follows t o ahead (ran (in_turn s.state ahead o) ψ) u
  unfolding ran_list
  run_follows ψ s u e f =
      let d = s.state.drive in
      let B = s.state.board in
      let r = saying d o (carried_all (doing d) B ahead) in
      let turn : fetching_answer (answer_of r) ≡ in_turn s.state ahead o = kept_says d (carried_all (doing d) B ahead) o ∙ sym (turn_says d B ahead o) in
      record {
        φ = list.ran r f.φ;
        stands = rw e (stands_run t o ahead f.φ s.list f.stands (doing d) (saying d) B);
        same = ran_numbers r f.φ ∙ rw (turn, f.same) refl;
      }

  pub slot_follows : (ψ : Fate) (s u : Desk) (k : Check) (begins : Bool) → u.list ≡ if_clear k (list_if begins s.state.drive s.state.board s.list) s.list
      → Follows t o ahead ψ s → Follows t o ahead (cond (is_clear k && begins) (ran (in_turn s.state ahead o) ψ) ψ) u
  slot_follows ψ s u (Err r) begins e f = still ψ s u e f
  slot_follows ψ s u (Ok tt) true e f = run_follows ψ s u e f
  slot_follows ψ s u (Ok tt) false e f = still ψ s u e f

  -- a fetch of its own ticket takes the answer
  handed_numbers : (φ : list.Fate) → in_numbers (list.handed_out φ) ≡ handed_out (in_numbers φ)
  unfolding in_numbers
  handed_numbers list.Waits = refl
  handed_numbers (list.Answered q) = refl
  handed_numbers list.Gone = refl

  fetch_follows : (ψ : Fate) (s : Desk) (u : ℕ) → Follows t o ahead ψ s → Follows t o ahead (cond (eqb u t) (handed_out ψ) ψ) (leaves (Fetches u) s)
  fetch_follows ψ s u f =
      let st = stands_fetch t o ahead f.φ s.list f.stands u in
      by_bool (eqb u t)
      (λ y. rw y (record { φ = list.handed_out f.φ; stands = rw y at st; same = handed_numbers f.φ ∙ ap handed_out f.same }))
      (λ y. rw y (record { φ = f.φ; stands = rw y at st; same = f.same }))

  pub follows_next : (ψ : Fate) (a : Deed) (s : Desk) → Follows t o ahead ψ s → Follows t o ahead (fate_next t o ahead ψ a s) (leaves a s)
  unfolding list_then
  follows_next ψ (Opens C) s f = restart_follows ψ s (leaves (Opens C) s) (open_checks s C) refl f
  follows_next ψ (Reads form S) s f = restart_follows ψ s (leaves (Reads form S) s) (read_checks s form S) refl f
  follows_next ψ (Adds x w) s f = order_follows ψ s (leaves (Adds x w) s) (add_order x w) (way_at (add_order x w) s) refl f
  follows_next ψ (Removes x) s f = order_follows ψ s (leaves (Removes x) s) (remove_order x) (way_at (remove_order x) s) refl f
  follows_next ψ Slots s f = slot_follows ψ s (leaves Slots s) (first_checks s) (eqb s.state.drive.position 1) refl f
  follows_next ψ (Rounds O) s f = still ψ s (leaves (Rounds O) s) refl f
  follows_next ψ (Reports x) s f = still ψ s (leaves (Reports x) s) refl f
  follows_next ψ (Saves form O) s f = still ψ s (leaves (Saves form O) s) refl f
  follows_next ψ Refreshes s f = still ψ s (leaves Refreshes s) refl f
  follows_next ψ (Fetches u) s f = fetch_follows ψ s u f

  -- what a fetch of its ticket says
  told_numbers : (φ : list.Fate) → fetching_answer (list.fetched_of t φ) ≡ told_of t (in_numbers φ)
  unfolding in_numbers
  told_numbers list.Waits = refl
  told_numbers (list.Answered q) = refl
  told_numbers list.Gone = refl

  pub told : (ψ : Fate) (s : Desk) → Follows t o ahead ψ s → answers (Fetches t) s ≡ told_of t ψ
  told ψ s f = ap fetching_answer (stands_told t o ahead f.φ s.list f.stands) ∙ told_numbers f.φ ∙ ap (told_of t) f.same

  pub followed : (ψ : Fate) (s : Desk) → Follows t o ahead ψ s → (between : List Deed)
      → answers (Fetches t) (leaves_all s between) ≡ told_of t (fate_through t o ahead ψ s between)
  followed ψ s f between =
      told (fate_through t o ahead ψ s between) (leaves_all s between) (projecting.ever leaves (fate_next t o ahead) (Follows t o ahead) follows_next ψ s f between)

-- an order that is taken waits
pub taken_follows : (s : Desk) (o : Order) (u : Desk) → InOrder s.list → Fits o → full s.list ≡ false → u.list ≡ taken_list s.list o
    → Follows (last_ticket s.list + 1) o (waiting s.list) Waits u
unfolding in_numbers
taken_follows s o u is fits free e = record { φ = list.Waits; stands = rw e (stands_taken s.list o is free fits); same = refl }

-- a change that answers 13 is on the list
pub way_thirteen : (a : Answer) (L : List ℕ) (k : Way) → a.number ≡ 13 → ((k ≡ Ok moment.Later → ⊥) → eqb a.number 13 ≡ false) → (k ≡ Ok moment.Later → a ≡ taken_answer L)
    → (k ≡ Ok moment.Later) × (full L ≡ false)
way_thirteen a L (Err r) h n m = clash (eq-eqb a.number 13 h) (n (λ e. cc))
way_thirteen a L (Ok moment.Now) h n m = clash (eq-eqb a.number 13 h) (n (λ e. cc))
way_thirteen a L (Ok moment.Later) h n m = (
  refl,
  by_bool (full L)
      (λ f. let e : (taken_answer L).number ≡ 13 = ap (λ (b : Answer). b.number) (sym (m refl)) ∙ h in let g = rw f at e in absurd (omega arith))
      (λ f. f),
)

pub add_thirteen : (s : Desk) (x w : ℕ) → (answers (Adds x w) s).number ≡ 13 → (way_at (add_order x w) s ≡ Ok moment.Later) × (full s.list ≡ false)
add_thirteen s x w h = way_thirteen (answers (Adds x w) s) s.list (way_at (add_order x w) s) h (add_other s x w (way_at (add_order x w) s) (add_taken s x w)) (λ e. rw e refl)

pub remove_thirteen : (s : Desk) (x : ℕ) → (answers (Removes x) s).number ≡ 13 → (way_at (remove_order x) s ≡ Ok moment.Later) × (full s.list ≡ false)
remove_thirteen s x h = way_thirteen (answers (Removes x) s) s.list (way_at (remove_order x) s) h (remove_other s x (way_at (remove_order x) s) (remove_taken s x)) (λ e. rw e refl)
