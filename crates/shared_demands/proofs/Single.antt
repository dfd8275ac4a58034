-- What a single drive sees, its record in both places, is what one of two drives sees that take their slots in step. Assumes nothing.
use mathlib.Core.Path.{◌≡◌, refl, sym, ap, ap₂, subst, ◌∙◌}
use mathlib.Core.Bool.{true, false}
use mathlib.Core.List.{List, [], ◌∷◌, ◌++◌}
use Prim.Native.Nat.{ℕ, ◌-◌, ◌≤◌}
use native.Mathlib.Omega.{arith}
use native.Mathlib.Decide.{dec_lt}
use lib.ListN.{length, get_or, set, length-set}
use lib.Seq.{get_or-set_same, get_or-set_other, set-get_or}
use borrow.Author.Tests.{lt-ltb, le-ltb, eq-eqb}
use Rattle.general.proofs.Laws.{by_bool}
use Rattle.pieces.specs.Board.{good}
use Rattle.calls.specs.declared.Drive.{Drive}
use Rattle.std.specs.Prelude.{Ok, Err}
use Rattle.calls.specs.Results.{moved_on}
use Rattle.tables.proofs.Laws.{fits_parts, fits_first, first_fits, fits_swap}
use Rattle.demands.specs.Histories as plainly
use Rattle.demands.proofs.Laws.{state_at, Valid, Sound, reached, moves, slot_clear}
use Rattle.waiting.specs.declared.Order.{Order}
use Rattle.waiting.specs.declared.Outcome.{Outcome}
use Rattle.waiting.specs.Layout.{least, answers_in, orders_in, places_in, waiting, counted, answered_from, settled, taken_list}
use Rattle.waiting.specs.Carrying.{carried_all, outcomes}
use Rattle.waiting.proofs.Laws.{run_length, none_waits, least_small}
use Rattle.orders.specs.Types.{Way}
use Rattle.orders.specs.declared.Moment.TheVariants as moment
use Rattle.orders.specs.Results.{list_by}
use Rattle.drives.specs.Checks.{both_start}
use Rattle.drives.proofs.Laws.{start_both}
use Rattle.shares.specs.States.{BoardTables}
use Rattle.shares.specs.Checks.{way_of}
use Rattle.shares.specs.Results.{carried_rates, carried_state, doing, saying, ran_state, ran_list, state_by, state_then, list_then, turn_state}
use Rattle.amended.specs.Deeds.{desk}
use Rattle.amended.specs.Holding as holding
use Rattle.amended.specs.Histories.{through, along}
use Rattle.amended.proofs.Laws as amended
use Rattle.shared_demands.specs.Turns.{Pair, exchanged, exchanged_state, shown, first_checks, way_at, Deed, Changes, Slots, Fetches, answers_own, name_own, given_own, Own, Other, leaves, leaves_all, due, if_now, stands_for, names_served, leaves_given}
use Rattle.shared_demands.specs.Singles.{One, twice, leaves_one, leaves_ones, names_one, given_one, both, in_step, turns_for}
use Rattle.shared_demands.proofs.Checking.{Lent, lent_share}
use Rattle.shared_demands.proofs.Turning.{ran_state', due_ran, way_state, projected_one}
use Rattle.shared_demands.proofs.Fitting.{Tabled, all_tabled, turn_tabled}
use Rattle.shared_demands.proofs.Standing.{list_length}

-- ---- a list on which nothing waits is left as it is by a run

idle_list : (L : List ℕ) → places_in L ≡ get_or L 1 0 → get_or L 2 0 ≡ 0 → settled L [] ≡ L
unfolding settled counted answered_from
idle_list L e z =
    let one : set L 1 (places_in L) ≡ L = ap (set L 1) e ∙ set-get_or L 1 0 in
    ap (λ (M : List ℕ). set M 2 0) one ∙ ap (set L 2) (sym z) ∙ set-get_or L 2 0

least_most : (m n : ℕ) → least m n ≤ n
unfolding least
least_most m n = elim (dec_lt m n) [
  | yes l ↦ rw (lt-ltb m n l) (omega arith)
  | no l ↦ rw (le-ltb m n (omega arith)) (omega arith)
]

run_again : (L : List ℕ) (rs : List Outcome) → 259 ≤ length L → settled (settled L rs) [] ≡ settled L rs
unfolding settled counted answers_in orders_in
run_again L rs long =
    let X = answered_from L (answers_in L) rs in
    let n = places_in L in
    let M = settled L rs in
    let most : n ≤ 64 = let a = least_most (get_or L 1 0) 64 in let w = least_most (get_or L 2 0) (64 - least (get_or L 1 0) 64) in omega arith in
    let wide : 259 ≤ length X = omega (arith, run_length L rs, length-set X 1 n, length-set (set X 1 n) 2 0) in
    let first : get_or M 1 0 ≡ n = get_or-set_other (set X 1 n) 2 1 0 0 (λ e. omega arith) ∙ get_or-set_same X 1 n 0 (omega arith) in
    let second : get_or M 2 0 ≡ 0 = get_or-set_same (set X 1 n) 2 0 0 (omega (arith, length-set X 1 n)) in
    let places : places_in M ≡ get_or M 1 0 = rw (first, second, least_small n 64 most, least_small 0 (64 - n) (omega arith)) (omega arith) in
    idle_list M places second

-- ---- the second table plays no part

carried_both : (d : Drive) (t : BoardTables) (o : Order) → carried_state d (both t) o ≡ both (carried_state d t o)
unfolding carried_rates
carried_both d t o = refl

all_both : (d : Drive) (t : BoardTables) (os : List Order) → carried_all (doing d) (both t) os ≡ both (carried_all (doing d) t os)
unfolding carried_all
all_both d t [] = refl
all_both d t (o ∷ os) = ap (λ (u : BoardTables). carried_all (doing d) u os) (carried_both d t o) ∙ all_both d (carried_state d t o) os

said_both : (d : Drive) (t : BoardTables) (os : List Order) → outcomes (doing d) (saying d) (both t) os ≡ outcomes (doing d) (saying d) t os
unfolding outcomes
said_both d t [] = refl
said_both d t (o ∷ os) =
    ap (λ (rs : List Outcome). saying d o t ∷ rs) (ap (λ (u : BoardTables). outcomes (doing d) (saying d) u os) (carried_both d t o) ∙ said_both d (carried_state d t o) os)

way_both : (d : Drive) (t : BoardTables) (o : Order) (k : Way) → state_by k (carried_state d (both t) o) (both t) ≡ both (state_by k (carried_state d t o) t)
way_both d t o (Err r) = refl
way_both d t o (Ok moment.Later) = refl
way_both d t o (Ok moment.Now) = carried_both d t o

-- ---- what a call is given passes the first checks, and goes on passing them

abbrev pub Fit : One → Type 0
Fit s = Lent s.drive s.drive s.state (length s.list)

tabled : (s : One) → Fit s → Tabled s.drive.capacity s.state
tabled s is = record { rates = is.rates; owed = is.owed; other = is.others; fit = is.fit }

both_tabled : (C : ℕ) (t : BoardTables) → Tabled C t → Tabled C (both t)
both_tabled C t is =
    let p = fits_first C t.board t.rates t.owed (t.other ∷ []) is.fit in
    let q = fits_first C t.board t.rates t.other [] p.1 in
    record {
      rates = is.rates;
      owed = is.owed;
      other = is.owed;
      fit = first_fits C t.board t.rates t.owed (t.owed ∷ []) p.0 (first_fits C t.board t.rates t.owed [] p.0 q.1);
    }

start_is : (d : Drive) → d.position ≡ 1 → both_start d d ≡ true
unfolding both_start
start_is d e = rw (eq-eqb d.position 1 e) refl

list_ran : (a b : Drive) (x : BoardTables) (L : List ℕ) → both_start a b ≡ true → waiting L ≡ [] → list_then a b x L ≡ settled L []
unfolding list_then ran_list outcomes
list_ran a b x L e n = rw (e, n) refl

list_not : (a b : Drive) (x : BoardTables) (L : List ℕ) → both_start a b ≡ false → list_then a b x L ≡ L
unfolding list_then
list_not a b x L e = rw e refl

state_same : (a b : Drive) (x : BoardTables) (L : List ℕ) → (both_start a b ≡ true → waiting L ≡ []) → state_then a b x L ≡ x
unfolding state_then ran_state carried_all
state_same a b x L n = by_bool (both_start a b) (λ e. rw (e, n e) refl) (λ e. rw e refl)

module _ (s : One) (is : Fit s) where
  abbrev d : Drive
  d = s.drive

  abbrev t : BoardTables
  t = s.state

  abbrev L : List ℕ
  L = s.list

  pub one_clear : first_checks (twice s) ≡ Ok tt
  one_clear = lent_share d d t (length L) is

  pub step_clear : first_checks (in_step s) ≡ Ok tt
  step_clear =
      let b = both_tabled d.capacity t (tabled s is) in
      lent_share d d (both t) (length L) (record { own = is.own; other = is.other; same = is.same; long = is.long; rates = b.rates; owed = b.owed; others = b.other; fit = b.fit })

  sound : Sound (shown (twice s)) (holding.on_board (shown (twice s)))
  sound =
      let fine : good d.capacity t.board ≡ true = (fits_parts d.capacity t.board t.rates (t.owed ∷ t.other ∷ []) is.fit).0 in
      amended.ready_sound (desk d t.board L) (record { clear = is.own; fine = fine; long = is.long })

  abbrev r : BoardTables
  r = ran_state' (twice s)

  ran_tabled : Tabled d.capacity r
  ran_tabled = subst (λ (u : BoardTables). Tabled d.capacity u) (sym (due_ran (twice s))) (all_tabled d t (due (twice s)) (tabled s is))

  one_tabled : (a : Deed) → Tabled d.capacity (leaves_one a s).state
  one_tabled (Changes o) = subst (λ (u : BoardTables). Tabled d.capacity u) (sym (way_state d t o (way_at o (twice s)))) (all_tabled d t (if_now (way_at o (twice s)) o) (tabled s is))
  one_tabled Slots = rw one_clear (turn_tabled d r sound.valid.at ran_tabled)
  one_tabled (Fetches n) = tabled s is

  one_valid : (a : Deed) → Valid (shown (twice (leaves_one a s)))
  one_valid a = subst (λ (w : plainly.State). Valid w) (sym (projected_one (Own a) (twice s)))
      (reached (shown (twice s)) (holding.on_board (shown (twice s))) sound (stands_for (Own a) (twice s))).valid

  pub one_fit : (a : Deed) → Fit (leaves_one a s)
  one_fit a =
      let u = leaves_one a s in
      let v = slot_clear (shown (twice u)) (one_valid a) in
      let size : u.drive.capacity ≡ d.capacity =
      ap (λ (w : plainly.State). w.drive.capacity) (projected_one (Own a) (twice s)) ∙ (moves (shown (twice s)) (stands_for (Own a) (twice s))).0 in
      let b = subst (λ (c : ℕ). Tabled c u.state) (sym size) (one_tabled a) in
      record {
        own = v;
        other = v;
        same = refl;
        long = let n = list_length a (twice s) in let l = is.long in omega arith;
        rates = b.rates;
        owed = b.owed;
        others = b.other;
        fit = b.fit;
      }

  -- ---- a change

  way_same : (o : Order) → way_at o (in_step s) ≡ way_at o (twice s)
  unfolding way_of
  way_same o = rw (one_clear, step_clear) refl

  change_step : (o : Order) → leaves (Own (Changes o)) (in_step s) ≡ in_step (leaves_one (Changes o) s)
  change_step o = rw (way_same o)
      (ap (λ (u : BoardTables). record { own = d; other = d; state = u; list = list_by (way_at o (twice s)) (taken_list L o) L }) (way_both d t o (way_at o (twice s))))

  pub change_says : (o : Order) → answers_own (Changes o) (in_step s) ≡ answers_own (Changes o) (twice s)
  change_says o = rw (way_same o) refl

  -- ---- a slot of each

  ran_both : state_then d d (both t) L ≡ both r
  unfolding state_then ran_state
  ran_both = by_bool (both_start d d) (λ e. rw e (all_both d t (waiting L))) (λ e. rw e refl)

  abbrev L' : List ℕ
  L' = list_then d d t L

  list_both : list_then d d (both t) L ≡ L'
  unfolding list_then ran_list
  list_both = by_bool (both_start d d) (λ e. rw e (ap (settled L) (said_both d t (waiting L)))) (λ e. rw e refl)

  -- the own slot
  abbrev mid : Pair
  mid = record { own = moved_on d; other = d; state = turn_state d (both r); list = L' }

  own_step : leaves (Own Slots) (in_step s) ≡ mid
  own_step = rw (step_clear, ran_both, list_both) refl

  one_slot : leaves_one Slots s ≡ record { drive = moved_on d; state = turn_state d r; list = L' }
  one_slot = rw one_clear refl

  -- the other's slot finds the same board, the same deficits, and nothing that waits
  mid_clear : first_checks (exchanged mid) ≡ Ok tt
  mid_clear =
      let b = turn_tabled d (both r) sound.valid.at (both_tabled d.capacity r ran_tabled) in
      let v : Valid (state_at (moved_on d) r.board) = subst (λ (u : One). Valid (shown (twice u))) one_slot (one_valid Slots) in
      let long : 259 ≤ length L' = let n = subst (λ (u : One). length u.list ≡ length L) one_slot (list_length Slots (twice s)) in let l = is.long in omega arith in
      lent_share d (moved_on d) (exchanged_state (turn_state d (both r))) (length L') (record {
        own = slot_clear (state_at d r.board) (record { at = sound.valid.at; long = v.long });
        other = slot_clear (state_at (moved_on d) r.board) v;
        same = refl;
        long = long;
        rates = b.rates;
        owed = b.other;
        others = b.owed;
        fit = fits_swap d.capacity r.board r.rates (turn_state d (both r)).owed [] r.owed b.fit;
      })

  -- where both are at the start of a round the list has run
  nothing_waits : both_start d (moved_on d) ≡ true → (waiting L' ≡ []) × (settled L' [] ≡ L')
  unfolding list_then ran_list
  nothing_waits e =
      let p = (start_both d (moved_on d) e).0 in
      let b : both_start d d ≡ true = start_is d p in
      rw b (none_waits (doing d) (saying d) t L is.long, run_again L (outcomes (doing d) (saying d) t (waiting L)) is.long)

  mid_state : (x : BoardTables) → state_then d (moved_on d) x L' ≡ x
  mid_state x = state_same d (moved_on d) x L' (λ e. (nothing_waits e).0)

  mid_list : (x : BoardTables) → list_then d (moved_on d) x L' ≡ L'
  mid_list x = by_bool (both_start d (moved_on d))
      (λ e. let n = nothing_waits e in list_ran d (moved_on d) x L' e n.0 ∙ n.1)
      (λ e. list_not d (moved_on d) x L' e)

  other_step : leaves (Other Slots) mid ≡ in_step (record { drive = moved_on d; state = turn_state d r; list = L' })
  other_step = rw (mid_clear, mid_state (exchanged_state (turn_state d (both r))), mid_list (exchanged_state (turn_state d (both r)))) refl

  slot_step : leaves (Other Slots) (leaves (Own Slots) (in_step s)) ≡ in_step (leaves_one Slots s)
  slot_step = ap (leaves (Other Slots)) own_step ∙ other_step ∙ ap in_step (sym one_slot)

  -- what a slot says, and the name on its leaf
  slot_name : name_own Slots (in_step s) ≡ name_own Slots (twice s)
  slot_name = rw (step_clear, one_clear, ran_both) refl

  slot_leaf : given_own Slots (in_step s) ≡ given_own Slots (twice s)
  slot_leaf = rw (step_clear, one_clear, ran_both) refl

-- ---- calls

-- Two drives in step with it go where it goes,
pub in_step_lem : (s : One) → Fit s → (deeds : List Deed) → leaves_all (in_step s) (turns_for deeds) ≡ in_step (leaves_ones s deeds)
unfolding through turns_for
in_step_lem s is [] = refl
in_step_lem s is (Changes o ∷ deeds) =
    ap (λ (u : Pair). leaves_all u (turns_for deeds)) (change_step s is o) ∙ in_step_lem (leaves_one (Changes o) s) (one_fit s is (Changes o)) deeds
in_step_lem s is (Slots ∷ deeds) = ap (λ (u : Pair). leaves_all u (turns_for deeds)) (slot_step s is) ∙ in_step_lem (leaves_one Slots s) (one_fit s is Slots) deeds
in_step_lem s is (Fetches n ∷ deeds) = in_step_lem (leaves_one (Fetches n) s) (one_fit s is (Fetches n)) deeds

-- and the own one of them is served and given what it is.
pub names_step : (s : One) → Fit s → (deeds : List Deed) → (names_served (in_step s) (turns_for deeds) ≡ names_one s deeds) × (leaves_given (in_step s) (turns_for deeds) ≡ given_one s deeds)
unfolding along turns_for
names_step s is [] = (refl, refl)
names_step s is (Changes o ∷ deeds) =
    let ih = names_step (leaves_one (Changes o) s) (one_fit s is (Changes o)) deeds in
    let e = change_step s is o in
    (ap (λ (u : Pair). names_served u (turns_for deeds)) e ∙ ih.0, ap (λ (u : Pair). leaves_given u (turns_for deeds)) e ∙ ih.1)
names_step s is (Slots ∷ deeds) =
    let ih = names_step (leaves_one Slots s) (one_fit s is Slots) deeds in
    let e = slot_step s is in (
      ap₂ (λ (xs ys : List ℕ). xs ++ ys) (slot_name s is) (ap (λ (u : Pair). names_served u (turns_for deeds)) e ∙ ih.0),
      ap₂ (λ (xs ys : List ℕ). xs ++ ys) (slot_leaf s is) (ap (λ (u : Pair). leaves_given u (turns_for deeds)) e ∙ ih.1),
    )
names_step s is (Fetches n ∷ deeds) = names_step (leaves_one (Fetches n) s) (one_fit s is (Fetches n)) deeds

pub fit_always : (s : One) → Fit s → (deeds : List Deed) → Fit (leaves_ones s deeds)
fit_always s is deeds = amended.always leaves_one Fit (λ a u f. one_fit u f a) s is deeds
