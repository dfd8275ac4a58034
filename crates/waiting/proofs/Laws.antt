-- The laws of the list that upper crates cite: what the calls do to its meaning, that they keep its length and the numbers beyond, how the tickets count, what
-- waits and what becomes of an order; and what running a list takes, place by place. Assumes nothing.
use Rattle.std.proofs.lemmas.Grind.{common_steps}
use mathlib.Core.Path.{◌≡◌, refl, sym, ap, subst, ◌∙◌}
use mathlib.Core.Bool.{false, cond}
use mathlib.Core.Logic.{◌⊎◌, inl, inr}
use mathlib.Core.List.{List, [], ◌∷◌, ◌++◌, map}
use Prim.Native.Nat.{ℕ, zero, suc, ◌+◌, ◌≤◌}
use native.Mathlib.Omega.{arith}
use lib.Dec.{eqb}
use lib.ListN.{length}
use Rattle.std.proofs.lemmas.List.{map-append}
use Rattle.general.proofs.Laws.{by_bool}
use Rattle.waiting.specs.declared.Order.{Order}
use Rattle.waiting.specs.declared.Outcome.{Outcome}
use Rattle.waiting.specs.Types.{Taking, Known, Fetching}
use Rattle.waiting.specs.declared.Held.TheVariants as held
use Rattle.std.specs.Prelude.{Err, Some, None}
use Rattle.waiting.specs.declared.Unfetched.TheVariants as unfetched
use Rattle.waiting.specs.Layout.{too_short, last_ticket, answers_in, orders_in, places_in, order_at, outcome_at, orders_from, waiting, full, taken_list, settled, found, answer_of, fetched, fetched_list, emptied}
use Rattle.waiting.specs.Carrying.{carried_all, outcomes}
use Rattle.waiting.specs.Meaning.{Under, Meaning, places, meaning, with_answers, kept_order, Fits, Rising, Orderly, InOrder}
use Rattle.waiting.specs.Fates.{Fate, Waits, Gone, fetched_of, ran, handed_out}
use Rattle.waiting.specs.Promises.{Takes, Fetches}
use Rattle.waiting.proofs.RisingTickets as standing
use Rattle.waiting.proofs.RisingTickets.{StandsIn, outcomes_length}
-- ---- the meaning: each call does to it what specs/Meaning says

pub use Rattle.waiting.proofs.Meant.{least_small, take_means, run_means, fetch_means, fetch_tells, empty_means}
-- ---- every list keeps its length, and its numbers from 259 on

pub use Rattle.waiting.proofs.Beyond.{take_length, run_length, fetch_length, empty_length, take_beyond, run_beyond, fetch_beyond, empty_beyond}
-- ---- the run of a list, place by place

pub use Rattle.waiting.proofs.Running.{state_from, list_from, state_next, list_next, state_none, list_none, state_more, list_more, state_all, list_all}

-- ---- no second answer fits

pub take_unique : (L : List ℕ) (o : Order) {r s : Taking} {E F : List ℕ} → Takes L o r E → Takes L o s F → (r ≡ s) × (E ≡ F)
take_unique L o p q = (p.0 ∙ sym q.0, p.1 ∙ sym q.1)

pub fetch_unique : (L : List ℕ) (t : ℕ) {r s : Fetching} {E F : List ℕ} → Fetches L t r E → Fetches L t s F → (r ≡ s) × (E ≡ F)
fetch_unique L t p q = (p.0 ∙ sym q.0, p.1 ∙ sym q.1)

-- ---- a fetch hands an answer out, or changes nothing

pub fetch_cases : (L : List ℕ) (t : ℕ)
    → ((r : Outcome) × (fetched L t ≡ answer_of r))
    ⊎ (((fetched L t ≡ Err (unfetched.Waits t)) ⊎ (fetched L t ≡ Err unfetched.Unknown)) × (fetched_list L t ≡ L))
fetch_cases L t = by_bool (too_short (length L))
    (λ s. inr (inr (rw s refl), rw s refl))
    (λ s. go (found L t) s refl)
  where
    go : (k : Known) → too_short (length L) ≡ false → found L t ≡ k
        → ((r : Outcome) × (fetched L t ≡ answer_of r))
        ⊎ (((fetched L t ≡ Err (unfetched.Waits t)) ⊎ (fetched L t ≡ Err unfetched.Unknown)) × (fetched_list L t ≡ L))
    go None s e = inr (inr (rw (s, e) refl), rw (s, e) refl)
    go (Some held.Order) s e = inr (inl (rw (s, e) refl), rw (s, e) refl)
    go (Some (held.Answer i)) s e = inl (outcome_at L i, rw (s, e) refl)

-- ---- what waits

abbrev items : List (Under Order) → List Order
items us = map (λ u. u.item) us

orders_items : (L : List ℕ) (i m : ℕ) → orders_from L i m ≡ items (places (order_at L) L i m)
unfolding orders_from places
orders_items L i zero = refl
orders_items L i (suc m) = ap (λ (os : List Order). order_at L i ∷ os) (orders_items L (suc i) m)

pub waiting_means : (L : List ℕ) → waiting L ≡ items (meaning L).orders
unfolding waiting meaning
waiting_means L = orders_items L (answers_in L) (orders_in L)

orders_count : (L : List ℕ) (i m : ℕ) → length (orders_from L i m) ≡ m
unfolding orders_from
orders_count L i zero = refl
orders_count L i (suc m) = ap suc (orders_count L (suc i) m)

pub waiting_count : (L : List ℕ) → length (waiting L) ≡ orders_in L
unfolding waiting
waiting_count L = orders_count L (answers_in L) (orders_in L)

pub kept_fits : (o : Order) → Fits o → kept_order o ≡ o
kept_fits o fits = grind (arith, common_steps)

-- An order that is taken waits behind all that wait, as it was given.
pub joins_end : (L : List ℕ) (o : Order) → 259 ≤ length L → full L ≡ false → Fits o → waiting (taken_list L o) ≡ waiting L ++ (o ∷ [])
joins_end L o l f fits = waiting_means (taken_list L o)
    ∙ ap (λ (M : Meaning). items M.orders) (take_means L o l f)
    ∙ map-append (λ u. u.item) (meaning L).orders (record { ticket = (meaning L).last + 1; item = kept_order o } ∷ [])
    ∙ rw (kept_fits o fits, sym (waiting_means L)) refl

-- What a run answers: one answer for each order that waits.
abbrev pub answers_of : {S : Type 0} → (Order → S → S) → (Order → S → Outcome) → S → List ℕ → List Outcome
answers_of does says s L = outcomes does says s (waiting L)

module _ {S : Type 0} (does : Order → S → S) (says : Order → S → Outcome) (s : S) (L : List ℕ) where
  pub answers_count : length (answers_of does says s L) ≡ orders_in L
  answers_count = outcomes_length does says s (waiting L) ∙ waiting_count L

  pub ran_means : 259 ≤ length L → meaning (settled L (answers_of does says s L)) ≡ with_answers (meaning L) (standing.ran_answers does says s (meaning L))
  ran_means l = run_means L (answers_of does says s L) l answers_count
      ∙ ap (λ (os : List Order). with_answers (meaning L) (outcomes does says s os)) (waiting_means L)

  -- Once the list has run no order waits.
  pub none_waits : 259 ≤ length L → waiting (settled L (answers_of does says s L)) ≡ []
  none_waits l = waiting_means (settled L (answers_of does says s L)) ∙ ap (λ (M : Meaning). items M.orders) (ran_means l)

-- ---- the last ticket

last_means : (L : List ℕ) → (meaning L).last ≡ last_ticket L
unfolding meaning
last_means L = refl

module _ (L : List ℕ) (long : 259 ≤ length L) where
  pub take_last : (o : Order) → last_ticket (taken_list L o) ≡ cond (full L) (last_ticket L) (last_ticket L + 1)
  take_last o = by_bool (full L)
      (λ f. rw f refl)
      (λ f.
      sym (last_means (taken_list L o))
      ∙ ap (λ (M : Meaning). M.last) (take_means L o long f)
      ∙ rw (last_means L, f) refl)

  pub run_last : {S : Type 0} (does : Order → S → S) (says : Order → S → Outcome) (s : S) → last_ticket (settled L (answers_of does says s L)) ≡ last_ticket L
  run_last does says s = sym (last_means (settled L (answers_of does says s L)))
      ∙ ap (λ (M : Meaning). M.last) (ran_means does says s L long)
      ∙ last_means L

  pub fetch_last : (t : ℕ) → last_ticket (fetched_list L t) ≡ last_ticket L
  fetch_last t = sym (last_means (fetched_list L t)) ∙ ap (λ (M : Meaning). M.last) (fetch_means L t long) ∙ last_means L

  pub empty_last : last_ticket (emptied L) ≡ last_ticket L
  empty_last = sym (last_means (emptied L)) ∙ ap (λ (M : Meaning). M.last) (empty_means L long) ∙ last_means L

-- ---- a list as calls leave it

pub empty_in_order : (L : List ℕ) → 259 ≤ length L → InOrder (emptied L)
empty_in_order L l = record {
  long = let e = empty_length L in omega arith;
  orderly = rw (empty_means L l) (standing.empty_orderly (meaning L));
}

-- An empty list, all of whose places are free.
pub free_in_order : (L : List ℕ) → 259 ≤ length L → places_in L ≡ 0 → InOrder L
unfolding meaning places Rising
free_in_order L l e = grind (arith, common_steps)

module _ (L : List ℕ) (is : InOrder L) where
  pub take_in_order : (o : Order) → InOrder (taken_list L o)
  take_in_order o = record {
    long = let e = take_length L o in let l = is.long in omega arith;
    orderly = by_bool (full L)
        (λ f. rw f is.orderly)
        (λ f. subst Orderly (sym (take_means L o is.long f)) (standing.take_orderly (meaning L) (kept_order o) is.orderly));
  }

  pub run_in_order : {S : Type 0} (does : Order → S → S) (says : Order → S → Outcome) (s : S) → InOrder (settled L (answers_of does says s L))
  run_in_order does says s = record {
    long = let e = run_length L (answers_of does says s L) in let l = is.long in omega arith;
    orderly = subst Orderly (sym (ran_means does says s L is.long))
        (standing.run_orderly (meaning L) (standing.ran_answers does says s (meaning L)) (standing.ran_length does says s (meaning L)) is.orderly);
  }

  pub fetch_in_order : (t : ℕ) → InOrder (fetched_list L t)
  fetch_in_order t = record {
    long = let e = fetch_length L t in let l = is.long in omega arith;
    orderly = subst Orderly (sym (fetch_means L t is.long)) (standing.fetch_orderly (meaning L) t is.orderly);
  }

-- ---- what becomes of one order: t is its ticket, `ahead` the orders that waited when it was taken

pub record Stands (t : ℕ) (o : Order) (ahead : List Order) (φ : Fate) (L : List ℕ) : Type 0 where
  pub in_order : InOrder L
  pub there : StandsIn t o ahead φ (meaning L)

-- It is taken: it waits under the next ticket, behind all that wait.
pub stands_taken : (L : List ℕ) (o : Order) → InOrder L → full L ≡ false → Fits o → Stands (last_ticket L + 1) o (waiting L) Waits (taken_list L o)
unfolding meaning
stands_taken L o is f fits = record {
  in_order = take_in_order L is o;
  there = subst (StandsIn (last_ticket L + 1) o (waiting L) Waits) (sym (take_means L o is.long f))
      (rw (kept_fits o fits, waiting_means L) (standing.taken_stands (meaning L) o));
}

module _ (t : ℕ) (o : Order) (ahead : List Order) (φ : Fate) (L : List ℕ) (st : Stands t o ahead φ L) where
  long : 259 ≤ length L
  long = st.in_order.long

  -- Whatever else is taken, it stands as it did;
  pub stands_take : (p : Order) → Stands t o ahead φ (taken_list L p)
  stands_take p = record {
    in_order = take_in_order L st.in_order p;
    there = by_bool (full L)
        (λ f. rw f st.there)
        (λ f. subst (StandsIn t o ahead φ) (sym (take_means L p long f)) (standing.take_stands t o ahead φ (meaning L) (kept_order p) st.there));
  }

  -- a run answers it, if it waits, in its turn: when those ahead of it have been carried out;
  pub stands_run : {S : Type 0} (does : Order → S → S) (says : Order → S → Outcome) (s : S)
      → Stands t o ahead (ran (says o (carried_all does s ahead)) φ) (settled L (answers_of does says s L))
  stands_run does says s = record {
    in_order = run_in_order L st.in_order does says s;
    there = subst (StandsIn t o ahead (ran (says o (carried_all does s ahead)) φ)) (sym (ran_means does says s L long))
        (standing.run_stands does says s t o ahead φ (meaning L) st.there);
  }

  -- a fetch of its own ticket takes its answer, and no other fetch does;
  pub stands_fetch : (u : ℕ) → Stands t o ahead (cond (eqb u t) (handed_out φ) φ) (fetched_list L u)
  stands_fetch u = record {
    in_order = fetch_in_order L st.in_order u;
    there = subst (StandsIn t o ahead (cond (eqb u t) (handed_out φ) φ)) (sym (fetch_means L u long))
        (standing.fetch_stands t o ahead φ (meaning L) st.in_order.orderly u st.there);
  }

  -- and an emptied list does not know it.
  pub stands_empty : Stands t o ahead Gone (emptied L)
  stands_empty = record {
    in_order = empty_in_order L long;
    there = subst (StandsIn t o ahead Gone) (sym (empty_means L long)) (standing.empty_stands t o ahead φ (meaning L) st.in_order.orderly st.there);
  }

  -- What a fetch says of it.
  pub stands_told : fetched L t ≡ fetched_of t φ
  stands_told = fetch_tells L t long ∙ standing.told_stands t o ahead φ (meaning L) st.in_order.orderly st.there
