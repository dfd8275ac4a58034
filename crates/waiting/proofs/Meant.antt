-- What taking, running, fetching and emptying make of a list is what they make of its meaning. Assumes nothing.
use mathlib.Core.Path.{◌≡◌, refl, sym, ap, subst, ◌∙◌}
use mathlib.Core.Bool.{false, cond}
use mathlib.Core.List.{List, [], ◌∷◌, ◌++◌}
use Prim.Native.Nat.{ℕ, zero, suc, ◌+◌, ◌-◌, ◌*◌, ◌≤◌, ◌<◌}
use native.Mathlib.Omega.{arith}
use native.Mathlib.Decide.{dec_lt, ℕ_discrete}
use lib.Dec.{eqb, ltb}
use lib.ListN.{length, get_or, set, length-set}
use lib.Seq.{get_or-set_same, get_or-set_other}
use Rattle.std.proofs.lemmas.Grind.{common_steps}
use borrow.Author.Tests.{lt-ltb, le-ltb}
use Rattle.general.proofs.Laws.{by_bool}
use Rattle.waiting.specs.declared.Order.{Order}
use Rattle.waiting.specs.declared.Outcome.{Outcome}
use Rattle.waiting.specs.Types.{Fetching}
use Rattle.waiting.specs.declared.Unfetched.TheVariants as unfetched
use Rattle.std.specs.Prelude.{Err}
use Rattle.waiting.specs.Layout.{least, last_ticket, answers_in, orders_in, places_in, ticket_at, order_at, outcome_at, counted, full, put_at, joined, taken_list, answered_at, answered_from, settled, found_from, place_of, found, lowered, without_place, answer_of, fetched, fetched_list, emptied}
use Rattle.waiting.specs.Meaning.{Under, places, meaning, with_order, each, with_answers, dropped, without_answer, with_nothing, order_under, answer_under, told, kept_order}
use Rattle.waiting.proofs.Listing.{places_most}

-- ---- places that are alike

module _ {A : Type 0} (f g : ℕ → A) (F L : List ℕ) where
  pub places_same : (i j m : ℕ) → ((k : ℕ) → k < m → (ticket_at F (i + k) ≡ ticket_at L (j + k)) × (f (i + k) ≡ g (j + k))) → places f F i m ≡ places g L j m
  unfolding places
  places_same i j zero same = refl
  places_same i j (suc m) same =
      let h = same 0 (omega arith) in
      let x : i + 0 ≡ i = omega arith in
      let y : j + 0 ≡ j = omega arith in
      let t : ticket_at F i ≡ ticket_at L j = rw (x, y) at h.0 in
      let e : f i ≡ g j = rw (x, y) at h.1 in
      rw (t, e)
      (ap (λ (us : List (Under A)). record { ticket = ticket_at L j; item = g j } ∷ us)
      (places_same (suc i) (suc j) m (λ k l.
      let x : i + suc k ≡ suc i + k = omega arith in
      let y : j + suc k ≡ suc j + k = omega arith in
      rw (x, y) at (same (suc k) (omega arith)))))

module _ {A : Type 0} (f : ℕ → A) (L : List ℕ) where
  pub places_more : (i m n : ℕ) → places f L i (m + n) ≡ places f L i m ++ places f L (i + m) n
  unfolding places
  places_more i zero n =
      let x : i + 0 ≡ i = omega arith in
      let y : 0 + n ≡ n = omega arith in
      rw (x, y) refl
  places_more i (suc m) n =
      let x : i + suc m ≡ suc i + m = omega arith in
      let y : suc m + n ≡ suc (m + n) = omega arith in
      rw (x, y) (ap (λ (us : List (Under A)). record { ticket = ticket_at L i; item = f i } ∷ us) (places_more (suc i) m n))

-- the numbers of a place of F are those of a place of L
record Alike (F : List ℕ) (i : ℕ) (L : List ℕ) (j : ℕ) : Type 0 where
  zeroth : get_or F (3 + 4 * i) 0 ≡ get_or L (3 + 4 * j) 0
  first : get_or F (4 + 4 * i) 0 ≡ get_or L (4 + 4 * j) 0
  second : get_or F (5 + 4 * i) 0 ≡ get_or L (5 + 4 * j) 0
  third : get_or F (6 + 4 * i) 0 ≡ get_or L (6 + 4 * j) 0

alike_order : {F L : List ℕ} {i j : ℕ} → Alike F i L j → (ticket_at F i ≡ ticket_at L j) × (order_at F i ≡ order_at L j)
unfolding order_at
alike_order a = (a.zeroth, rw (a.first, a.second, a.third) refl)

alike_outcome : {F L : List ℕ} {i j : ℕ} → Alike F i L j → (ticket_at F i ≡ ticket_at L j) × (outcome_at F i ≡ outcome_at L j)
unfolding outcome_at
alike_outcome a = (a.zeroth, rw (a.first, a.second) refl)

same_numbers : (F L : List ℕ) (i : ℕ) → ((q : ℕ) → 3 + 4 * i ≤ q → q < 7 + 4 * i → get_or F q 0 ≡ get_or L q 0) → Alike F i L i
same_numbers F L i same = grind (arith, common_steps)

next_numbers : (F L : List ℕ) (i : ℕ) → ((q : ℕ) → 3 + 4 * i ≤ q → q < 7 + 4 * i → get_or F q 0 ≡ get_or L (q + 4) 0) → Alike F i L (suc i)
next_numbers F L i same = grind (arith, common_steps)

-- ---- a list with other counts

pub least_small : (m n : ℕ) → m ≤ n → least m n ≡ m
unfolding least
least_small m n l = grind (arith, common_steps)

module _ (L : List ℕ) (a w : ℕ) where
  pub counted_length : length (counted L a w) ≡ length L
  unfolding counted
  counted_length = simp length-set

  pub counted_other : (q : ℕ) → (q ≡ 1 → ⊥) → (q ≡ 2 → ⊥) → get_or (counted L a w) q 0 ≡ get_or L q 0
  unfolding counted
  counted_other q n m = grind (arith, common_steps)

  module _ (long : 259 ≤ length L) (few : a + w ≤ 64) where
    pub counted_answers : answers_in (counted L a w) ≡ a
    unfolding answers_in counted
    counted_answers =
        rw (get_or-set_other (set L 1 a) 2 1 w 0 (λ e. omega arith) ∙ get_or-set_same L 1 a 0 (omega arith)) (least_small a 64 (omega arith))

    pub counted_orders : orders_in (counted L a w) ≡ w
    unfolding orders_in counted
    counted_orders =
        rw (counted_answers, get_or-set_same (set L 1 a) 2 w 0 (simp length-set (omega arith))) (least_small w (64 - a) (omega arith))

    alike_counted : (i : ℕ) → Alike (counted L a w) i L i
    alike_counted i = same_numbers (counted L a w) L i (λ q h k. counted_other q (λ e. omega arith) (λ e. omega arith))

    pub counted_means : meaning (counted L a w) ≡ record { last = last_ticket L; answers = places (outcome_at L) L 0 a; orders = places (order_at L) L a w }
    unfolding meaning
    counted_means = rw (
      counted_answers,
      counted_orders,
      counted_other 0 (λ e. omega arith) (λ e. omega arith),
      places_same (outcome_at (counted L a w)) (outcome_at L) (counted L a w) L 0 0 a (λ k l. alike_outcome (alike_counted (0 + k))),
      places_same (order_at (counted L a w)) (order_at L) (counted L a w) L a a w (λ k l. alike_order (alike_counted (a + k))),
    ) refl

-- ---- an order is taken

pub room : (L : List ℕ) → full L ≡ false → (places_in L < 64) × (last_ticket L < 18446744073709551615)
unfolding full
room L e = grind (arith, common_steps)

module _ (L : List ℕ) (i t : ℕ) (o : Order) where
  pub put_length : length (put_at L i t o) ≡ length L
  unfolding put_at
  put_length = simp length-set

  pub put_other : (q : ℕ) → (q ≡ 3 + 4 * i → ⊥) → (q ≡ 4 + 4 * i → ⊥) → (q ≡ 5 + 4 * i → ⊥) → (q ≡ 6 + 4 * i → ⊥) → get_or (put_at L i t o) q 0 ≡ get_or L q 0
  unfolding put_at
  put_other q a b c d = grind (arith, common_steps)

  module _ (long : 7 + 4 * i ≤ length L) where
    put_ticket : ticket_at (put_at L i t o) i ≡ t
    unfolding put_at
    put_ticket = grind (arith, common_steps)

    put_order : order_at (put_at L i t o) i ≡ kept_order o
    unfolding put_at order_at
    put_order = grind (arith, common_steps)

module _ (L : List ℕ) (o : Order) (long : 259 ≤ length L) (free : full L ≡ false) where
  -- the numbers before they are counted anew
  pub put : List ℕ
  put = set (put_at L (places_in L) (last_ticket L + 1) o) 0 (last_ticket L + 1)

  put_long : length put ≡ length L
  unfolding put
  put_long = simp length-set (put_length L (places_in L) (last_ticket L + 1) o)

  put_numbers : (q : ℕ) → (q ≡ 0 → ⊥) → get_or put q 0 ≡ get_or (put_at L (places_in L) (last_ticket L + 1) o) q 0
  unfolding put
  put_numbers q n = grind (arith, common_steps)

  pub put_first : get_or put 0 0 ≡ last_ticket L + 1
  unfolding put
  put_first =
      let l = put_length L (places_in L) (last_ticket L + 1) o in
      get_or-set_same (put_at L (places_in L) (last_ticket L + 1) o) 0 (last_ticket L + 1) 0 (omega arith)

  put_before : (i : ℕ) → i < places_in L → Alike put i L i
  put_before i h = same_numbers put L i (λ q a b.
      put_numbers q (λ e. omega arith)
      ∙ put_other L (places_in L) (last_ticket L + 1) o q (λ e. omega arith) (λ e. omega arith) (λ e. omega arith) (λ e. omega arith))

  put_here : Alike put (places_in L) (put_at L (places_in L) (last_ticket L + 1) o) (places_in L)
  put_here = same_numbers put (put_at L (places_in L) (last_ticket L + 1) o) (places_in L) (λ q a b. put_numbers q (λ e. omega arith))

  put_last : places (order_at put) put (places_in L) 1 ≡ record { ticket = last_ticket L + 1; item = kept_order o } ∷ []
  unfolding places
  put_last =
      let r = (room L free).0 in
      let e = alike_order put_here in
      rw (e.0, e.1, put_ticket L (places_in L) (last_ticket L + 1) o (omega arith), put_order L (places_in L) (last_ticket L + 1) o (omega arith)) refl

  pub take_means : meaning (taken_list L o) ≡ with_order (meaning L) (kept_order o)
  unfolding joined meaning put
  take_means =
      let r = (room L free).0 in
      let l = put_long in
      rw (
        free,
        counted_means put (answers_in L) (orders_in L + 1) (omega arith) (omega arith),
        put_first,
        places_same (outcome_at put) (outcome_at L) put L 0 0 (answers_in L) (λ k h. alike_outcome (put_before (0 + k) (omega arith))),
        places_more (order_at put) put (answers_in L) (orders_in L) 1,
        places_same (order_at put) (order_at L) put L (answers_in L) (answers_in L) (orders_in L) (λ k h. alike_order (put_before (answers_in L + k) (omega arith))),
        put_last,
      ) refl

-- ---- the list is run

module _ (L : List ℕ) (i : ℕ) (r : Outcome) where
  pub answered_length : length (answered_at L i r) ≡ length L
  unfolding answered_at
  answered_length = simp length-set

  pub answered_other : (q : ℕ) → (q ≡ 4 + 4 * i → ⊥) → (q ≡ 5 + 4 * i → ⊥) → get_or (answered_at L i r) q 0 ≡ get_or L q 0
  unfolding answered_at
  answered_other q a b = grind (arith, common_steps)

  answered_here : 7 + 4 * i ≤ length L → outcome_at (answered_at L i r) i ≡ r
  unfolding outcome_at answered_at
  answered_here long = grind (arith, common_steps)

pub answers_length : (L : List ℕ) (i : ℕ) (rs : List Outcome) → length (answered_from L i rs) ≡ length L
unfolding answered_from
answers_length L i [] = refl
answers_length L i (r ∷ rs) = answers_length (answered_at L i r) (suc i) rs ∙ answered_length L i r

answers_before : (L : List ℕ) (i : ℕ) (rs : List Outcome) (q : ℕ) → q < 4 + 4 * i → get_or (answered_from L i rs) q 0 ≡ get_or L q 0
unfolding answered_from
answers_before L i [] q h = refl
answers_before L i (r ∷ rs) q h =
    answers_before (answered_at L i r) (suc i) rs q (omega arith) ∙ answered_other L i r q (λ e. omega arith) (λ e. omega arith)

answers_each : (L : List ℕ) (i : ℕ) (rs : List Outcome) → 3 + 4 * (i + length rs) ≤ length L
    → places (outcome_at (answered_from L i rs)) (answered_from L i rs) i (length rs) ≡ each (places (order_at L) L i (length rs)) rs
unfolding answered_from places each
answers_each L i [] long = refl
answers_each L i (r ∷ rs) long =
    let M : List ℕ = answered_at L i r in
    let F : List ℕ = answered_from M (suc i) rs in
    let l = answered_length L i r in
    let alike = same_numbers F M i (λ q a b. answers_before M (suc i) rs q (omega arith)) in
    let t : ticket_at F i ≡ ticket_at L i = alike.zeroth ∙ answered_other L i r (3 + 4 * i) (λ e. omega arith) (λ e. omega arith) in
    let e : outcome_at F i ≡ r = (alike_outcome alike).1 ∙ answered_here L i r (omega arith) in
    let later : places (order_at M) M (suc i) (length rs) ≡ places (order_at L) L (suc i) (length rs) =
    places_same (order_at M) (order_at L) M L (suc i) (suc i) (length rs) (λ k h.
    alike_order (same_numbers M L (suc i + k) (λ q a b. answered_other L i r q (λ e. omega arith) (λ e. omega arith)))) in
    rw (t, e) (ap (λ (us : List (Under Outcome)). record { ticket = ticket_at L i; item = r } ∷ us)
    (answers_each M (suc i) rs (omega arith) ∙ ap (λ (us : List (Under Order)). each us rs) later))

pub run_means : (L : List ℕ) (rs : List Outcome) → 259 ≤ length L → length rs ≡ orders_in L → meaning (settled L rs) ≡ with_answers (meaning L) rs
unfolding settled meaning places
run_means L rs long e =
    let F : List ℕ = answered_from L (answers_in L) rs in
    let l = answers_length L (answers_in L) rs in
    let p = places_most L in
    let each_one : places (outcome_at F) F (0 + answers_in L) (orders_in L) ≡ each (places (order_at L) L (answers_in L) (orders_in L)) rs =
    subst (λ (n : ℕ). places (outcome_at F) F (0 + answers_in L) n ≡ each (places (order_at L) L (answers_in L) n) rs) e
    (let z : 0 + answers_in L ≡ answers_in L = omega arith in rw z (answers_each L (answers_in L) rs (omega arith))) in
    rw (
      counted_means F (places_in L) 0 (omega arith) (omega arith),
      answers_before L (answers_in L) rs 0 (omega arith),
      places_more (outcome_at F) F 0 (answers_in L) (orders_in L),
      places_same (outcome_at F) (outcome_at L) F L 0 0 (answers_in L) (λ k h.
          alike_outcome (same_numbers F L (0 + k) (λ q a b. answers_before L (answers_in L) rs q (omega arith)))),
      each_one,
    ) refl

-- ---- an answer is fetched

pub lowered_length : (L : List ℕ) (j m : ℕ) → length (lowered L j m) ≡ length L
unfolding lowered
lowered_length L j zero = refl
lowered_length L j (suc m) = lowered_length (set L j (get_or L (j + 4) 0)) (suc j) m ∙ length-set L j (get_or L (j + 4) 0)

lowered_before : (L : List ℕ) (j m q : ℕ) → q < j → get_or (lowered L j m) q 0 ≡ get_or L q 0
unfolding lowered
lowered_before L j zero q l = refl
lowered_before L j (suc m) q l = lowered_before (set L j (get_or L (j + 4) 0)) (suc j) m q (omega arith)
    ∙ get_or-set_other L j q (get_or L (j + 4) 0) 0 (λ e. omega arith)

lowered_within : (L : List ℕ) (j m q : ℕ) → j ≤ q → q < j + m → j + m ≤ length L → get_or (lowered L j m) q 0 ≡ get_or L (q + 4) 0
unfolding lowered
lowered_within L j zero q l h s = absurd (omega arith)
lowered_within L j (suc m) q l h s = elim (ℕ_discrete q j) [
  | yes e ↦ rw e (lowered_before (set L j (get_or L (j + 4) 0)) (suc j) m j (omega arith) ∙ get_or-set_same L j (get_or L (j + 4) 0) 0 (omega arith))
  | no n ↦
      lowered_within (set L j (get_or L (j + 4) 0)) (suc j) m q (omega arith) (omega arith) (simp length-set (omega arith))
      ∙ get_or-set_other L j (q + 4) (get_or L (j + 4) 0) 0 (λ e. omega arith)
]

module _ (L : List ℕ) (t : ℕ) where
  found_from_lem : (i m : ℕ) → i ≤ found_from L t i m
  unfolding found_from
  found_from_lem i zero = omega arith
  found_from_lem i (suc m) = let h = found_from_lem (suc i) m in by_bool (eqb (ticket_at L i) t) (λ y. rw y (omega arith)) (λ n. rw n (omega arith))

  -- the answers without the first of them under the ticket, which stands at place i + k
  dropped_at : (i k m : ℕ) → k < m → found_from L t i m ≡ i + k
      → dropped t (places (outcome_at L) L i m) ≡ places (outcome_at L) L i k ++ places (outcome_at L) L (suc (i + k)) (m - suc k)
  unfolding dropped places found_from
  dropped_at i k zero h e = absurd (omega arith)
  dropped_at i zero (suc m) h e = by_bool (eqb (ticket_at L i) t)
      (λ y.
      let a : suc m - 1 ≡ m = omega arith in
      let b : i + 0 ≡ i = omega arith in
      rw (y, a, b) refl)
      (λ n. let f = rw n at e in absurd (omega (arith, found_from_lem (suc i) m)))
  dropped_at i (suc k) (suc m) h e = by_bool (eqb (ticket_at L i) t)
      (λ y. let f = rw y at e in absurd (omega arith))
      (λ n.
      let f = rw n at e in
      let a : suc m - suc (suc k) ≡ m - suc k = omega arith in
      let b : suc (i + suc k) ≡ suc (suc i + k) = omega arith in
      rw (n, a, b) (ap (λ (us : List (Under Outcome)). record { ticket = ticket_at L i; item = outcome_at L i } ∷ us)
      (dropped_at (suc i) k m (omega arith) (omega arith))))

  -- no answer is under it
  dropped_none : (i m : ℕ) → i + m ≤ found_from L t i m → dropped t (places (outcome_at L) L i m) ≡ places (outcome_at L) L i m
  unfolding dropped places found_from
  dropped_none i zero h = refl
  dropped_none i (suc m) h = by_bool (eqb (ticket_at L i) t)
      (λ y. let f = rw y at h in absurd (omega arith))
      (λ n.
      let f = rw n at h in
      rw n (ap (λ (us : List (Under Outcome)). record { ticket = ticket_at L i; item = outcome_at L i } ∷ us) (dropped_none (suc i) m (omega arith))))

  -- a search over more places
  found_more : (i m n : ℕ) → found_from L t i (m + n) ≡ cond (ltb (found_from L t i m) (i + m)) (found_from L t i m) (found_from L t (i + m) n)
  unfolding found_from
  found_more i zero n =
      let a : 0 + n ≡ n = omega arith in
      let b : i + 0 ≡ i = omega arith in
      rw (a, b, le-ltb i i (omega arith)) refl
  found_more i (suc m) n =
      let a : suc m + n ≡ suc (m + n) = omega arith in
      let b : i + suc m ≡ suc i + m = omega arith in
      by_bool (eqb (ticket_at L i) t)
      (λ y. rw (a, y, b, lt-ltb i (suc i + m) (omega arith)) refl)
      (λ y. rw (a, y, b) (found_more (suc i) m n))

  answer_hit : (i m : ℕ) (other : Fetching) → found_from L t i m < i + m
      → answer_under t (places (outcome_at L) L i m) other ≡ answer_of (outcome_at L (found_from L t i m))
  unfolding answer_under places found_from
  answer_hit i zero other h = absurd (omega arith)
  answer_hit i (suc m) other h = by_bool (eqb (ticket_at L i) t)
      (λ y. rw y refl)
      (λ n. let f = rw n at h in rw n (answer_hit (suc i) m other (omega arith)))

  answer_missed : (i m : ℕ) (other : Fetching) → i + m ≤ found_from L t i m → answer_under t (places (outcome_at L) L i m) other ≡ other
  unfolding answer_under places found_from
  answer_missed i zero other h = refl
  answer_missed i (suc m) other h = by_bool (eqb (ticket_at L i) t)
      (λ y. let f = rw y at h in absurd (omega arith))
      (λ n. let f = rw n at h in rw n (answer_missed (suc i) m other (omega arith)))

  order_hit : (i m : ℕ) → found_from L t i m < i + m → order_under t (places (order_at L) L i m) ≡ Err (unfetched.Waits t)
  unfolding order_under places found_from
  order_hit i zero h = absurd (omega arith)
  order_hit i (suc m) h = by_bool (eqb (ticket_at L i) t)
      (λ y. rw y refl)
      (λ n. let f = rw n at h in rw n (order_hit (suc i) m (omega arith)))

  order_missed : (i m : ℕ) → i + m ≤ found_from L t i m → order_under t (places (order_at L) L i m) ≡ Err unfetched.Unknown
  unfolding order_under places found_from
  order_missed i zero h = refl
  order_missed i (suc m) h = by_bool (eqb (ticket_at L i) t)
      (λ y. let f = rw y at h in absurd (omega arith))
      (λ n. let f = rw n at h in rw n (order_missed (suc i) m (omega arith)))

  -- the ticket's place is among the answers, or it is the orders that are searched
  its_answer : place_of L t < answers_in L → found_from L t 0 (answers_in L) ≡ place_of L t
  unfolding place_of
  its_answer h =
      let m = found_more 0 (answers_in L) (orders_in L) in
      elim (dec_lt (found_from L t 0 (answers_in L)) (0 + answers_in L)) [
        | yes l ↦ sym (rw (lt-ltb (found_from L t 0 (answers_in L)) (0 + answers_in L) l) at m)
        | no l ↦
            let f = rw (le-ltb (found_from L t 0 (answers_in L)) (0 + answers_in L) (omega arith)) at m in
            absurd (omega (arith, found_from_lem (0 + answers_in L) (orders_in L)))
      ]

  its_order : answers_in L ≤ place_of L t → (0 + answers_in L ≤ found_from L t 0 (answers_in L)) × (place_of L t ≡ found_from L t (0 + answers_in L) (orders_in L))
  unfolding place_of
  its_order h =
      let m = found_more 0 (answers_in L) (orders_in L) in
      elim (dec_lt (found_from L t 0 (answers_in L)) (0 + answers_in L)) [
        | yes l ↦ let f = rw (lt-ltb (found_from L t 0 (answers_in L)) (0 + answers_in L) l) at m in absurd (omega arith)
        | no l ↦ (omega arith, rw (le-ltb (found_from L t 0 (answers_in L)) (0 + answers_in L) (omega arith)) at m)
      ]

  pub fetch_tells : 259 ≤ length L → fetched L t ≡ told (meaning L) t
  unfolding found meaning
  fetch_tells long = rw (le-ltb (length L) 259 long)
      (by_bool (eqb t 0)
      (λ z. rw z refl)
      (λ z. elim (dec_lt (place_of L t) (answers_in L)) [
        | yes l ↦
            let e = its_answer l in
            rw (z, lt-ltb (place_of L t) (answers_in L) l, answer_hit 0 (answers_in L) (order_under t (places (order_at L) L (answers_in L) (orders_in L))) (omega arith), e) refl
        | no l ↦
            let e = its_order (omega arith) in
            let y : 0 + answers_in L ≡ answers_in L = omega arith in
            let f : place_of L t ≡ found_from L t (answers_in L) (orders_in L) = rw y at e.1 in
            elim (dec_lt (place_of L t) (places_in L)) [
              | yes h ↦
                  rw (z, le-ltb (place_of L t) (answers_in L) (omega arith), lt-ltb (place_of L t) (places_in L) h, answer_missed 0 (answers_in L) (order_under t (places (order_at L) L (answers_in L) (orders_in L))) e.0, order_hit (answers_in L) (orders_in L) (omega arith)) refl
              | no h ↦
                  rw (z, le-ltb (place_of L t) (answers_in L) (omega arith), le-ltb (place_of L t) (places_in L) (omega arith), answer_missed 0 (answers_in L) (order_under t (places (order_at L) L (answers_in L) (orders_in L))) e.0, order_missed (answers_in L) (orders_in L) (omega arith)) refl
            ]
      ]))

module _ (L : List ℕ) (i : ℕ) (long : 259 ≤ length L) (below : i < answers_in L) where
  -- the numbers before they are counted anew
  moved : List ℕ
  moved = lowered L (3 + 4 * i) (4 * (places_in L - (i + 1)))

  moved_long : length moved ≡ length L
  unfolding moved
  moved_long = lowered_length L (3 + 4 * i) (4 * (places_in L - (i + 1)))

  moved_before : (k : ℕ) → k < i → Alike moved k L k
  unfolding moved
  moved_before k h = same_numbers moved L k (λ q a b. lowered_before L (3 + 4 * i) (4 * (places_in L - (i + 1))) q (omega arith))

  moved_after : (k : ℕ) → i ≤ k → k + 1 < places_in L → Alike moved k L (suc k)
  unfolding moved
  moved_after k h m =
      let p = places_most L in
      next_numbers moved L k (λ q a b. lowered_within L (3 + 4 * i) (4 * (places_in L - (i + 1))) q (omega arith) (omega arith) (omega arith))

  without_means : (t : ℕ) → found_from L t 0 (answers_in L) ≡ i
      → meaning (without_place L i) ≡ record { last = last_ticket L; answers = dropped t (places (outcome_at L) L 0 (answers_in L)); orders = places (order_at L) L (answers_in L) (orders_in L) }
  unfolding without_place moved
  without_means t e =
      let p = places_most L in
      let l = moved_long in
      let x : answers_in L - 1 ≡ i + (answers_in L - suc i) = omega arith in
      let y : 0 + i ≡ i = omega arith in
      let rest : places (outcome_at moved) moved (0 + i) (answers_in L - suc i) ≡ places (outcome_at L) L (suc (0 + i)) (answers_in L - suc i) =
      places_same (outcome_at moved) (outcome_at L) moved L (0 + i) (suc (0 + i)) (answers_in L - suc i) (λ k h.
      let z : suc (0 + i) + k ≡ suc (0 + i + k) = omega arith in
      rw z (alike_outcome (moved_after (0 + i + k) (omega arith) (omega arith)))) in
      let firsts : places (outcome_at moved) moved 0 (answers_in L - 1) ≡ dropped t (places (outcome_at L) L 0 (answers_in L)) =
      rw (
        x,
        places_more (outcome_at moved) moved 0 i (answers_in L - suc i),
        places_same (outcome_at moved) (outcome_at L) moved L 0 0 i (λ k h. alike_outcome (moved_before (0 + k) (omega arith))),
        rest,
      ) (sym (dropped_at L t 0 i (answers_in L) below (e ∙ sym y))) in
      let waits : places (order_at moved) moved (answers_in L - 1) (orders_in L) ≡ places (order_at L) L (answers_in L) (orders_in L) =
      places_same (order_at moved) (order_at L) moved L (answers_in L - 1) (answers_in L) (orders_in L) (λ k h.
      let z : answers_in L + k ≡ suc (answers_in L - 1 + k) = omega arith in
      rw z (alike_order (moved_after (answers_in L - 1 + k) (omega arith) (omega arith)))) in
      counted_means moved (answers_in L - 1) (orders_in L) (omega arith) (omega arith)
      ∙ rw (lowered_before L (3 + 4 * i) (4 * (places_in L - (i + 1))) 0 (omega arith), firsts, waits) refl

module _ (L : List ℕ) (t : ℕ) (long : 259 ≤ length L) where
  pub fetch_means : meaning (fetched_list L t) ≡ without_answer (meaning L) t
  unfolding found meaning
  fetch_means = rw (le-ltb (length L) 259 long)
      (by_bool (eqb t 0)
      (λ z. rw z refl)
      (λ z. elim (dec_lt (place_of L t) (answers_in L)) [
        | yes l ↦
            rw (z, lt-ltb (place_of L t) (answers_in L) l) (without_means L (place_of L t) long l t (its_answer L t l))
        | no l ↦
            let n = dropped_none L t 0 (answers_in L) (its_order L t (omega arith)).0 in
            elim (dec_lt (place_of L t) (places_in L)) [
              | yes h ↦ rw (z, le-ltb (place_of L t) (answers_in L) (omega arith), lt-ltb (place_of L t) (places_in L) h, n) refl
              | no h ↦ rw (z, le-ltb (place_of L t) (answers_in L) (omega arith), le-ltb (place_of L t) (places_in L) (omega arith), n) refl
            ]
      ]))

-- ---- the list is emptied

pub empty_means : (L : List ℕ) → 259 ≤ length L → meaning (emptied L) ≡ with_nothing (meaning L)
unfolding emptied meaning places
empty_means L long = counted_means L 0 0 long (omega arith)
