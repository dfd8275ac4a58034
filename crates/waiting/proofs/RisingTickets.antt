-- Rising tickets: where an order or an answer stands in a list's meaning, and what each step makes of it. Assumes nothing.
use mathlib.Core.Path.{◌≡◌, refl, sym, ap, ap₂, subst, ◌∙◌}
use mathlib.Core.Bool.{cond}
use mathlib.Core.List.{List, [], ◌∷◌, ◌++◌, map, append-nil, append_assoc}
use Prim.Native.Nat.{ℕ, suc, ◌+◌, ◌≤◌, ◌<◌}
use native.Mathlib.Omega.{arith}
use lib.Dec.{eqb}
use lib.ListN.{length}
use borrow.Author.Tests.{ne_eqb, eq-eqb, eqb-true, eqb-false}
use Rattle.std.proofs.lemmas.List.{map-append, length-map}
use Rattle.general.proofs.Laws.{by_bool}
use Rattle.waiting.specs.declared.Order.{Order}
use Rattle.waiting.specs.declared.Outcome.{Outcome}
use Rattle.waiting.specs.Types.{Fetching}
use Rattle.waiting.specs.declared.Unfetched.TheVariants as unfetched
use Rattle.std.specs.Prelude.{Err}
use Rattle.waiting.specs.Layout.{answer_of}
use Rattle.waiting.specs.Carrying.{carried_all, outcomes}
use Rattle.waiting.specs.Meaning.{Under, Meaning, with_order, each, with_answers, dropped, without_answer, with_nothing, order_under, answer_under, told, Rising, tickets, Orderly}
use Rattle.waiting.specs.Fates.{Fate, Waits, Answered, Gone, fetched_of, ran, handed_out}

-- ---- lists

pub tickets_append : {A : Type 0} (xs ys : List (Under A)) → tickets (xs ++ ys) ≡ tickets xs ++ tickets ys
tickets_append xs ys = map-append (λ u. u.ticket) xs ys

-- ---- tickets that rise

-- t is not among tickets
unfoldable pub Absent : ℕ → List ℕ → Type 0
Absent t [] = Unit {0}
Absent t (u ∷ us) = (u ≡ t → ⊥) × Absent t us

absent_both : (t : ℕ) (xs ys : List ℕ) → Absent t (xs ++ ys) → Absent t xs × Absent t ys
unfolding Absent
absent_both t [] ys a = (tt, a)
absent_both t (x ∷ xs) ys a = let b = absent_both t xs ys a.1 in ((a.0, b.0), b.1)

both_absent : (t : ℕ) (xs ys : List ℕ) → Absent t xs → Absent t ys → Absent t (xs ++ ys)
unfolding Absent
both_absent t [] ys a b = b
both_absent t (x ∷ xs) ys a b = (a.0, both_absent t xs ys a.1 b)

absent_one : (t u : ℕ) → (u ≡ t → ⊥) → Absent t (u ∷ [])
unfolding Absent
absent_one t u n = (n, tt)

rising_le : (n : ℕ) (ts : List ℕ) (z : ℕ) → Rising n ts z → n ≤ z
unfolding Rising
rising_le n [] z r = r
rising_le n (t ∷ ts) z r = let h = rising_le t ts z r.1 in let l = r.0 in omega arith

rising_absent : (n : ℕ) (ts : List ℕ) (z t : ℕ) → Rising n ts z → t ≤ n → Absent t ts
unfolding Rising Absent
rising_absent n [] z t r h = tt
rising_absent n (u ∷ ts) z t r h = let l = r.0 in ((λ e. omega arith), rising_absent u ts z t r.1 (omega arith))

-- one of them: it is between the bounds, and no other is equal to it
pub record Among (n : ℕ) (xs : List ℕ) (t : ℕ) (ys : List ℕ) (z : ℕ) : Type 0 where
  pub above : n < t
  pub below : t ≤ z
  pub before : Absent t xs
  pub behind : Absent t ys

pub among : (n : ℕ) (xs : List ℕ) (t : ℕ) (ys : List ℕ) (z : ℕ) → Rising n (xs ++ (t ∷ ys)) z → Among n xs t ys z
unfolding Rising Absent
among n [] t ys z r = record { above = r.0; below = rising_le t ys z r.1; before = tt; behind = rising_absent t ys z t r.1 (omega arith) }
among n (x ∷ xs) t ys z r =
    let a = among x xs t ys z r.1 in
    let l = r.0 in
    let m = a.above in
    record { above = omega arith; below = a.below; before = ((λ e. omega arith), a.before); behind = a.behind }

rising_more : (n : ℕ) (ts : List ℕ) (z : ℕ) → Rising n ts z → Rising n (ts ++ ((z + 1) ∷ [])) (z + 1)
unfolding Rising
rising_more n [] z r = (omega arith, omega arith)
rising_more n (t ∷ ts) z r = (r.0, rising_more t ts z r.1)

-- from a lower number, they rise too
rising_lower : (n m : ℕ) (ts : List ℕ) (z : ℕ) → n ≤ m → Rising m ts z → Rising n ts z
unfolding Rising
rising_lower n m [] z h r = omega arith
rising_lower n m (t ∷ ts) z h r = let l = r.0 in (omega arith, r.1)

-- ---- orderly lists stay orderly

pub take_orderly : (M : Meaning) (o : Order) → Orderly M → Orderly (with_order M o)
take_orderly M o r =
    let x : Under Order = record { ticket = M.last + 1; item = o } in
    rw (tickets_append M.orders (x ∷ []), sym (append_assoc (tickets M.answers) (tickets M.orders) (tickets (x ∷ []))))
    (rising_more 0 (tickets M.answers ++ tickets M.orders) M.last r)

each_tickets : (os : List (Under Order)) (rs : List Outcome) → length rs ≡ length os → tickets (each os rs) ≡ tickets os
unfolding each
each_tickets [] rs e = refl
each_tickets (o ∷ os) [] e = absurd (omega arith)
each_tickets (o ∷ os) (r ∷ rs) e = ap (λ (ts : List ℕ). o.ticket ∷ ts) (each_tickets os rs (omega arith))

run_tickets : (M : Meaning) (rs : List Outcome) → length rs ≡ length M.orders
    → tickets (with_answers M rs).answers ++ tickets (with_answers M rs).orders ≡ tickets M.answers ++ tickets M.orders
run_tickets M rs e = append-nil (tickets (M.answers ++ each M.orders rs))
    ∙ tickets_append M.answers (each M.orders rs)
    ∙ ap (λ (ts : List ℕ). tickets M.answers ++ ts) (each_tickets M.orders rs e)

pub run_orderly : (M : Meaning) (rs : List Outcome) → length rs ≡ length M.orders → Orderly M → Orderly (with_answers M rs)
run_orderly M rs e r = subst (λ (ts : List ℕ). Rising 0 ts M.last) (sym (run_tickets M rs e)) r

rising_dropped : (t n : ℕ) (rs : List (Under Outcome)) (ts : List ℕ) (z : ℕ) → Rising n (tickets rs ++ ts) z → Rising n (tickets (dropped t rs) ++ ts) z
unfolding dropped Rising
rising_dropped t n [] ts z h = h
rising_dropped t n (r ∷ rs) ts z h = by_bool (eqb r.ticket t)
    (λ y. rw y (let l = h.0 in rising_lower n r.ticket (tickets rs ++ ts) z (omega arith) h.1))
    (λ y. rw y (h.0, rising_dropped t r.ticket rs ts z h.1))

pub fetch_orderly : (M : Meaning) (t : ℕ) → Orderly M → Orderly (without_answer M t)
fetch_orderly M t r = by_bool (eqb t 0)
    (λ y. rw y r)
    (λ y. rw y (rising_dropped t 0 M.answers (tickets M.orders) M.last r))

pub empty_orderly : (M : Meaning) → Orderly (with_nothing M)
unfolding Rising
empty_orderly M = omega arith

-- ---- where one order and its answer stand

-- It waits behind the orders `ahead`.
pub record WaitsIn (t : ℕ) (o : Order) (ahead : List Order) (M : Meaning) : Type 0 where
  pub before : List (Under Order)
  pub behind : List (Under Order)
  pub split : M.orders ≡ before ++ (record { ticket = t; item = o } ∷ behind)
  pub order : map (λ u. u.item) before ≡ ahead

pub record AnsweredIn (t : ℕ) (r : Outcome) (M : Meaning) : Type 0 where
  pub before : List (Under Outcome)
  pub behind : List (Under Outcome)
  pub split : M.answers ≡ before ++ (record { ticket = t; item = r } ∷ behind)

pub record GoneIn (t : ℕ) (M : Meaning) : Type 0 where
  pub past : t ≤ M.last
  pub absent : Absent t (tickets M.answers ++ tickets M.orders)

abbrev pub StandsIn : ℕ → Order → List Order → Fate → Meaning → Type 0
StandsIn t o ahead Waits M = WaitsIn t o ahead M
StandsIn t o ahead (Answered r) M = AnsweredIn t r M
StandsIn t o ahead Gone M = GoneIn t M

module _ (t : ℕ) (o : Order) (ahead : List Order) (M : Meaning) (orderly : Orderly M) where
  waits_among : (w : WaitsIn t o ahead M) → Among 0 (tickets M.answers ++ tickets w.before) t (tickets w.behind) M.last
  waits_among w =
      let x : Under Order = record { ticket = t; item = o } in
      let e : tickets M.answers ++ tickets M.orders ≡ (tickets M.answers ++ tickets w.before) ++ (t ∷ tickets w.behind) =
      ap (λ (os : List (Under Order)). tickets M.answers ++ tickets os) w.split
      ∙ ap (λ (ts : List ℕ). tickets M.answers ++ ts) (tickets_append w.before (x ∷ w.behind))
      ∙ sym (append_assoc (tickets M.answers) (tickets w.before) (t ∷ tickets w.behind)) in
      among 0 (tickets M.answers ++ tickets w.before) t (tickets w.behind) M.last (subst (λ (ts : List ℕ). Rising 0 ts M.last) e orderly)

  answered_among : (r : Outcome) (a : AnsweredIn t r M) → Among 0 (tickets a.before) t (tickets a.behind ++ tickets M.orders) M.last
  answered_among r a =
      let x : Under Outcome = record { ticket = t; item = r } in
      let e : tickets M.answers ++ tickets M.orders ≡ tickets a.before ++ (t ∷ (tickets a.behind ++ tickets M.orders)) =
      ap (λ (rs : List (Under Outcome)). tickets rs ++ tickets M.orders) a.split
      ∙ ap (λ (ts : List ℕ). ts ++ tickets M.orders) (tickets_append a.before (x ∷ a.behind))
      ∙ append_assoc (tickets a.before) (t ∷ tickets a.behind) (tickets M.orders) in
      among 0 (tickets a.before) t (tickets a.behind ++ tickets M.orders) M.last (subst (λ (ts : List ℕ). Rising 0 ts M.last) e orderly)

-- ---- what a fetch of the ticket says

answer_absent : (t : ℕ) (rs : List (Under Outcome)) (other : Fetching) → Absent t (tickets rs) → answer_under t rs other ≡ other
unfolding answer_under Absent
answer_absent t [] other a = refl
answer_absent t (r ∷ rs) other a = rw (ne_eqb r.ticket t a.0) (answer_absent t rs other a.1)

order_absent : (t : ℕ) (os : List (Under Order)) → Absent t (tickets os) → order_under t os ≡ Err unfetched.Unknown
unfolding order_under Absent
order_absent t [] a = refl
order_absent t (o ∷ os) a = rw (ne_eqb o.ticket t a.0) (order_absent t os a.1)

order_there : (t : ℕ) (o : Order) (xs ys : List (Under Order)) → order_under t (xs ++ (record { ticket = t; item = o } ∷ ys)) ≡ Err (unfetched.Waits t)
unfolding order_under
order_there t o [] ys = rw (eq-eqb t t refl) refl
order_there t o (x ∷ xs) ys = by_bool (eqb x.ticket t) (λ y. rw y refl) (λ y. rw y (order_there t o xs ys))

answer_there : (t : ℕ) (r : Outcome) (xs ys : List (Under Outcome)) (other : Fetching) → Absent t (tickets xs)
    → answer_under t (xs ++ (record { ticket = t; item = r } ∷ ys)) other ≡ answer_of r
unfolding answer_under Absent
answer_there t r [] ys other a = rw (eq-eqb t t refl) refl
answer_there t r (x ∷ xs) ys other a = rw (ne_eqb x.ticket t a.0) (answer_there t r xs ys other a.1)

pub told_stands : (t : ℕ) (o : Order) (ahead : List Order) (φ : Fate) (M : Meaning) → Orderly M → StandsIn t o ahead φ M → told M t ≡ fetched_of t φ
told_stands t o ahead Waits M orderly w =
    let a = waits_among t o ahead M orderly w in
    let l = a.above in
    let b = absent_both t (tickets M.answers) (tickets w.before) a.before in
    rw (ne_eqb t 0 (λ e. omega arith), answer_absent t M.answers (order_under t M.orders) b.0, w.split) (order_there t o w.before w.behind)
told_stands t o ahead (Answered r) M orderly w =
    let a = answered_among t o ahead M orderly r w in
    let l = a.above in
    rw (ne_eqb t 0 (λ e. omega arith), w.split) (answer_there t r w.before w.behind (order_under t M.orders) a.before)
told_stands t o ahead Gone M orderly g =
    let b = absent_both t (tickets M.answers) (tickets M.orders) g.absent in
    by_bool (eqb t 0)
    (λ z. rw z refl)
    (λ z. rw (z, answer_absent t M.answers (order_under t M.orders) b.0, order_absent t M.orders b.1) refl)

-- ---- what each step makes of it

pub taken_stands : (M : Meaning) (o : Order) → StandsIn (M.last + 1) o (map (λ u. u.item) M.orders) Waits (with_order M o)
taken_stands M o = record { before = M.orders; behind = []; split = refl; order = refl }

pub take_stands : (t : ℕ) (o : Order) (ahead : List Order) (φ : Fate) (M : Meaning) (p : Order) → StandsIn t o ahead φ M → StandsIn t o ahead φ (with_order M p)
take_stands t o ahead Waits M p w =
    let x : Under Order = record { ticket = t; item = o } in
    let y : Under Order = record { ticket = M.last + 1; item = p } in
    record {
      before = w.before;
      behind = w.behind ++ (y ∷ []);
      split = ap (λ (os : List (Under Order)). os ++ (y ∷ [])) w.split ∙ append_assoc w.before (x ∷ w.behind) (y ∷ []);
      order = w.order;
    }
take_stands t o ahead (Answered r) M p w = record { before = w.before; behind = w.behind; split = w.split }
take_stands t o ahead Gone M p g =
    let y : Under Order = record { ticket = M.last + 1; item = p } in
    let h = g.past in
    record {
      past = omega arith;
      absent = rw (tickets_append M.orders (y ∷ []), sym (append_assoc (tickets M.answers) (tickets M.orders) (tickets (y ∷ []))))
          (both_absent t (tickets M.answers ++ tickets M.orders) (tickets (y ∷ [])) g.absent (absent_one t (M.last + 1) (λ e. omega arith)));
    }

-- a run: the order is carried out once those ahead of it are

pub outcomes_length : {S : Type 0} (does : Order → S → S) (says : Order → S → Outcome) (s : S) (os : List Order) → length (outcomes does says s os) ≡ length os
unfolding outcomes
outcomes_length does says s [] = refl
outcomes_length does says s (o ∷ os) = ap suc (outcomes_length does says (does o s) os)

pub outcomes_append : {S : Type 0} (does : Order → S → S) (says : Order → S → Outcome) (s : S) (xs ys : List Order)
    → outcomes does says s (xs ++ ys) ≡ outcomes does says s xs ++ outcomes does says (carried_all does s xs) ys
unfolding outcomes carried_all
outcomes_append does says s [] ys = refl
outcomes_append does says s (x ∷ xs) ys = ap (λ (rs : List Outcome). says x s ∷ rs) (outcomes_append does says (does x s) xs ys)

each_append : (xs : List (Under Order)) (x : Under Order) (ys : List (Under Order)) (rs : List Outcome) (r : Outcome) (ss : List Outcome) → length rs ≡ length xs
    → each (xs ++ (x ∷ ys)) (rs ++ (r ∷ ss)) ≡ each xs rs ++ (record { ticket = x.ticket; item = r } ∷ each ys ss)
unfolding each
each_append [] x ys [] r ss e = refl
each_append [] x ys (q ∷ rs) r ss e = absurd (omega arith)
each_append (y ∷ xs) x ys [] r ss e = absurd (omega arith)
each_append (y ∷ xs) x ys (q ∷ rs) r ss e =
    ap (λ (us : List (Under Outcome)). record { ticket = y.ticket; item = q } ∷ us) (each_append xs x ys rs r ss (omega arith))

module _ {S : Type 0} (does : Order → S → S) (says : Order → S → Outcome) (s : S) where
  -- the answers that a run gives
  abbrev pub ran_answers : Meaning → List Outcome
  ran_answers M = outcomes does says s (map (λ u. u.item) M.orders)

  pub ran_length : (M : Meaning) → length (ran_answers M) ≡ length M.orders
  ran_length M = outcomes_length does says s (map (λ u. u.item) M.orders) ∙ length-map M.orders (λ u. u.item)

  pub run_stands : (t : ℕ) (o : Order) (ahead : List Order) (φ : Fate) (M : Meaning) → StandsIn t o ahead φ M
      → StandsIn t o ahead (ran (says o (carried_all does s ahead)) φ) (with_answers M (ran_answers M))
  unfolding outcomes
  run_stands t o ahead Waits M w =
      let x : Under Order = record { ticket = t; item = o } in
      let later : List Outcome = outcomes does says (does o (carried_all does s ahead)) (map (λ u. u.item) w.behind) in
      let early : List Outcome = outcomes does says s ahead in
      let items : map (λ u. u.item) M.orders ≡ ahead ++ (o ∷ map (λ u. u.item) w.behind) =
      ap (λ (os : List (Under Order)). map (λ u. u.item) os) w.split
      ∙ map-append (λ u. u.item) w.before (x ∷ w.behind)
      ∙ ap (λ (os : List Order). os ++ (o ∷ map (λ u. u.item) w.behind)) w.order in
      let rs : ran_answers M ≡ early ++ (says o (carried_all does s ahead) ∷ later) =
      ap (outcomes does says s) items ∙ outcomes_append does says s ahead (o ∷ map (λ u. u.item) w.behind) in
      let many : length early ≡ length w.before =
      outcomes_length does says s ahead ∙ ap length (sym w.order) ∙ length-map w.before (λ u. u.item) in
      record {
        before = M.answers ++ each w.before early;
        behind = each w.behind later;
        split = ap₂ (λ (os : List (Under Order)) (qs : List Outcome). M.answers ++ each os qs) w.split rs
            ∙ ap (λ (us : List (Under Outcome)). M.answers ++ us) (each_append w.before x w.behind early (says o (carried_all does s ahead)) later many)
            ∙ sym (append_assoc M.answers (each w.before early) (record { ticket = t; item = says o (carried_all does s ahead) } ∷ each w.behind later));
      }
  run_stands t o ahead (Answered r) M w = record {
    before = w.before;
    behind = w.behind ++ each M.orders (ran_answers M);
    split = ap (λ (us : List (Under Outcome)). us ++ each M.orders (ran_answers M)) w.split
        ∙ append_assoc w.before (record { ticket = t; item = r } ∷ w.behind) (each M.orders (ran_answers M));
  }
  run_stands t o ahead Gone M g = record { past = g.past; absent = subst (Absent t) (sym (run_tickets M (ran_answers M) (ran_length M))) g.absent }

-- a fetch of any ticket

dropped_other : (u t : ℕ) (r : Outcome) (xs ys : List (Under Outcome)) → (u ≡ t → ⊥)
    → (vs : List (Under Outcome)) × (ws : List (Under Outcome)) × (dropped u (xs ++ (record { ticket = t; item = r } ∷ ys)) ≡ vs ++ (record { ticket = t; item = r } ∷ ws))
unfolding dropped
dropped_other u t r [] ys n = ([], dropped u ys, rw (ne_eqb t u (λ e. n (sym e))) refl)
dropped_other u t r (x ∷ xs) ys n = by_bool (eqb x.ticket u)
    (λ y. (xs, ys, rw y refl))
    (λ y.
    let d = dropped_other u t r xs ys n in
    (x ∷ d.0, d.1, rw y (ap (λ (us : List (Under Outcome)). x ∷ us) d.2)))

dropped_own : (t : ℕ) (r : Outcome) (xs ys : List (Under Outcome)) → Absent t (tickets xs) → dropped t (xs ++ (record { ticket = t; item = r } ∷ ys)) ≡ xs ++ ys
unfolding dropped Absent
dropped_own t r [] ys a = rw (eq-eqb t t refl) refl
dropped_own t r (x ∷ xs) ys a = rw (ne_eqb x.ticket t a.0) (ap (λ (us : List (Under Outcome)). x ∷ us) (dropped_own t r xs ys a.1))

absent_dropped : (u t : ℕ) (rs : List (Under Outcome)) → Absent t (tickets rs) → Absent t (tickets (dropped u rs))
unfolding dropped Absent
absent_dropped u t [] a = a
absent_dropped u t (r ∷ rs) a = by_bool (eqb r.ticket u) (λ y. rw y a.1) (λ y. rw y (a.0, absent_dropped u t rs a.1))

pub fetch_stands : (t : ℕ) (o : Order) (ahead : List Order) (φ : Fate) (M : Meaning) → Orderly M → (u : ℕ) → StandsIn t o ahead φ M
    → StandsIn t o ahead (cond (eqb u t) (handed_out φ) φ) (without_answer M u)
fetch_stands t o ahead Waits M orderly u w = by_bool (eqb u t)
    (λ y. rw y (record { before = w.before; behind = w.behind; split = w.split; order = w.order }))
    (λ y. rw y (record { before = w.before; behind = w.behind; split = w.split; order = w.order }))
fetch_stands t o ahead (Answered r) M orderly u w =
    let a = answered_among t o ahead M orderly r w in
    let l = a.above in
    by_bool (eqb u t)
    (λ y.
    let e = eqb-true u t y in
    let d : dropped t M.answers ≡ w.before ++ w.behind = rw w.split (dropped_own t r w.before w.behind a.before) in
    let b = absent_both t (tickets w.behind) (tickets M.orders) a.behind in
    rw (e, eq-eqb t t refl, ne_eqb t 0 (λ z. omega arith)) (record {
      past = a.below;
      absent = both_absent t (tickets (dropped t M.answers)) (tickets M.orders)
          (rw (d, tickets_append w.before w.behind) (both_absent t (tickets w.before) (tickets w.behind) a.before b.0)) b.1;
    }))
    (λ y. rw y (by_bool (eqb u 0)
    (λ z. rw z (record { before = w.before; behind = w.behind; split = w.split }))
    (λ z.
    let d = dropped_other u t r w.before w.behind (eqb-false u t y) in
    rw z (record { before = d.0; behind = d.1; split = ap (dropped u) w.split ∙ d.2 }))))
fetch_stands t o ahead Gone M orderly u g =
    let b = absent_both t (tickets M.answers) (tickets M.orders) g.absent in
    let kept : GoneIn t (without_answer M u) = by_bool (eqb u 0)
    (λ z. rw z (record { past = g.past; absent = g.absent }))
    (λ z. rw z (record { past = g.past; absent = both_absent t (tickets (dropped u M.answers)) (tickets M.orders) (absent_dropped u t M.answers b.0) b.1 })) in
    by_bool (eqb u t) (λ y. rw y kept) (λ y. rw y kept)

-- the list is emptied

pub empty_stands : (t : ℕ) (o : Order) (ahead : List Order) (φ : Fate) (M : Meaning) → Orderly M → StandsIn t o ahead φ M → StandsIn t o ahead Gone (with_nothing M)
unfolding Absent
empty_stands t o ahead Waits M orderly w = record { past = (waits_among t o ahead M orderly w).below; absent = tt }
empty_stands t o ahead (Answered r) M orderly w = record { past = (answered_among t o ahead M orderly r w).below; absent = tt }
empty_stands t o ahead Gone M orderly g = record { past = g.past; absent = tt }
