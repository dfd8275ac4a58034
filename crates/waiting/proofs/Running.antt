-- Orders carried out place by place, over any state: one place more, and what is left to do from there. Assumes nothing.
use mathlib.Core.Path.{◌≡◌, refl, ap₂, subst}
use mathlib.Core.List.{List, ◌∷◌}
use Prim.Native.Nat.{ℕ, zero, suc, ◌+◌, ◌-◌, ◌*◌, ◌≤◌, ◌<◌}
use native.Mathlib.Omega.{arith}
use Rattle.waiting.specs.declared.Order.{Order}
use Rattle.waiting.specs.declared.Outcome.{Outcome}
use Rattle.waiting.specs.Layout.{answers_in, orders_in, order_at, orders_from, waiting, counted, answered_at, answered_from, settled}
use Rattle.waiting.specs.Carrying.{carried_all, outcomes}
use Rattle.waiting.proofs.Meant.{answered_other}

-- an answer at a place leaves the later orders as they are
module _ (L : List ℕ) (i : ℕ) (r : Outcome) where
  order_kept : (j : ℕ) → i < j → order_at (answered_at L i r) j ≡ order_at L j
  unfolding order_at
  order_kept j l = rw (
    answered_other L i r (4 + 4 * j) (λ e. omega arith) (λ e. omega arith),
    answered_other L i r (5 + 4 * j) (λ e. omega arith) (λ e. omega arith),
    answered_other L i r (6 + 4 * j) (λ e. omega arith) (λ e. omega arith),
  ) refl

  orders_kept : (j m : ℕ) → i < j → orders_from (answered_at L i r) j m ≡ orders_from L j m
  unfolding orders_from
  orders_kept j zero l = refl
  orders_kept j (suc m) l = ap₂ (λ (o : Order) (os : List Order). o ∷ os) (order_kept j l) (orders_kept (suc j) m (omega arith))

module _ {S : Type 0} (does : Order → S → S) (says : Order → S → Outcome) where
  -- the state and the list once the m places from i on are carried out
  abbrev pub state_from : S → List ℕ → ℕ → ℕ → S
  state_from s L i m = carried_all does s (orders_from L i m)

  abbrev pub list_from : S → List ℕ → ℕ → ℕ → List ℕ
  list_from s L i m = answered_from L i (outcomes does says s (orders_from L i m))

  module _ (s : S) (L : List ℕ) (i n : ℕ) where
    -- one place more
    pub state_next : i < n
        → state_from (does (order_at L i) s) (answered_at L i (says (order_at L i) s)) (i + 1) (n - (i + 1)) ≡ state_from s L i (n - i)
    unfolding carried_all orders_from
    state_next l =
        let e : n - i ≡ suc (n - (i + 1)) = omega arith in
        let z : i + 1 ≡ suc i = omega arith in
        rw (orders_kept L i (says (order_at L i) s) (i + 1) (n - (i + 1)) (omega arith), e) (rw z refl)

    pub list_next : i < n
        → list_from (does (order_at L i) s) (answered_at L i (says (order_at L i) s)) (i + 1) (n - (i + 1)) ≡ list_from s L i (n - i)
    unfolding outcomes orders_from answered_from
    list_next l =
        let e : n - i ≡ suc (n - (i + 1)) = omega arith in
        let z : i + 1 ≡ suc i = omega arith in
        rw (orders_kept L i (says (order_at L i) s) (i + 1) (n - (i + 1)) (omega arith), e) (rw z refl)

    -- none left
    pub state_none : n ≤ i → state_from s L i (n - i) ≡ s
    unfolding carried_all orders_from
    state_none l = let e : n - i ≡ 0 = omega arith in rw e refl

    pub list_none : n ≤ i → list_from s L i (n - i) ≡ L
    unfolding outcomes orders_from answered_from
    list_none l = let e : n - i ≡ 0 = omega arith in rw e refl

  -- one place more, at the end
  pub state_more : (s : S) (L : List ℕ) (i m : ℕ) → does (order_at (list_from s L i m) (i + m)) (state_from s L i m) ≡ state_from s L i (suc m)
  unfolding carried_all outcomes orders_from answered_from
  state_more s L i zero = let z : i + 0 ≡ i = omega arith in rw z refl
  state_more s L i (suc m) =
      let z : i + suc m ≡ suc i + m = omega arith in
      let k = orders_kept L i (says (order_at L i) s) (suc i) in
      let e = state_more (does (order_at L i) s) (answered_at L i (says (order_at L i) s)) (suc i) m in
      rw z (rw (k m (omega arith), k (suc m) (omega arith)) at e)

  pub list_more : (s : S) (L : List ℕ) (i m : ℕ)
      → let o = order_at (list_from s L i m) (i + m) in
      answered_at (list_from s L i m) (i + m) (says o (state_from s L i m)) ≡ list_from s L i (suc m)
  unfolding carried_all outcomes orders_from answered_from
  list_more s L i zero = let z : i + 0 ≡ i = omega arith in rw z refl
  list_more s L i (suc m) =
      let z : i + suc m ≡ suc i + m = omega arith in
      let k = orders_kept L i (says (order_at L i) s) (suc i) in
      let s' = does (order_at L i) s in
      let L' = answered_at L i (says (order_at L i) s) in
      let ran = answered_from L' (suc i) (outcomes does says s' (orders_from L (suc i) m)) in
      rw z
      (subst (λ (os : List Order). answered_at ran (suc i + m) (says (order_at ran (suc i + m)) (carried_all does s' (orders_from L (suc i) m)))
      ≡ answered_from L' (suc i) (outcomes does says s' os)) (k (suc m) (omega arith)) (rw (k m (omega arith)) at (list_more s' L' (suc i) m)))

  -- all of them, by the counts that the code has
  module _ (s : S) (L : List ℕ) (a w : ℕ) (ea : a ≡ answers_in L) (ew : w ≡ orders_in L) where
    pub state_all : state_from s L a (a + w - a) ≡ carried_all does s (waiting L)
    unfolding waiting
    state_all = let z : a + w - a ≡ w = omega arith in rw (z, ea, ew) refl

    pub list_all : counted (list_from s L a (a + w - a)) (a + w) 0 ≡ settled L (outcomes does says s (waiting L))
    unfolding settled waiting
    list_all = let z : a + w - a ≡ w = omega arith in rw (z, ea, ew) refl
