-- The table of r has for each stream what its over-allocated add asked for, and 0 for a stream that is not over-allocated, whatever orders are carried out.
-- Assumes nothing.
use mathlib.Core.Path.{◌≡◌, refl, sym, ap, ◌∙◌}
use mathlib.Core.Bool.{true, false, cond}
use mathlib.Core.List.{List, [], ◌∷◌}
use Prim.Native.Nat.{ℕ, ◌≤◌, ◌<◌}
use native.Mathlib.Omega.{arith}
use native.Mathlib.Decide.{ℕ_discrete}
use lib.Dec.{eqb}
use lib.ListN.{length, get_or}
use lib.Seq.{get_or-set_same, get_or-set_other}
use borrow.Author.Tests.{eq-eqb, ne_eqb, eqb-true}
use Rattle.general.proofs.Laws.{by_bool}
use Rattle.pieces.specs.Board.{weight}
use Rattle.pieces.specs.Placing.{Placeable, placed}
use Rattle.pieces.specs.Tidying.{Removable, removed}
use Rattle.pieces.proofs.Laws.{placed_weight, placed_others, placed_leaf, removed_name, removed_others}
use Rattle.calls.specs.declared.Drive.{Drive}
use Rattle.std.specs.Prelude.{Ok}
use Rattle.calls.specs.Refusals.{number_of, add_check, remove_check}
use Rattle.calls.specs.Answers.{Answer, answered}
use Rattle.calls.proofs.Laws.{number_some, add_clear, add_weight, remove_clear}
use Rattle.tables.specs.Sharing.{held_for, lowest, rates_fit}
use Rattle.tables.specs.Settling.{settled_table, rated_table}
use Rattle.tables.proofs.Laws.{lowest_name, lowest_held, rated_at, placed_fits, new_below, new_name, new_rate, settled_moves, fits_parts}
use Rattle.waiting.specs.declared.Order.{Order}
use Rattle.waiting.specs.Carrying.{carried_all}
use Rattle.orders.specs.Results.{carried_answer, carried_board}
use Rattle.shares.specs.States.{BoardTables}
use Rattle.shares.specs.Results.{board_order, table_after, rates_after, carried_rates, carried_state, doing}
use Rattle.shared_demands.specs.Holding.{asked_by, asked_all}
use Rattle.shared_demands.proofs.Checking.{by_check}
use Rattle.shared_demands.proofs.Fitting.{Tabled, carried_tabled}

-- r of the name x, and 0 where no leaf holds it.
abbrev pub rate_in : ℕ → List ℕ → List ℕ → ℕ → ℕ
rate_in C B T x = cond (eqb (weight C B x) 0) 0 (get_or T (lowest C B x) 0)

-- g has r of every name.
abbrev pub Rates : ℕ → List ℕ → List ℕ → (ℕ → ℕ) → Type 0
Rates C B T g = (x : ℕ) → (x ≡ 0 → ⊥) → g x ≡ rate_in C B T x

rate_absent : (C : ℕ) (B T : List ℕ) (x : ℕ) → weight C B x ≡ 0 → rate_in C B T x ≡ 0
rate_absent C B T x z = rw (eq-eqb (weight C B x) 0 z) refl

pub rate_held : (C : ℕ) (B T : List ℕ) (x : ℕ) → 0 < weight C B x → rate_in C B T x ≡ get_or T (lowest C B x) 0
rate_held C B T x h = rw (ne_eqb (weight C B x) 0 (λ e. omega arith)) refl

-- ---- a weight is placed

module _ (C : ℕ) (B T : List ℕ) (x w : ℕ) (may : Placeable C B x w) (some : 0 < w) (fit : rates_fit C B T ≡ true) (fit' : rates_fit C (placed C B x w) T ≡ true) where
  abbrev B' : List ℕ
  B' = placed C B x w

  -- the new stream has no r yet
  placed_own : rate_in C (placed C B x w) T x ≡ 0
  placed_own = rate_held C B' T x (omega (arith, placed_weight C B x w may)) ∙ new_rate C B T x w may fit some

  -- an r stands at the same leaf before and after
  stays : (y : ℕ) → (y ≡ 0 → ⊥) → 0 < weight C B y → 0 < weight C B' y → get_or T (lowest C B' y) 0 ≡ get_or T (lowest C B y) 0
  stays y named was is =
      let i = lowest C B y in
      let j = lowest C B' y in
      let hi = lowest_held B y C was in
      let hj = lowest_held B' y C is in
      elim (ℕ_discrete (get_or T i 0) 0) [
        | no n ↦
            let name : get_or B' i 0 ≡ y = placed_leaf C B x w may i (λ e. named (sym (lowest_name B y C hi) ∙ e)) ∙ lowest_name B y C hi in
            let r = rated_at C B' T fit' i hi n in
            ap (λ (k : ℕ). get_or T k 0) (sym (ap (lowest C B') name) ∙ r.low)
        | yes z ↦ elim (ℕ_discrete (get_or T j 0) 0) [
          | yes v ↦ v ∙ sym z
          | no n ↦
              let r = rated_at C B T fit j hj n in
              let name : get_or B j 0 ≡ y = sym (placed_leaf C B x w may j r.named) ∙ lowest_name B' y C hj in
              ap (λ (k : ℕ). get_or T k 0) (sym (sym (ap (lowest C B) name) ∙ r.low))
        ]
      ]

  placed_other : (y : ℕ) → (y ≡ 0 → ⊥) → (y ≡ x → ⊥) → rate_in C (placed C B x w) T y ≡ rate_in C B T y
  placed_other y named n =
      let same = placed_others C B x w may y named n in
      elim (ℕ_discrete (weight C B y) 0) [
        | yes z ↦ rate_absent C B' T y (same ∙ z) ∙ sym (rate_absent C B T y z)
        | no h ↦
            let was : 0 < weight C B y = omega arith in
            let is : 0 < weight C B' y = omega arith in
            rate_held C B' T y is ∙ stays y named was is ∙ sym (rate_held C B T y was)
      ]

  -- r entered for it
  module _ (r : ℕ) (long : C ≤ length T) where
    abbrev T' : List ℕ
    T' = rated_table C B' T x r

    rated_own : rate_in C (placed C B x w) (rated_table C (placed C B x w) T x r) x ≡ r
    unfolding rated_table
    rated_own = rate_held C B' T' x (omega (arith, placed_weight C B x w may)) ∙ get_or-set_same T (lowest C B' x) r 0 (omega (arith, new_below C B T x w may fit some))

    rated_other : (y : ℕ) → (y ≡ 0 → ⊥) → (y ≡ x → ⊥) → rate_in C (placed C B x w) (rated_table C (placed C B x w) T x r) y ≡ rate_in C B T y
    unfolding rated_table
    rated_other y named n =
        elim (ℕ_discrete (weight C B' y) 0) [
          | yes z ↦ rate_absent C B' T' y z ∙ sym (rate_absent C B T y (sym (placed_others C B x w may y named n) ∙ z))
          | no h ↦
              let is : 0 < weight C B' y = omega arith in
              let apart : lowest C B' y ≡ lowest C B' x → ⊥ = λ e. n (sym (lowest_name B' y C (lowest_held B' y C is)) ∙ ap (λ (k : ℕ). get_or B' k 0) e ∙ new_name C B T x w may fit some) in
              rate_held C B' T' y is ∙ get_or-set_other T (lowest C B' x) (lowest C B' y) r 0 apart ∙ sym (rate_held C B' T y is) ∙ placed_other y named n
        ]

-- ---- a stream is removed

module _ (C : ℕ) (B T : List ℕ) (x : ℕ) (may : Removable C B x) (long : C ≤ length T) where
  abbrev B'' : List ℕ
  B'' = removed C B x

  abbrev T'' : List ℕ
  T'' = settled_table C B B'' T

  removed_own : rate_in C (removed C B x) (settled_table C B (removed C B x) T) x ≡ 0
  removed_own = rate_absent C B'' T'' x (removed_name C B x may)

  removed_other : (y : ℕ) → (y ≡ 0 → ⊥) → (y ≡ x → ⊥) → rate_in C (removed C B x) (settled_table C B (removed C B x) T) y ≡ rate_in C B T y
  removed_other y named n =
      let same = removed_others C B x may y named n in
      elim (ℕ_discrete (weight C B y) 0) [
        | yes z ↦ rate_absent C B'' T'' y (same ∙ z) ∙ sym (rate_absent C B T y z)
        | no h ↦
            let was : 0 < weight C B y = omega arith in
            let is : 0 < weight C B'' y = omega arith in
            rate_held C B'' T'' y is ∙ settled_moves C B B'' T y long named was is ∙ sym (rate_held C B T y was)
      ]

-- ---- an order is carried out

module _ (d : Drive) (t : BoardTables) (is : Tabled d.capacity t) (g : ℕ → ℕ) (was : Rates d.capacity t.board t.rates g) where
  abbrev C : ℕ
  C = d.capacity

  abbrev B : List ℕ
  B = t.board

  abbrev T : List ℕ
  T = t.rates

  fit : rates_fit C B T ≡ true
  fit = (fits_parts C B T (t.owed ∷ t.other ∷ []) is.fit).1

  add_fit : (x w : ℕ) → Placeable C B x w → rates_fit C (placed C B x w) T ≡ true
  add_fit x w may = (fits_parts C (placed C B x w) T (t.owed ∷ t.other ∷ []) (placed_fits C B T (t.owed ∷ t.other ∷ []) is.fit x w may)).1

  -- the three kinds, done
  module _ (o : Order) (a : Answer) (z : a.number ≡ 0) where
    abbrev x : ℕ
    x = o.name

    add_asked : (w : ℕ) → add_check d B x w ≡ Ok tt → eqb o.kind 3 ≡ false → eqb o.kind 2 ≡ false → Rates C (placed C B x w) T (asked_by a o g)
    unfolding asked_by
    add_asked w e f h y named =
        let may = add_clear d B x w e in
        let some = add_weight d B x w e in
        elim (ℕ_discrete y x) [
          | yes q ↦ rw (z, q, eq-eqb x x refl, f, h) (was x may.named ∙ rate_absent C B T x may.absent ∙ sym (placed_own C B T x w may some fit (add_fit x w may)))
          | no q ↦ rw (z, ne_eqb y x q) (was y named ∙ sym (placed_other C B T x w may some fit (add_fit x w may) y named q))
        ]

    over_asked : add_check d B x (held_for o.weight) ≡ Ok tt → eqb o.kind 3 ≡ true → Rates C (placed C B x (held_for o.weight)) (rated_table C (placed C B x (held_for o.weight)) T x o.weight) (asked_by a o g)
    unfolding asked_by
    over_asked e f y named =
        let w = held_for o.weight in
        let may = add_clear d B x w e in
        let some = add_weight d B x w e in
        elim (ℕ_discrete y x) [
          | yes q ↦ rw (z, q, eq-eqb x x refl, f) (sym (rated_own C B T x w may some fit (add_fit x w may) o.weight is.rates))
          | no q ↦ rw (z, ne_eqb y x q) (was y named ∙ sym (rated_other C B T x w may some fit (add_fit x w may) o.weight is.rates y named q))
        ]

    remove_asked : remove_check d B x ≡ Ok tt → eqb o.kind 3 ≡ false → eqb o.kind 2 ≡ true → Rates C (removed C B x) (settled_table C B (removed C B x) T) (asked_by a o g)
    unfolding asked_by
    remove_asked e f h y named =
        let may = remove_clear d B x e in
        elim (ℕ_discrete y x) [
          | yes q ↦ rw (z, q, eq-eqb x x refl, f, h) (sym (removed_own C B T x may is.rates))
          | no q ↦ rw (z, ne_eqb y x q) (was y named ∙ sym (removed_other C B T x may is.rates y named q))
        ]

  -- refused, nothing
  none_asked : (o : Order) (a : Answer) → eqb a.number 0 ≡ false → (y : ℕ) → asked_by a o g y ≡ g y
  unfolding asked_by
  none_asked o a f y = rw f refl

  pub carried_asked : (o : Order) → Rates d.capacity (carried_state d t o).board (carried_state d t o).rates (asked_by (carried_answer d t.board (board_order o)) o g)
  unfolding board_order carried_board carried_answer carried_rates table_after rates_after
  carried_asked o = by_bool (eqb o.kind 2)
      (λ h.
      let k = eqb-true o.kind 2 h in
      let f : eqb o.kind 3 ≡ false = ne_eqb o.kind 3 (λ e. omega arith) in
      let l : eqb o.kind 1 ≡ false = ne_eqb o.kind 1 (λ e. omega arith) in
      by_check (remove_check d B o.name)
      (λ e. rw (f, l, h, e) (remove_asked o (answered (Ok tt) (weight C (removed C B o.name) 0 ∷ [])) refl e f h))
      (λ r e. rw (f, l, h, e) (λ y named. none_asked o (record { number = number_of r; values = 0 ∷ [] }) (number_some r) y ∙ was y named)))
      (λ h. by_bool (eqb o.kind 3)
      (λ f. by_check (add_check d B o.name (held_for o.weight))
      (λ e. rw (f, h, e) (over_asked o _ refl e f))
      (λ r e. rw (f, h, e) (λ y named. none_asked o _ (number_some r) y ∙ was y named)))
      (λ f. by_bool (eqb o.kind 1)
      (λ l. by_check (add_check d B o.name o.weight)
      (λ e. rw (f, l, h, e) (add_asked o _ refl o.weight e f h))
      (λ r e. rw (f, l, h, e) (λ y named. none_asked o _ (number_some r) y ∙ was y named)))
      (λ l. rw (f, l, h) (λ y named. none_asked o (record { number = 7; values = 0 ∷ [] }) refl y ∙ was y named))))

-- ---- any orders

pub all_asked : (d : Drive) (t : BoardTables) (os : List Order) (g : ℕ → ℕ) → Tabled d.capacity t → Rates d.capacity t.board t.rates g
    → Rates d.capacity (carried_all (doing d) t os).board (carried_all (doing d) t os).rates (asked_all d t.board g os)
unfolding carried_all asked_all
all_asked d t [] g is was = was
all_asked d t (o ∷ os) g is was =
    all_asked d (carried_state d t o) os (asked_by (carried_answer d t.board (board_order o)) o g) (carried_tabled d t is o) (carried_asked d t is g was o)
