-- A number entered in a table: at the row of its name, or at a new one. Assumes nothing.
use mathlib.Core.Path.{◌≡◌, refl, sym, ap, ◌∙◌}
use mathlib.Core.Bool.{cond}
use mathlib.Core.List.{List}
use Prim.Native.Nat.{ℕ, suc, ◌+◌, ◌/◌, ◌%◌, ◌≤◌, ◌<◌}
use native.Mathlib.Omega.{arith}
use native.Mathlib.Decide.{ℕ_discrete}
use lib.Dec.{eqb}
use lib.ListN.{get_or, set, length-set}
use lib.Seq.{get_or-set_same, get_or-set_other}
use borrow.Author.Tests.{eq-eqb, ne_eqb}
use Rattle.names.specs.Table.{rows_taken, next_row, first_row, row_from, row_of, number_under, cell, Table, Added, Entered}
use Rattle.names.proofs.Walks.{walk_here, walk_on, walk_same, row_walk, row_le, row_high, row_own}

module _ (M : List ℕ) (T : Table M) (x v : ℕ) (name : x < 65536) (low : v < 4096) where
  -- ---- a name that has a row

  module _ (p : row_of M x ≡ 0 → ⊥) where
    abbrev n : ℕ
    n = row_of M x

    abbrev M₁ : List ℕ
    M₁ = set M n (cell x v)

    other : (i : ℕ) → (i ≡ n → ⊥) → get_or M₁ i 0 ≡ get_or M i 0
    other i q = get_or-set_other M n i (cell x v) 0 q

    above : (i : ℕ) → get_or M₁ (4097 + i) 0 ≡ get_or M (4097 + i) 0
    above i = other (4097 + i) (λ e. omega (arith, row_le M T x, T.room))

    ends : (b : ℕ) → first_row M₁ b ≡ first_row M b
    ends b = other (8194 + b) (λ e. omega (arith, row_le M T x, T.room))

    here : get_or M₁ n 0 ≡ cell x v
    here = get_or-set_same M n (cell x v) 0 (omega (arith, row_le M T x, T.room, T.size))

    high : (i : ℕ) → get_or M₁ i 0 / 4096 ≡ get_or M i 0 / 4096
    high i = elim (ℕ_discrete i n) [
      | yes e ↦ rw e (omega (arith, here, row_high M T x p))
      | no q ↦ ap (λ (k : ℕ). k / 4096) (other i q)
    ]

    row_kept : (y : ℕ) → row_of M₁ y ≡ row_of M y
    unfolding row_of
    row_kept y =
        rw (ends (y % 4096)) (walk_same M T (y / 4096) M₁ (λ i q h. (high i, above i)) (first_row M (y % 4096)) (first_row M (y % 4096)) (T.firsts (y % 4096) (omega arith)))

    pub entered_again : Entered M M₁ x v
    unfolding number_under
    entered_again =
        record {
          table =
              record {
                size = simp length-set T.size;
                cells = λ i. elim (ℕ_discrete i n) [
                  | yes e ↦ rw e (omega (arith, here))
                  | no q ↦ omega (arith, other i q, T.cells i)
                ];
                none = other 0 (λ e. p (sym e)) ∙ T.none;
                room = omega (arith, above 0, T.room);
                firsts = λ b h. omega (arith, above 0, ends b, T.firsts b h);
                falls = λ i q h. omega (arith, above i, T.falls i q (omega (arith, above 0)));
                low = T.low;
                low_first = λ b h q. ap T.low (ends b) ∙ T.low_first b h (omega (arith, ends b));
                low_next = λ i q h r. ap T.low (above i) ∙ T.low_next i q (omega (arith, above 0)) (omega (arith, above i));
              };
          own = rw (row_kept x) (omega (arith, here));
          others = λ y q. rw (row_kept y) (ap (λ (k : ℕ). k % 4096) (other (row_of M y) (λ e. q (sym (row_own M T x y p (sym e))))));
          many = omega (arith, above 0);
          again = λ _. above 0;
        }

  -- ---- a name that has none

  module _ (z : row_of M x ≡ 0) (free : rows_taken M < 4096) (M₂ : List ℕ) (A : Added M M₂ x v) where
    abbrev m : ℕ
    m = suc (rows_taken M)

    abbrev b : ℕ
    b = x % 4096

    cell_kept : (i : ℕ) → i ≤ rows_taken M → get_or M₂ i 0 ≡ get_or M i 0
    cell_kept i h = A.others i (λ e. omega arith) (λ e. omega arith) (λ e. omega arith) (λ e. omega arith)

    next_kept : (i : ℕ) → 0 < i → i ≤ rows_taken M → next_row M₂ i ≡ next_row M i
    next_kept i q h = A.others (4097 + i) (λ e. omega arith) (λ e. omega arith) (λ e. omega arith) (λ e. omega arith)

    first_kept : (d : ℕ) → (d ≡ b → ⊥) → first_row M₂ d ≡ first_row M d
    first_kept d q = A.others (8194 + d) (λ e. omega arith) (λ e. omega arith) (λ e. omega arith) (λ e. q (omega arith))

    walk_kept : (t k i : ℕ) → i ≤ rows_taken M → row_from M₂ t k i ≡ row_from M t k i
    walk_kept t k i h = walk_same M T t M₂ (λ j q r. (ap (λ (w : ℕ). w / 4096) (cell_kept j r), next_kept j q r)) k i h

    -- The name has the new row_of, and every other its own.
    row_new : row_of M₂ x ≡ m
    unfolding row_of
    row_new = rw A.start (walk_here M₂ (x / 4096) (rows_taken M) m (λ e. omega arith) (omega (arith, A.here)))

    row_apart : (y : ℕ) → (y % 4096 ≡ b → ⊥) → row_of M₂ y ≡ row_of M y
    unfolding row_of
    row_apart y d = rw (first_kept (y % 4096) d) (walk_kept (y / 4096) (first_row M (y % 4096)) (first_row M (y % 4096)) (T.firsts (y % 4096) (omega arith)))

    row_step : (y : ℕ) → (y ≡ x → ⊥) → y % 4096 ≡ b → row_of M₂ y ≡ row_from M₂ (y / 4096) (rows_taken M) (next_row M₂ m)
    unfolding row_of
    row_step y q e = rw (e, A.start) (walk_on M₂ (y / 4096) (rows_taken M) m (λ r. omega arith) (λ r. q (omega (arith, A.here))))

    row_behind : (y : ℕ) → (y ≡ x → ⊥) → y % 4096 ≡ b → row_of M₂ y ≡ row_of M y
    row_behind y q e =
        let f = T.firsts (y % 4096) (omega arith) in
        row_step y q e ∙ ap (row_from M₂ (y / 4096) (rows_taken M)) (A.link ∙ ap (first_row M) (sym e)) ∙ walk_kept (y / 4096) (rows_taken M) (first_row M (y % 4096)) f
        ∙ row_walk M T y (rows_taken M) f

    row_others : (y : ℕ) → (y ≡ x → ⊥) → row_of M₂ y ≡ row_of M y
    row_others y q = elim (ℕ_discrete (y % 4096) b) [
      | yes e ↦ row_behind y q e
      | no d ↦ row_apart y d
    ]

    abbrev low_at : ℕ → ℕ
    low_at i = cond (eqb i m) b (T.low i)

    low_new : low_at m ≡ b
    low_new = rw (eq-eqb m m refl) refl

    low_old : (i : ℕ) → i ≤ rows_taken M → low_at i ≡ T.low i
    low_old i h = rw (ne_eqb i m (λ e. omega arith)) refl

    cell_small : (i : ℕ) → get_or M₂ i 0 < 65536
    cell_small i = elim (ℕ_discrete i m) [
      | yes e ↦ rw e (omega (arith, A.here))
      | no q ↦ elim (ℕ_discrete i 4097) [
        | yes e ↦ rw e (omega (arith, A.many))
        | no r ↦ elim (ℕ_discrete i (4097 + m)) [
          | yes e ↦ rw e (omega (arith, A.link, T.cells (8194 + b)))
          | no s ↦ elim (ℕ_discrete i (8194 + b)) [
            | yes e ↦ rw e (omega (arith, A.start))
            | no t ↦ omega (arith, A.others i q r s t, T.cells i)
          ]
        ]
      ]
    ]

    table : Table M₂
    table =
        record {
          size = A.size ∙ T.size;
          cells = cell_small;
          none = cell_kept 0 (omega arith) ∙ T.none;
          room = omega (arith, A.many);
          firsts = λ d h. elim (ℕ_discrete d b) [
            | yes e ↦ rw e (omega (arith, A.start, A.many))
            | no q ↦ omega (arith, first_kept d q, T.firsts d h, A.many)
          ];
          falls = λ i q h. elim (ℕ_discrete i m) [
            | yes e ↦ rw e (omega (arith, A.link, T.firsts b (omega arith)))
            | no r ↦ omega (arith, next_kept i q (omega (arith, A.many)), T.falls i q (omega (arith, A.many)))
          ];
          low = low_at;
          low_first = λ d h q. elim (ℕ_discrete d b) [
            | yes e ↦ rw (e, A.start) low_new
            | no r ↦
                let k = first_kept d r in
                ap low_at k ∙ low_old (first_row M d) (T.firsts d h) ∙ T.low_first d h (omega arith)
          ];
          low_next = λ i q h r. elim (ℕ_discrete i m) [
            | yes e ↦ follows e r
            | no s ↦
                let l : i ≤ rows_taken M = omega (arith, A.many) in
                let k = next_kept i q l in
                ap low_at k ∙ low_old (next_row M i) (omega (arith, T.falls i q l)) ∙ T.low_next i q l (omega arith) ∙ sym (low_old i l)
          ];
        }
      where
        follows : {i : ℕ} → i ≡ m → 0 < next_row M₂ i → low_at (next_row M₂ i) ≡ low_at i
        follows e r =
            let s : 0 < next_row M₂ m = rw e at r in
            rw e (ap low_at A.link ∙ low_old (first_row M b) (T.firsts b (omega arith)) ∙ T.low_first b (omega arith) (omega (arith, A.link)) ∙ sym low_new)

    pub entered_new : Entered M M₂ x v
    unfolding number_under
    entered_new =
        record {
          table = table;
          own = rw row_new (omega (arith, A.here));
          others = λ y q. rw (row_others y q) (ap (λ (k : ℕ). k % 4096) (cell_kept (row_of M y) (row_le M T y)));
          many = omega (arith, A.many);
          again = λ p. absurd (p z);
        }

-- ---- no change

pub entered_same : (M : List ℕ) → Table M → (x : ℕ) → Entered M M x (number_under M x)
entered_same M T x = record { table = T; own = refl; others = λ y n. refl; many = omega arith; again = λ n. refl }
