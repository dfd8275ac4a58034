-- The walk along the rows of names with the same low digits. Assumes nothing.
use mathlib.Core.Path.{◌≡◌, refl, sym, ap, ◌∙◌}
use mathlib.Core.List.{List}
use Prim.Native.Nat.{ℕ, zero, suc, ◌+◌, ◌-◌, ◌/◌, ◌%◌, ◌≤◌, ◌<◌}
use native.Mathlib.Omega.{arith}
use native.Mathlib.Decide.{ℕ_discrete}
use lib.ListN.{length, get_or}
use Rattle.std.specs.Prelude.{Some, None}
use borrow.Author.Tests.{eq-eqb, ne_eqb}
use Rattle.general.specs.Lists.{blank}
use Rattle.general.proofs.Laws.{blank_zero, blank_length}
use Rattle.names.specs.Table.{rows_taken, next_row, first_row, row_from, row_of, number_under, row_found, Table, Empty, Finds}

-- ---- one step of a walk

walk_over : (M : List ℕ) (t n : ℕ) → row_from M t 0 n ≡ 0
unfolding row_from
walk_over M t n = refl

walk_none : (M : List ℕ) (t k n : ℕ) → n ≡ 0 → row_from M t k n ≡ 0
unfolding row_from
walk_none M t zero n e = refl
walk_none M t (suc k) n e = rw (eq-eqb n 0 e) refl

pub walk_here : (M : List ℕ) (t k n : ℕ) → (n ≡ 0 → ⊥) → get_or M n 0 / 4096 ≡ t → row_from M t (suc k) n ≡ n
unfolding row_from
walk_here M t k n p e = rw (ne_eqb n 0 p, eq-eqb (get_or M n 0 / 4096) t e) refl

pub walk_on : (M : List ℕ) (t k n : ℕ) → (n ≡ 0 → ⊥) → (get_or M n 0 / 4096 ≡ t → ⊥) → row_from M t (suc k) n ≡ row_from M t k (next_row M n)
unfolding row_from
walk_on M t k n p e = rw (ne_eqb n 0 p, ne_eqb (get_or M n 0 / 4096) t e) refl

-- ---- where walks on a table lead

module _ (M : List ℕ) (T : Table M) (t : ℕ) where
  -- To a row that is taken, with the digits looked for, of names with the low digits of those at the start; or to none.
  pub record Leads (n m : ℕ) : Type 0 where
    pub below : m ≤ n
    pub high : (m ≡ 0 → ⊥) → get_or M m 0 / 4096 ≡ t
    pub low : (m ≡ 0 → ⊥) → T.low m ≡ T.low n

  leads_none : (n m : ℕ) → m ≡ 0 → Leads n m
  leads_none n m e = record { below = omega arith; high = λ p. absurd (p e); low = λ p. absurd (p e) }

  pub walk_leads : (k n : ℕ) → n ≤ rows_taken M → Leads n (row_from M t k n)
  walk_leads zero n h = leads_none n (row_from M t 0 n) (walk_over M t n)
  walk_leads (suc k) n h = elim (ℕ_discrete n 0) [
    | yes z ↦ leads_none n (row_from M t (suc k) n) (walk_none M t (suc k) n z)
    | no p ↦ elim (ℕ_discrete (get_or M n 0 / 4096) t) [
      | yes e ↦ rw (walk_here M t k n p e) (record { below = omega arith; high = λ _. e; low = λ _. refl })
      | no e ↦ rw (walk_on M t k n p e) (further (walk_leads k (next_row M n) (omega (arith, T.falls n (omega arith) h))) p)
    ]
  ]
    where
      further : Leads (next_row M n) (row_from M t k (next_row M n)) → (n ≡ 0 → ⊥) → Leads n (row_from M t k (next_row M n))
      further s p =
          let f = T.falls n (omega arith) h in
          record {
            below = omega (arith, s.below);
            high = s.high;
            low = λ q. s.low q ∙ T.low_next n (omega arith) h (omega (arith, s.below));
          }

  -- As many steps as the start says are enough.
  pub walk_enough : (k j n : ℕ) → n ≤ rows_taken M → n ≤ k → n ≤ j → row_from M t k n ≡ row_from M t j n
  walk_enough zero j n h p q = walk_none M t 0 n (omega arith) ∙ sym (walk_none M t j n (omega arith))
  walk_enough (suc k) zero n h p q = walk_none M t (suc k) n (omega arith) ∙ sym (walk_none M t 0 n (omega arith))
  walk_enough (suc k) (suc j) n h p q = elim (ℕ_discrete n 0) [
    | yes z ↦ walk_none M t (suc k) n z ∙ sym (walk_none M t (suc j) n z)
    | no r ↦ elim (ℕ_discrete (get_or M n 0 / 4096) t) [
      | yes e ↦ walk_here M t k n r e ∙ sym (walk_here M t j n r e)
      | no e ↦
          let f = T.falls n (omega arith) h in
          walk_on M t k n r e ∙ walk_enough k j (next_row M n) (omega arith) (omega arith) (omega arith) ∙ sym (walk_on M t j n r e)
    ]
  ]

  -- A walk goes by the high digits of the rows that are taken, and by what follows each.
  pub walk_same : (M' : List ℕ) → ((i : ℕ) → 0 < i → i ≤ rows_taken M → (get_or M' i 0 / 4096 ≡ get_or M i 0 / 4096) × (next_row M' i ≡ next_row M i))
      → (k n : ℕ) → n ≤ rows_taken M → row_from M' t k n ≡ row_from M t k n
  walk_same M' same zero n h = walk_over M' t n ∙ sym (walk_over M t n)
  walk_same M' same (suc k) n h = elim (ℕ_discrete n 0) [
    | yes z ↦ walk_none M' t (suc k) n z ∙ sym (walk_none M t (suc k) n z)
    | no p ↦
        let s = same n (omega arith) h in
        elim (ℕ_discrete (get_or M n 0 / 4096) t) [
          | yes e ↦ walk_here M' t k n p (s.0 ∙ e) ∙ sym (walk_here M t k n p e)
          | no e ↦
              walk_on M' t k n p (λ q. e (sym s.0 ∙ q)) ∙ ap (row_from M' t k) s.1
              ∙ walk_same M' same k (next_row M n) (omega (arith, T.falls n (omega arith) h)) ∙ sym (walk_on M t k n p e)
        ]
  ]

-- ---- the row of a name

module _ (M : List ℕ) (T : Table M) where
  module _ (x : ℕ) where
    start : first_row M (x % 4096) ≤ rows_taken M
    start = T.firsts (x % 4096) (omega arith)

    -- Any number of steps from the first row that is large enough.
    pub row_walk : (k : ℕ) → first_row M (x % 4096) ≤ k → row_from M (x / 4096) k (first_row M (x % 4096)) ≡ row_of M x
    unfolding row_of
    row_walk k h = walk_enough M T (x / 4096) k (first_row M (x % 4096)) (first_row M (x % 4096)) start h (omega arith)

    leads : Leads M T (x / 4096) (first_row M (x % 4096)) (row_of M x)
    unfolding row_of
    leads = walk_leads M T (x / 4096) (first_row M (x % 4096)) (first_row M (x % 4096)) start

    pub row_le : row_of M x ≤ rows_taken M
    row_le = omega (arith, leads.below, start)

    pub row_high : (row_of M x ≡ 0 → ⊥) → get_or M (row_of M x) 0 / 4096 ≡ x / 4096
    row_high = leads.high

    pub row_low : (row_of M x ≡ 0 → ⊥) → T.low (row_of M x) ≡ x % 4096
    row_low p = leads.low p ∙ T.low_first (x % 4096) (omega arith) (omega (arith, leads.below))

    pub number_none : row_of M x ≡ 0 → number_under M x ≡ 0
    unfolding number_under
    number_none e = rw e (omega (arith, T.none))

  -- No two names have one row.
  pub row_own : (x y : ℕ) → (row_of M x ≡ 0 → ⊥) → row_of M x ≡ row_of M y → x ≡ y
  row_own x y p e =
      let q : row_of M y ≡ 0 → ⊥ = λ z. p (e ∙ z) in
      let high : x / 4096 ≡ y / 4096 = sym (row_high x p) ∙ ap (λ (n : ℕ). get_or M n 0 / 4096) e ∙ row_high y q in
      let low : x % 4096 ≡ y % 4096 = sym (row_low x p) ∙ ap T.low e ∙ row_low y q in
      omega arith

  -- Names of more than 16 digits have none.
  pub number_large : (x : ℕ) → 65536 ≤ x → number_under M x ≡ 0
  number_large x h = elim (ℕ_discrete (row_of M x) 0) [
    | yes z ↦ number_none x z
    | no p ↦ absurd (omega (arith, row_high x p, T.cells (row_of M x)))
  ]

  pub number_small : (x : ℕ) → number_under M x < 4096
  unfolding number_under
  number_small x = omega arith

-- ---- a walk under way

-- A search for x that has come to n.
pub record Walking (M : List ℕ) (x n : ℕ) : Type 0 where
  pub below : n ≤ rows_taken M
  pub left : row_from M (x / 4096) n n ≡ row_of M x

module _ (M : List ℕ) (T : Table M) (x : ℕ) where
  pub walking_start : Walking M x (first_row M (x % 4096))
  walking_start = record { below = T.firsts (x % 4096) (omega arith); left = row_walk M T x (first_row M (x % 4096)) (omega arith) }

  module _ (n : ℕ) (w : Walking M x n) where
    here : 0 < n → get_or M n 0 / 4096 ≡ x / 4096 → n ≡ row_of M x
    here p e =
        let s : suc (n - 1) ≡ n = omega arith in
        sym (sym w.left ∙ sym (ap (λ (k : ℕ). row_from M (x / 4096) k n) s) ∙ walk_here M (x / 4096) (n - 1) n (λ z. omega arith) e)

    pub walking_here : 0 < n → get_or M n 0 / 4096 ≡ x / 4096 → Finds M x (record { row = Some n; number = get_or M n 0 % 4096 })
    unfolding number_under
    walking_here p e = record { row = rw (← here p e) (rw (ne_eqb n 0 (λ z. omega arith)) refl); number = ap (λ (k : ℕ). get_or M k 0 % 4096) (here p e) }

    pub walking_next : 0 < n → (get_or M n 0 / 4096 ≡ x / 4096 → ⊥) → Walking M x (next_row M n)
    walking_next p e =
        let s : suc (n - 1) ≡ n = omega arith in
        let f = T.falls n p w.below in
        let h = w.below in
        record {
          below = omega arith;
          left = walk_enough M T (x / 4096) (next_row M n) (n - 1) (next_row M n) (omega arith) (omega arith) (omega arith)
              ∙ sym (walk_on M (x / 4096) (n - 1) n (λ z. omega arith) e) ∙ ap (λ (k : ℕ). row_from M (x / 4096) k n) s ∙ w.left;
        }

    pub walking_none : n ≡ 0 → Finds M x (record { row = None; number = 0 })
    walking_none z =
        let e : row_of M x ≡ 0 = sym w.left ∙ walk_none M (x / 4096) n n z in
        record { row = rw e refl; number = sym (number_none M T x e) }

-- ---- a table without numbers

zeros_table : (M : List ℕ) → length M ≡ 12290 → ((i : ℕ) → get_or M i 0 ≡ 0) → Table M
zeros_table M size z =
    record {
      size = size;
      cells = λ i. omega (arith, z i);
      none = z 0;
      room = omega (arith, z 4097);
      firsts = λ b h. omega (arith, z (8194 + b));
      falls = λ n p h. omega (arith, z (4097 + n));
      low = λ n. 0;
      low_first = λ b h p. absurd (omega (arith, z (8194 + b)));
      low_next = λ n p h q. refl;
    }

zeros_empty : (M : List ℕ) → length M ≡ 12290 → ((i : ℕ) → get_or M i 0 ≡ 0) → Empty M
zeros_empty M size z =
    let T = zeros_table M size z in
    record {
      table = T;
      none = z 4097;
      numbers = λ x. number_none M T x (omega (arith, row_le M T x, z 4097));
    }

pub blank_empty : (n : ℕ) → n ≡ 12290 → Empty (blank n)
blank_empty n e = zeros_empty (blank n) (blank_length n ∙ e) (blank_zero n)

-- ---- what a search found

module _ (M : List ℕ) (x : ℕ) where
  pub found_none : None ≡ row_found M x → row_of M x ≡ 0
  found_none e = elim (ℕ_discrete (row_of M x) 0) [
    | yes z ↦ z
    | no p ↦ absurd (grind (arith, rw (ne_eqb (row_of M x) 0 p) at e))
  ]

  pub found_row : (n : ℕ) → Some n ≡ row_found M x → (row_of M x ≡ n) × (n ≡ 0 → ⊥)
  found_row n e = elim (ℕ_discrete (row_of M x) 0) [
    | yes z ↦ absurd (grind (arith, rw z at e))
    | no p ↦ let q : row_of M x ≡ n = grind (arith, rw (ne_eqb (row_of M x) 0 p) at e) in (q, λ z. p (q ∙ z))
  ]
