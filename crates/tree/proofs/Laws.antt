-- The laws of the tree walk that upper crates cite: from clear marks it serves the leaves of the slots from p = 1, over any number of rounds, and after every
-- C walks all marks are clear; it is the walk of source document 001; no second answer fits, and a refusal leaves the marks as they were.
-- Assumes nothing.
use mathlib.Core.Path.{◌≡◌, refl, sym, ap, ap₂, ◌∙◌, subst}
use mathlib.Core.Bool.{true, ◌||◌}
use mathlib.Core.List.{List, [], ◌∷◌}
use Prim.Native.Nat.{ℕ, zero, suc, ◌+◌, ◌-◌, ◌*◌, ◌/◌, ◌%◌, ◌^◌, ◌≤◌, ◌<◌}
use native.Mathlib.Nat.{zero-mod, zero-add, add-zero}
use native.Mathlib.Decide.{dec_lt}
use native.Mathlib.Omega.{arith}
use lib.Count.{ones}
use lib.Dec.{ltb}
use lib.ListN.{length, get_or}
use lib.Seq.{ext_get_or}
use borrow.Author.Tests.{ne_eqb, le-ltb}
use Rattle.general.proofs.Laws.{unique, by_bool}
use Rattle.sequences.specs.Sequences.{rb}
use Rattle.sequences.specs.SlotOrder.{digits, Position, leaf_at, served_from, next_from}
use Rattle.sequences.specs.Serving.{leaves_from, after_slots}
use Rattle.sequences.proofs.Laws.{power_leaf, power_next, first_position, next_position, leaves_at}
use Rattle.calls.specs.declared.Drive.{Drive}
use Rattle.std.specs.Prelude.{Ok, Err}
use Rattle.calls.specs.Answers.{Answer}
use Rattle.calls.specs.Records.{drive_at}
use Rattle.calls.specs.Refusals.{zero_or, applies, asked_open, open_check, slot_check, position_check}
use Rattle.calls.specs.Results.{moved_on, served_answer}
use Rattle.calls.specs.declared.Refusal.TheVariants.{Capacity, Short}
use Rattle.calls.proofs.Laws.{slot_parts, Refuses, refuses}
use Rattle.tree.specs.Marks.{levels, leaf_of, marks_of, leaves_of, marks_after, AllClear}
use Rattle.tree.specs.Literal.{leaf_below, marks_below}
use Rattle.tree.specs.Results.{finding, finds, number_by, if_made, walk_may, walking_answer, walked_answer}
use Rattle.tree.specs.Promises.{Walks}
use Rattle.tree.specs.Engines.{marks_left, drive_left, name_and_leaf}
use Rattle.tree.specs.Types.{Walking, Finding}
use Rattle.tree.specs.declared.Unwalked.TheVariants as unwalked
use Rattle.tree.proofs.Nodes.{inner, below_root}
use Rattle.tree.proofs.Standing.{Stands, stepped, marks_length, marks_keep, clear_stands, stands_clear}
use Rattle.tree.proofs.Powers as powers
use Rattle.tree.proofs.Descents.{node_range, Walkable, walkable}
use Rattle.tree.proofs.Lettered as lettered

-- ---- one walk, for any marks; C is 1 to 4,095 with one set digit, which a walk that is not refused has checked

module _ (C : ℕ) (some : zero < C) (few : C ≤ 4095) (single : ones C ≤ 1) where
  -- There are as many leaves as levels of inner nodes make,
  pub power : C ≡ 2 ^ levels C
  power = powers.power C some few single

  -- at most 11 of them.
  pub levels_few : levels C ≤ 11
  levels_few = let e = power in powers.exponent_le (levels C) (omega arith)

  -- It serves one of the C leaves.
  pub leaf_below_lem : (M : List ℕ) → leaf_of C M < C
  unfolding leaf_of
  leaf_below_lem M = let r = node_range (levels C) M 0 in let e = power in omega arith

  -- It changes no mark beyond the C - 1,
  pub marks_beyond : (M : List ℕ) (j : ℕ) → C ≤ suc j → get_or (marks_of C M) j 0 ≡ get_or M j 0
  unfolding marks_of
  marks_beyond M j h = let e = power in marks_keep (levels C) M 0 j (λ b. let i = inner (levels C) j b in omega arith)

  -- and not how many there are.
  pub marks_long : (M : List ℕ) → length (marks_of C M) ≡ length M
  unfolding marks_of
  marks_long M = marks_length (levels C) M 0

  -- It is the walk of source document 001.
  pub leaf_literal : (M : List ℕ) → leaf_of C M ≡ leaf_below (levels C) M 0 0
  unfolding leaf_of
  leaf_literal M = let e = power in let n = rw (zero-add (levels C)) at (lettered.node_literal (levels C) M 0 0) in omega arith

  pub marks_literal : (M : List ℕ) → marks_of C M ≡ marks_below (levels C) M 0 0
  unfolding marks_of
  marks_literal M = lettered.marks_literal (levels C) M 0 0

  -- ---- walks in a row

  -- the marks stand after t walks
  step : (M : List ℕ) (t : ℕ) → C ≤ suc (length M) → Stands M 0 (levels C) t → Stands (marks_of C M) 0 (levels C) (suc t) × (leaf_of C M ≡ rb t (levels C))
  unfolding marks_of leaf_of
  step M t room s =
      let e = power in
      let r = stepped (levels C) M 0 t (λ j b. let i = inner (levels C) j b in omega arith) s in
      let n = r.ends in
      (r.stands, omega arith)

  -- walk by walk, and slot by slot
  same_leaves : (n : ℕ) (M : List ℕ) (p t : ℕ) → C ≤ suc (length M) → Stands M 0 (levels C) t → Position C p → t % 2 ^ levels C ≡ p / 2
      → leaves_of C M n ≡ leaves_from C p n
  unfolding leaves_of leaves_from
  same_leaves zero M p t room s at count = refl
  same_leaves (suc n) M p t room s at count =
      let e = power in
      let w = step M t room s in
      let here : Position (2 ^ levels C) p = subst (λ (x : ℕ). Position x p) e at in
      let leaf : leaf_at C (served_from C p) ≡ rb t (levels C) = subst (λ (x : ℕ). leaf_at x (served_from x p) ≡ rb t (levels C)) (sym e) (power_leaf (levels C) p t here count) in
      let next : suc t % 2 ^ levels C ≡ next_from C p / 2 = subst (λ (x : ℕ). suc t % 2 ^ levels C ≡ next_from x p / 2) (sym e) (power_next (levels C) p t here count) in
      let long = marks_long M in
      ap₂ (λ (x : ℕ) (xs : List ℕ). x ∷ xs) (w.1 ∙ sym leaf) (same_leaves n (marks_of C M) (next_from C p) (suc t) (omega arith) w.0 (next_position C p at) next)

  stands_after : (n : ℕ) (M : List ℕ) (t : ℕ) → C ≤ suc (length M) → Stands M 0 (levels C) t → Stands (marks_after C M n) 0 (levels C) (n + t)
  unfolding marks_after
  stands_after zero M t room s = rw (zero-add t) s
  stands_after (suc n) M t room s =
      let long = marks_long M in
      let e : suc n + t ≡ n + suc t = omega arith in
      rw e (stands_after n (marks_of C M) (suc t) (omega arith) (step M t room s).0)

  pub after_long : (n : ℕ) (M : List ℕ) → length (marks_after C M n) ≡ length M
  unfolding marks_after
  after_long zero M = refl
  after_long (suc n) M = after_long n (marks_of C M) ∙ marks_long M

  pub after_beyond : (n : ℕ) (M : List ℕ) (j : ℕ) → C ≤ suc j → get_or (marks_after C M n) j 0 ≡ get_or M j 0
  unfolding marks_after
  after_beyond zero M j h = refl
  after_beyond (suc n) M j h = after_beyond n (marks_of C M) j h ∙ marks_beyond M j h

  -- From clear marks.
  module _ (M : List ℕ) (room : C ≤ suc (length M)) (clear : AllClear C M) where
    started : Stands M 0 (levels C) 0
    started = let e = power in clear_stands (levels C) M 0 (λ j b. clear j (let i = inner (levels C) j b in omega arith))

    -- The leaves of any number of walks are those of as many slots from p = 1.
    pub walks_slots : (n : ℕ) → leaves_of C M n ≡ leaves_from C 1 n
    walks_slots n = same_leaves n M 1 0 room started (first_position C some (omega arith)) (zero-mod (2 ^ levels C))

    -- After every C walks all marks are clear,
    pub rounds_clear : (q : ℕ) → AllClear C (marks_after C M (q * C))
    rounds_clear q j h =
        let e = power in
        let s : Stands (marks_after C M (q * C)) 0 (levels C) (q * 2 ^ levels C) =
        subst (λ (x : ℕ). Stands (marks_after C M (q * C)) 0 (levels C) x) (add-zero (q * C) ∙ ap (λ (x : ℕ). q * x) e) (stands_after (q * C) M 0 room started) in
        stands_clear (levels C) (marks_after C M (q * C)) 0 q s j (below_root (levels C) j (omega arith))

    -- and with what stands beyond they are as they were at the start.
    pub rounds_marks : (q : ℕ) → marks_after C M (q * C) ≡ M
    rounds_marks q = ext_get_or 0 (marks_after C M (q * C)) M (after_long (q * C) M) (λ j h. elim (dec_lt (suc j) C) [
      | yes l ↦ rounds_clear q j l ∙ sym (clear j l)
      | no l ↦ after_beyond (q * C) M j (omega arith)
    ])

-- ---- the call

-- a walk that is not made leaves what there was
unmade : (f : Finding) → (number_by f ≡ 0 → ⊥) → {A : Type 0} (made was : A) → if_made f made was ≡ was
unmade (Ok tt) h made was = absurd (h refl)
unmade (Err unwalked.Power) h made was = refl
unmade (Err (unwalked.Refused r)) h made was = refl

module _ (C : ℕ) (B M : List ℕ) where
  -- No second answer fits, and no other marks.
  pub walk_unique : {r s : Walking} {E F : List ℕ} → Walks C B M r E → Walks C B M s F → (r ≡ s) × (E ≡ F)
  walk_unique p q = (unique p.0 q.0, unique p.2 q.2)

  -- A refused walk says zeros and leaves the marks as they were.
  pub walk_refused : {r : Walking} {E : List ℕ} → Walks C B M r E → Refuses (walking_answer r) → ((walking_answer r).values ≡ 0 ∷ 0 ∷ []) × (E ≡ M)
  walk_refused p h =
      let n = refuses p.1 h in
      (ap (λ (a : Answer). a.values) p.1 ∙ unmade (finds C B M) n _ _, p.2 ∙ unmade (finds C B M) n _ _)

  -- It answers 0, or 1, 16 or 2.
  pub walk_answers : zero_or (number_by (finds C B M)) walk_may ≡ true
  unfolding finding zero_or
  walk_answers = by_bool (applies Capacity (asked_open C B))
      (λ t. rw t refl)
      (λ f. by_bool (ltb 1 (ones C))
      (λ t. rw (f, t) refl)
      (λ g. by_bool (applies Short (asked_open C B) || ltb (length M) (C - 1)) (λ t. rw (f, g, t) refl) (λ h. rw (f, g, h) refl)))

  pub walk_may_lem : {r : Walking} {E : List ℕ} → Walks C B M r E → zero_or (walking_answer r).number walk_may ≡ true
  walk_may_lem p = ap (λ (a : Answer). zero_or a.number walk_may) p.1 ∙ walk_answers

-- ---- both engines, call after call, each given what the last left: from clear marks, and from the start of a round

-- the leaf of walk i of n, counted from 0
leaf_at_lem : (C i n : ℕ) (M : List ℕ) → i < n → get_or (leaves_of C M n) i 0 ≡ leaf_of C (marks_after C M i)
unfolding leaves_of marks_after
leaf_at_lem C i zero M h = absurd (omega arith)
leaf_at_lem C zero (suc n) M h = refl
leaf_at_lem C (suc i) (suc n) M h = leaf_at_lem C i n (marks_of C M) (omega arith)

-- slot takes a record at any position, where open takes its capacity and the board
slot_takes : (d : Drive) (B : List ℕ) → open_check d.capacity B ≡ Ok tt → Position d.capacity d.position → slot_check d B ≡ Ok tt
unfolding position_check
slot_takes d B o at =
    let f = at.first in
    let l = at.last in
    slot_parts d B ∙ rw (o, ne_eqb d.position 0 (λ e. omega arith), le-ltb (2 ^ digits d.capacity - 1) d.position (omega arith)) refl

-- the record that n slots leave
record Moved (C : ℕ) (B : List ℕ) (p n : ℕ) (d : Drive) : Type 0 where
  capacity : d.capacity ≡ C
  position : d.position ≡ after_slots C p n
  takes : slot_check d B ≡ Ok tt

moved : (n : ℕ) (d : Drive) (B : List ℕ) → open_check d.capacity B ≡ Ok tt → Position d.capacity d.position
    → Moved d.capacity B d.position n (drive_left d B n)
unfolding drive_left after_slots
moved zero d B o at = record { capacity = refl; position = refl; takes = slot_takes d B o at }
moved (suc n) d B o at = rw (slot_takes d B o at) (let r = moved n (moved_on d) B o (next_position d.capacity d.position at) in record { capacity = r.capacity; position = r.position; takes = r.takes })

module _ (C : ℕ) (B M : List ℕ) (made : finds C B M ≡ Ok tt) where
  is : Walkable C B (length M)
  is = walkable C B (length M) made

  -- the marks that the calls leave are those of the walks
  left_marks : (n : ℕ) (N : List ℕ) → finds C B N ≡ Ok tt → marks_left C B N n ≡ marks_after C N n
  unfolding marks_left marks_after
  left_marks zero N e = refl
  left_marks (suc n) N e =
      let long = marks_long C is.some is.few is.one N in
      rw e (left_marks n (marks_of C N) (rw long e))

  module _ (clear : AllClear C M) where
    room : C ≤ suc (length M)
    room = let m = is.marked in let s = is.some in omega arith

    -- Walk n answers the name and the leaf of slot n, whatever stands on the board.
    pub walks_serve : (n : ℕ) → walked_answer C B (marks_left C B M n) ≡ name_and_leaf (served_answer (drive_left (drive_at C 1) B n) B)
    walks_serve n =
        let w = is in
        let m = moved n (drive_at C 1) B w.opens (first_position C w.some (let f = w.few in omega arith)) in
        let f : finds C B (marks_after C M n) ≡ (Ok tt) = rw (after_long C w.some w.few w.one n M) made in
        let leaf : leaf_of C (marks_after C M n) ≡ leaf_at C (served_from C (after_slots C 1 n)) =
        sym (leaf_at_lem C n (suc n) M (omega arith))
        ∙ ap (λ (l : List ℕ). get_or l n 0) (walks_slots C w.some w.few w.one M room clear (suc n)) ∙ leaves_at C 1 (suc n) n (omega arith) in
        rw (left_marks n M made, f, m.takes, m.capacity, m.position, leaf) refl

    -- After C walks, and so after each C, the marks are as they were.
    pub walks_round : (q : ℕ) → marks_left C B M (q * C) ≡ M
    walks_round q = let w = is in left_marks (q * C) M made ∙ rounds_marks C w.some w.few w.one M room clear q
