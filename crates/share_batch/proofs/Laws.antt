-- The laws of a table of changes with the tables of over-allocated streams that upper crates cite: it is what the single calls are, in that order; no second
-- result fits; a kind that is none is answered 7 and changes nothing; an entry's question stays, and so does the record; a refused entry does not stop
-- the rest; a table may be carried out in parts. Assumes nothing.
use mathlib.Core.Path.{◌≡◌, refl, sym, ap, ◌∙◌}
use mathlib.Core.List.{List, [], ◌∷◌, ◌++◌, map}
use Prim.Native.Nat.{ℕ}
use lib.Dec.{eqb}
use borrow.Author.Tests.{eq-eqb, ne_eqb, eqb-true, eqb-false}
use Rattle.general.proofs.Laws.{unique, by_bool}
use Rattle.calls.specs.declared.Drive.{Drive}
use Rattle.calls.specs.Answers.{Answer}
use Rattle.waiting.specs.declared.Order.{Order}
use Rattle.orders.specs.Types.{Ordered}
use Rattle.orders.specs.Answers.{ordering_answer}
use Rattle.orders.specs.Results.{add_order, remove_order}
use Rattle.orders.proofs.Laws.{change_says}
use Rattle.shares.specs.States.{BoardTables}
use Rattle.shares.specs.Checks.{way_of}
use Rattle.shares.specs.Results.{over_order, board_order, changed, changed_state, changed_list}
use Rattle.shares.specs.Promises.{Orders}
use Rattle.shares.proofs.Laws.{change_refused}
use Rattle.batch.specs.declared.Entry.{Entry}
use Rattle.batch.specs.declared.Carried.{Carried}
use Rattle.batch.specs.Entries.{question, answering, noted}
use Rattle.batch.specs.Singles.{noted_all}
use Rattle.batch.proofs.Laws as batch
use Rattle.share_batch.specs.Entries.{ordered, ordered_state, ordered_list, carried, before, batch_of}
use Rattle.share_batch.specs.Promises.{Carries, Batches}
use Rattle.share_batch.specs.Singles.{Singles, ends, adds, removes, overs, skips}

-- ---- entry by entry

module _ (a b : Drive) (s : BoardTables) (L : List ℕ) where
  pub carry_unique : (e : Entry) {r p : Carried} {t u : BoardTables} {F G : List ℕ} → Carries a b s L e r t F → Carries a b s L e p u G → (r ≡ p) × (t ≡ u) × (F ≡ G)
  carry_unique e p q = (unique p.0 q.0, unique p.1 q.1, unique p.2 q.2)

  pub batch_unique : (T : List Entry) {r p : Drive} {t u : BoardTables} {F G : List ℕ} {U X : List Entry} → Batches a b s L T r t F U → Batches a b s L T p u G X
      → (r ≡ p) × (t ≡ u) × (F ≡ G) × (U ≡ X)
  batch_unique T p q = (unique p.0 q.0, unique p.1 q.1, unique p.2 q.2, unique p.3 q.3)

  -- An empty table changes nothing,
  pub batch_none : batch_of a b s L [] ≡ record { drive = a; state = s; list = L; table = [] }
  unfolding batch_of
  batch_none = refl

  -- and another does what its first entry does, and then what the rest does.
  pub batch_next : (e : Entry) (T : List Entry) {r : Carried} {t : BoardTables} {F : List ℕ} → Carries a b s L e r t F
      → batch_of a b s L (e ∷ T) ≡ before r.entry (batch_of r.drive b t F T)
  unfolding batch_of
  batch_next e T p = rw (p.0, p.1, p.2) refl

  -- What an entry does: the call that it asks for,
  pub carry_adds : (e : Entry) {r : Ordered} {t : BoardTables} {F : List ℕ} → e.kind ≡ 1 → Orders a b s L (add_order e.name e.weight) r t F
      → Carries a b s L e (record { drive = r.drive; entry = noted e (ordering_answer r.answer) }) t F
  unfolding carried ordered ordered_state ordered_list
  carry_adds e k p = let y = eq-eqb e.kind 1 k in (rw (y, p.0) refl, rw y p.2, rw y p.3)

  pub carry_removes : (e : Entry) {r : Ordered} {t : BoardTables} {F : List ℕ} → e.kind ≡ 2 → Orders a b s L (remove_order e.name) r t F
      → Carries a b s L e (record { drive = r.drive; entry = noted e (ordering_answer r.answer) }) t F
  unfolding carried ordered ordered_state ordered_list
  carry_removes e k p = rw k (rw p.0 refl, p.2, p.3)

  pub carry_overs : (e : Entry) {r : Ordered} {t : BoardTables} {F : List ℕ} → e.kind ≡ 3 → Orders a b s L (over_order e.name e.weight) r t F
      → Carries a b s L e (record { drive = r.drive; entry = noted e (ordering_answer r.answer) }) t F
  unfolding carried ordered ordered_state ordered_list
  carry_overs e k p = rw k (rw p.0 refl, p.2, p.3)

  -- and for any other kind nothing: it is answered 7.
  pub unknown_kind_lem : (e : Entry) → (e.kind ≡ 1 → ⊥) → (e.kind ≡ 2 → ⊥) → (e.kind ≡ 3 → ⊥) → Carries a b s L e (record { drive = a; entry = answering e 7 0 }) s L
  unfolding carried ordered ordered_state ordered_list
  unknown_kind_lem e i j k =
      let f = ne_eqb e.kind 1 i in let g = ne_eqb e.kind 2 j in let h = ne_eqb e.kind 3 k in
      (rw (f, g, h) refl, rw (f, g, h) refl, rw (f, g, h) refl)

-- ---- the single calls, in that order

-- A table leaves the record, the board, the tables and the list that single calls lead to, and their answers in its places.
pub batch_singles : (b : Drive) {a x : Drive} {s u : BoardTables} {L F : List ℕ} {T : List Entry} {ss : List Answer} → Singles (λ d. Orders d b) a s L T x u F ss
    → batch_of a b s L T ≡ record { drive = x; state = u; list = F; table = noted_all T ss }
unfolding noted_all
batch_singles b {a} {s = s} {L = L} ends = batch_none a b s L
batch_singles b {a} {s = s} {L = L} (adds {e = e} {T} k p q) = batch_next a b s L e T (carry_adds a b s L e k p) ∙ ap (before _) (batch_singles b q)
batch_singles b {a} {s = s} {L = L} (removes {e = e} {T} k p q) = batch_next a b s L e T (carry_removes a b s L e k p) ∙ ap (before _) (batch_singles b q)
batch_singles b {a} {s = s} {L = L} (overs {e = e} {T} k p q) = batch_next a b s L e T (carry_overs a b s L e k p) ∙ ap (before _) (batch_singles b q)
batch_singles b {a} {s = s} {L = L} (skips {e = e} {T} i j k q) = batch_next a b s L e T (unknown_kind_lem a b s L e i j k) ∙ ap (before _) (batch_singles b q)

-- ---- there are such calls for every table

by_kind_lem : (e : Entry) {P : Type 0} → (e.kind ≡ 1 → P) → (e.kind ≡ 2 → P) → (e.kind ≡ 3 → P) → ((e.kind ≡ 1 → ⊥) → (e.kind ≡ 2 → ⊥) → (e.kind ≡ 3 → ⊥) → P) → P
by_kind_lem e f g h n = batch.by_kind_lem e f g (λ i j. by_bool (eqb e.kind 3) (λ t. h (eqb-true e.kind 3 t)) (λ k. n i j (eqb-false e.kind 3 k)))

abbrev Leads : Drive → Drive → BoardTables → List ℕ → List Entry → Type 0
Leads a b s L T = (x : Drive) × (u : BoardTables) × (F : List ℕ) × (ss : List Answer) × Singles (λ d. Orders d b) a s L T x u F ss

changes : (a b : Drive) (s : BoardTables) (L : List ℕ) (o : Order) → Orders a b s L o (changed a b s L o) (changed_state a b s L o) (changed_list a b s L o)
changes a b s L o = (refl, change_says (way_of a b s L o) a s.board L (board_order o), refl, refl)

pub singles_are : (a b : Drive) (s : BoardTables) (L : List ℕ) (T : List Entry) → Leads a b s L T
singles_are a b s L [] = (a, s, L, [], ends)
singles_are a b s L (e ∷ T) = by_kind_lem e
    (λ k. let o = add_order e.name e.weight in let q = singles_are (changed a b s L o).drive b (changed_state a b s L o) (changed_list a b s L o) T in (q.0, q.1, q.2, _, adds k (changes a b s L o) q.4))
    (λ k. let o = remove_order e.name in let q = singles_are (changed a b s L o).drive b (changed_state a b s L o) (changed_list a b s L o) T in (q.0, q.1, q.2, _, removes k (changes a b s L o) q.4))
    (λ k. let o = over_order e.name e.weight in let q = singles_are (changed a b s L o).drive b (changed_state a b s L o) (changed_list a b s L o) T in (q.0, q.1, q.2, _, overs k (changes a b s L o) q.4))
    (λ i j k. let q = singles_are a b s L T in (q.0, q.1, q.2, _, skips i j k q.4))

-- ---- what stays

pub questions_stay : (a b : Drive) (s : BoardTables) (L : List ℕ) (T : List Entry) → map question (batch_of a b s L T).table ≡ map question T
unfolding batch_of carried
questions_stay a b s L [] = refl
questions_stay a b s L (e ∷ T) = ap (λ (qs : List Order). question e ∷ qs) (questions_stay (carried a b s L e).drive b (ordered_state a b s L e) (ordered_list a b s L e) T)

carry_record : (a b : Drive) (s : BoardTables) (L : List ℕ) (e : Entry) → (carried a b s L e).drive ≡ a
unfolding carried ordered
carry_record a b s L e = by_kind_lem e
    (λ k. rw (eq-eqb e.kind 1 k) refl)
    (λ k. rw k refl)
    (λ k. rw k refl)
    (λ i j k. rw (ne_eqb e.kind 1 i, ne_eqb e.kind 2 j, ne_eqb e.kind 3 k) refl)

-- No change moves a record, so the record that comes back is the one that was passed.
pub record_stays : (a b : Drive) (s : BoardTables) (L : List ℕ) (T : List Entry) → (batch_of a b s L T).drive ≡ a
unfolding batch_of
record_stays a b s L [] = refl
record_stays a b s L (e ∷ T) = record_stays (carried a b s L e).drive b (ordered_state a b s L e) (ordered_list a b s L e) T ∙ carry_record a b s L e

-- ---- a refused entry

module _ (a b : Drive) (s : BoardTables) (L : List ℕ) (e : Entry) (some : (carried a b s L e).entry.number ≡ 0 → ⊥) (none : (carried a b s L e).entry.number ≡ 13 → ⊥) where
  left_alone : (o : Order) {r : Ordered} {t : BoardTables} {F : List ℕ} → Orders a b s L o r t F → Carries a b s L e (record { drive = r.drive; entry = noted e (ordering_answer r.answer) }) t F
      → (s ≡ ordered_state a b s L e) × (L ≡ ordered_list a b s L e)
  left_alone o p q =
      let n = ap (λ (c : Carried). c.entry.number) q.0 in
      let f = change_refused a b s L o p (λ z. some (sym n ∙ z)) in
      (sym f.1 ∙ q.1, sym (f.2 (λ z. none (sym n ∙ z))) ∙ q.2)

  alone : (s ≡ ordered_state a b s L e) × (L ≡ ordered_list a b s L e)
  alone = by_kind_lem e
      (λ k. let o = add_order e.name e.weight in left_alone o (changes a b s L o) (carry_adds a b s L e k (changes a b s L o)))
      (λ k. let o = remove_order e.name in left_alone o (changes a b s L o) (carry_removes a b s L e k (changes a b s L o)))
      (λ k. let o = over_order e.name e.weight in left_alone o (changes a b s L o) (carry_overs a b s L e k (changes a b s L o)))
      (λ i j k. let q = unknown_kind_lem a b s L e i j k in (q.1, q.2))

  -- An entry whose number is neither 0 nor 13 leaves the record, the board, the tables and the list as they were,
  pub carry_refused : Carries a b s L e (record { drive = a; entry = (carried a b s L e).entry }) s L
  carry_refused = (ap (λ (d : Drive). record { drive = d; entry = (carried a b s L e).entry }) (sym (carry_record a b s L e)), alone.0, alone.1)

  -- so it does not stop the rest, which is carried out as if it were not there.
  pub refused_rest : (T : List Entry) → batch_of a b s L (e ∷ T) ≡ before (carried a b s L e).entry (batch_of a b s L T)
  refused_rest T = batch_next a b s L e T carry_refused

-- ---- in parts

pub in_parts : (a b : Drive) (s : BoardTables) (L : List ℕ) (T U : List Entry)
    → batch_of a b s L (T ++ U) ≡ (let l = batch_of a b s L T in let m = batch_of l.drive b l.state l.list U in record { drive = m.drive; state = m.state; list = m.list; table = l.table ++ m.table })
unfolding batch_of
in_parts a b s L [] U = refl
in_parts a b s L (e ∷ T) U = ap (before (carried a b s L e).entry) (in_parts (carried a b s L e).drive b (ordered_state a b s L e) (ordered_list a b s L e) T U)
