-- The laws of a table of changes that upper crates cite: it is what the single calls are, in that order, for two drives and for one; no second result fits; a
-- kind that is none is answered 7 and changes nothing; an entry's question stays, and so does the record; a refused entry does not stop the rest; a table
-- may be carried out in parts. Assumes nothing.
use mathlib.Core.Path.{◌≡◌, refl, sym, ap, subst, ◌∙◌}
use mathlib.Core.List.{List, [], ◌∷◌, ◌++◌, map}
use Prim.Native.Nat.{ℕ}
use lib.Dec.{eqb}
use borrow.Author.Tests.{eq-eqb, ne_eqb, eqb-true, eqb-false}
use Rattle.general.proofs.Laws.{unique, by_bool}
use Rattle.calls.specs.declared.Drive.{Drive}
use Rattle.calls.specs.Answers.{Answer}
use Rattle.waiting.specs.declared.Order.{Order}
use Rattle.orders.specs.Types.{Ordered}
use Rattle.orders.specs.Answers.{ordering_answer}
use Rattle.orders.specs.Results.{add_order, remove_order}
use Rattle.orders.specs.Checks as one_checks
use Rattle.orders.specs.Results as one_results
use Rattle.orders.specs.Promises as one
use Rattle.orders.proofs.Laws.{change_says}
use Rattle.drives.specs.Checks.{way_of}
use Rattle.drives.specs.Results.{changed, changed_board, changed_list}
use Rattle.drives.specs.Promises.{Orders}
use Rattle.drives.proofs.Laws.{change_refused, change_one_is_two}
use Rattle.batch.specs.declared.Entry.{Entry}
use Rattle.batch.specs.declared.Carried.{Carried}
use Rattle.batch.specs.Entries.{question, answering, noted, ordered, ordered_board, ordered_list, carried, before, batch_of}
use Rattle.batch.specs.Promises.{Carries, Batches}
use Rattle.batch.specs.Singles.{Promise, Singles, ends, adds, removes, skips, noted_all}

-- ---- entry by entry

module _ (a b : Drive) (B L : List ℕ) where
  pub carry_unique : (e : Entry) {r s : Carried} {E F G H : List ℕ} → Carries a b B L e r E F → Carries a b B L e s G H → (r ≡ s) × (E ≡ G) × (F ≡ H)
  carry_unique e p q = (unique p.0 q.0, unique p.1 q.1, unique p.2 q.2)

  pub batch_unique : (T : List Entry) {r s : Drive} {E F G H : List ℕ} {U X : List Entry} → Batches a b B L T r E F U → Batches a b B L T s G H X
      → (r ≡ s) × (E ≡ G) × (F ≡ H) × (U ≡ X)
  batch_unique T p q = (unique p.0 q.0, unique p.1 q.1, unique p.2 q.2, unique p.3 q.3)

  -- An empty table changes nothing,
  pub batch_none : batch_of a b B L [] ≡ record { drive = a; board = B; list = L; table = [] }
  unfolding batch_of
  batch_none = refl

  -- and another does what its first entry does, and then what the rest does.
  pub batch_next : (e : Entry) (T : List Entry) {r : Carried} {E F : List ℕ} → Carries a b B L e r E F → batch_of a b B L (e ∷ T) ≡ before r.entry (batch_of r.drive b E F T)
  unfolding batch_of
  batch_next e T p = rw (p.0, p.1, p.2) refl

  -- What an entry does: the call that it asks for,
  pub carry_adds : (e : Entry) {r : Ordered} {E F : List ℕ} → e.kind ≡ 1 → Orders a b B L (add_order e.name e.weight) r E F
      → Carries a b B L e (record { drive = r.drive; entry = noted e (ordering_answer r.answer) }) E F
  unfolding carried ordered ordered_board ordered_list
  carry_adds e k p = let t = eq-eqb e.kind 1 k in (rw (t, p.0) refl, rw t p.2, rw t p.3)

  pub carry_removes : (e : Entry) {r : Ordered} {E F : List ℕ} → e.kind ≡ 2 → Orders a b B L (remove_order e.name) r E F
      → Carries a b B L e (record { drive = r.drive; entry = noted e (ordering_answer r.answer) }) E F
  unfolding carried ordered ordered_board ordered_list
  carry_removes e k p = rw k (rw p.0 refl, p.2, p.3)

  -- and for any other kind nothing: it is answered 7.
  pub unknown_kind_lem : (e : Entry) → (e.kind ≡ 1 → ⊥) → (e.kind ≡ 2 → ⊥) → Carries a b B L e (record { drive = a; entry = answering e 7 0 }) B L
  unfolding carried ordered ordered_board ordered_list
  unknown_kind_lem e j k = let f = ne_eqb e.kind 1 j in let g = ne_eqb e.kind 2 k in (rw (f, g) refl, rw (f, g) refl, rw (f, g) refl)

-- ---- the single calls, in that order

-- A table leaves the record, the board and the list that single calls lead to, and their answers in its places.
pub batch_singles : (b : Drive) {a s : Drive} {B L E F : List ℕ} {T : List Entry} {ss : List Answer} → Singles (λ d. Orders d b) a B L T s E F ss
    → batch_of a b B L T ≡ record { drive = s; board = E; list = F; table = noted_all T ss }
unfolding noted_all
batch_singles b {a} {B = B} {L} ends = batch_none a b B L
batch_singles b {a} {B = B} {L} (adds {e = e} {T} k p q) = batch_next a b B L e T (carry_adds a b B L e k p) ∙ ap (before _) (batch_singles b q)
batch_singles b {a} {B = B} {L} (removes {e = e} {T} k p q) = batch_next a b B L e T (carry_removes a b B L e k p) ∙ ap (before _) (batch_singles b q)
batch_singles b {a} {B = B} {L} (skips {e = e} {T} j k q) = batch_next a b B L e T (unknown_kind_lem a b B L e j k) ∙ ap (before _) (batch_singles b q)

-- ---- there are such calls for every table: a promise that can be kept can be kept again and again

pub by_kind_lem : (e : Entry) {P : Type 0} → (e.kind ≡ 1 → P) → (e.kind ≡ 2 → P) → ((e.kind ≡ 1 → ⊥) → (e.kind ≡ 2 → ⊥) → P) → P
by_kind_lem e f g h = by_bool (eqb e.kind 1)
    (λ t. f (eqb-true e.kind 1 t))
    (λ n. by_bool (eqb e.kind 2) (λ t. g (eqb-true e.kind 2 t)) (λ m. h (eqb-false e.kind 1 n) (eqb-false e.kind 2 m)))

abbrev Leads : Promise → Drive → List ℕ → List ℕ → List Entry → Type 0
Leads P d B L T = (s : Drive) × (E : List ℕ) × (F : List ℕ) × (ss : List Answer) × Singles P d B L T s E F ss

module _ (P : Promise) (kept : (d : Drive) (B L : List ℕ) (o : Order) → (r : Ordered) × (E : List ℕ) × (F : List ℕ) × P d B L o r E F) where
  leads : (d : Drive) (B L : List ℕ) (T : List Entry) → Leads P d B L T
  leads d B L [] = (d, B, L, [], ends)
  leads d B L (e ∷ T) = by_kind_lem e
      (λ k. let c = kept d B L (add_order e.name e.weight) in let q = leads c.0.drive c.1 c.2 T in (q.0, q.1, q.2, _, adds k c.3 q.4))
      (λ k. let c = kept d B L (remove_order e.name) in let q = leads c.0.drive c.1 c.2 T in (q.0, q.1, q.2, _, removes k c.3 q.4))
      (λ j k. let q = leads d B L T in (q.0, q.1, q.2, _, skips j k q.4))

changes : (a b : Drive) (B L : List ℕ) (o : Order) → Orders a b B L o (changed a b B L o) (changed_board a b B L o) (changed_list a b B L o)
changes a b B L o = (refl, change_says (way_of a b B L o) a B L o, refl, refl)

pub singles_are : (a b : Drive) (B L : List ℕ) (T : List Entry) → Leads (λ d. Orders d b) a B L T
singles_are a b = leads (λ d. Orders d b) (λ d B L o. (changed d b B L o, changed_board d b B L o, changed_list d b B L o, changes d b B L o)) a

pub one_singles_are : (d : Drive) (B L : List ℕ) (T : List Entry) → Leads one.Orders d B L T
one_singles_are =
    leads one.Orders (λ d B L o. (one_results.changed d B L o, one_results.changed_board d B L o, one_results.changed_list d B L o, (refl, change_says (one_checks.way_of d B L o) d B L o, refl, refl)))

-- ---- one is two: with one record in both places the calls are those of one drive

one_change : (d : Drive) (B L : List ℕ) (o : Order) {r : Ordered} {E F : List ℕ} → one.Orders d B L o r E F → Orders d d B L o r E F
one_change d B L o p =
    let q = change_one_is_two d B L o in
    (p.0 ∙ sym q.0, p.1 ∙ sym q.1, p.2 ∙ sym q.2, p.3 ∙ sym q.3)

still : {d x s : Drive} {B L E F : List ℕ} {T : List Entry} {ss : List Answer} → x ≡ d → Singles (λ y. Orders y x) x B L T s E F ss → Singles (λ y. Orders y d) x B L T s E F ss
still {x = x} {s} {B} {L} {E} {F} {T} {ss} e q = subst (λ (z : Drive). Singles (λ y. Orders y z) x B L T s E F ss) e q

one_singles : {d s : Drive} {B L E F : List ℕ} {T : List Entry} {ss : List Answer} → Singles one.Orders d B L T s E F ss → Singles (λ x. Orders x d) d B L T s E F ss
one_singles ends = ends
one_singles {d} {B = B} {L} (adds {e = e} k p q) = adds k (one_change d B L (add_order e.name e.weight) p) (still (ap (λ (r : Ordered). r.drive) p.0) (one_singles q))
one_singles {d} {B = B} {L} (removes {e = e} k p q) = removes k (one_change d B L (remove_order e.name) p) (still (ap (λ (r : Ordered). r.drive) p.0) (one_singles q))
one_singles (skips j k q) = skips j k (one_singles q)

pub one_is_two : {d s : Drive} {B L E F : List ℕ} {T : List Entry} {ss : List Answer} → Singles one.Orders d B L T s E F ss
    → batch_of d d B L T ≡ record { drive = s; board = E; list = F; table = noted_all T ss }
one_is_two {d} q = batch_singles d (one_singles q)

-- ---- what stays

pub questions_stay : (a b : Drive) (B L : List ℕ) (T : List Entry) → map question (batch_of a b B L T).table ≡ map question T
unfolding batch_of carried
questions_stay a b B L [] = refl
questions_stay a b B L (e ∷ T) = ap (λ (qs : List Order). question e ∷ qs) (questions_stay (carried a b B L e).drive b (ordered_board a b B L e) (ordered_list a b B L e) T)

carry_record : (a b : Drive) (B L : List ℕ) (e : Entry) → (carried a b B L e).drive ≡ a
unfolding carried ordered
carry_record a b B L e = by_kind_lem e (λ k. rw (eq-eqb e.kind 1 k) refl) (λ k. rw k refl) (λ j k. rw (ne_eqb e.kind 1 j, ne_eqb e.kind 2 k) refl)

-- No change moves a record, so the record that comes back is the one that was passed.
pub record_stays : (a b : Drive) (B L : List ℕ) (T : List Entry) → (batch_of a b B L T).drive ≡ a
unfolding batch_of
record_stays a b B L [] = refl
record_stays a b B L (e ∷ T) = record_stays (carried a b B L e).drive b (ordered_board a b B L e) (ordered_list a b B L e) T ∙ carry_record a b B L e

-- ---- a refused entry

module _ (a b : Drive) (B L : List ℕ) (e : Entry) (some : (carried a b B L e).entry.number ≡ 0 → ⊥) (none : (carried a b B L e).entry.number ≡ 13 → ⊥) where
  left_alone : (o : Order) {r : Ordered} {E F : List ℕ} → Orders a b B L o r E F → Carries a b B L e (record { drive = r.drive; entry = noted e (ordering_answer r.answer) }) E F
      → (B ≡ ordered_board a b B L e) × (L ≡ ordered_list a b B L e)
  left_alone o p q =
      let n = ap (λ (c : Carried). c.entry.number) q.0 in
      let f = change_refused a b B L o p (λ z. some (sym n ∙ z)) in
      (sym f.1 ∙ q.1, sym (f.2 (λ z. none (sym n ∙ z))) ∙ q.2)

  alone : (B ≡ ordered_board a b B L e) × (L ≡ ordered_list a b B L e)
  alone = by_kind_lem e
      (λ k. let o = add_order e.name e.weight in left_alone o (changes a b B L o) (carry_adds a b B L e k (changes a b B L o)))
      (λ k. let o = remove_order e.name in left_alone o (changes a b B L o) (carry_removes a b B L e k (changes a b B L o)))
      (λ j k. let q = unknown_kind_lem a b B L e j k in (q.1, q.2))

  -- An entry whose number is neither 0 nor 13 leaves the record, the board and the list as they were,
  pub carry_refused : Carries a b B L e (record { drive = a; entry = (carried a b B L e).entry }) B L
  carry_refused = (ap (λ (d : Drive). record { drive = d; entry = (carried a b B L e).entry }) (sym (carry_record a b B L e)), alone.0, alone.1)

  -- so it does not stop the rest, which is carried out as if it were not there.
  pub refused_rest : (T : List Entry) → batch_of a b B L (e ∷ T) ≡ before (carried a b B L e).entry (batch_of a b B L T)
  refused_rest T = batch_next a b B L e T carry_refused

-- ---- in parts

pub in_parts : (a b : Drive) (B L : List ℕ) (T U : List Entry)
    → batch_of a b B L (T ++ U) ≡ (let l = batch_of a b B L T in let m = batch_of l.drive b l.board l.list U in record { drive = m.drive; board = m.board; list = m.list; table = l.table ++ m.table })
unfolding batch_of
in_parts a b B L [] U = refl
in_parts a b B L (e ∷ T) U = ap (before (carried a b B L e).entry) (in_parts (carried a b B L e).drive b (ordered_board a b B L e) (ordered_list a b B L e) T U)
