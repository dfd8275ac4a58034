-- What a turn of a loop over a table does, whatever its calls are lent beside the list: done are the entries that are carried out, e the next one, es the rest.
-- Assumes nothing.
use mathlib.Core.Path.{◌≡◌, refl, sym, subst, ◌∙◌, ap}
use mathlib.Core.List.{List, [], ◌∷◌, ◌++◌}
use Prim.Native.Nat.{ℕ, ◌+◌, ◌<◌, ◌≤◌}
use native.Mathlib.Omega.{arith}
use lib.ListN.{length, get_or, set, length-append}
use Rattle.calls.specs.declared.Drive.{Drive}
use Rattle.batch.specs.declared.Entry.{Entry}
use Rattle.batch.specs.declared.Carried.{Carried}

module _ {A : Type 0} where
  pub at_done : (done : List A) (e z : A) (es : List A) → get_or (done ++ e ∷ es) (length done) z ≡ e
  at_done [] e z es = refl
  at_done (x ∷ done) e z es = at_done done e z es

  set_done : (done : List A) (e : A) (es : List A) (y : A) → set (done ++ e ∷ es) (length done) y ≡ (done ++ y ∷ []) ++ es
  set_done [] e es y = refl
  set_done (x ∷ done) e es y = ap (λ (l : List A). x ∷ l) (set_done done e es y)

  one_more : (done : List A) (y : A) → length done + 1 ≡ length (done ++ y ∷ [])
  one_more done y = sym (length-append done (y ∷ []))

-- The calls on the entries of a table: S is what they are lent beside the list, L what a table leaves. `batch_of` says what the entries leave, `joined` puts
-- entries that are carried out before what the rest leaves, and `Carries` is the promise of one entry.
module _ {S L : Type 0} (batch_of : Drive → Drive → S → List ℕ → List Entry → L) (joined : List Entry → L → L) where
  -- The first i entries are carried out, and what the rest leaves is behind them: all of it is `all`.
  pub record Part (all : L) (d b : Drive) (s : S) (list : List ℕ) (table : List Entry) (i : ℕ) : Type 0 where
    pub done : List Entry
    pub rest : List Entry
    pub stands : table ≡ done ++ rest
    pub at : i ≡ length done
    pub is : all ≡ joined done (batch_of d b s list rest)

  pub begins : (d b : Drive) (s : S) (list : List ℕ) (table : List Entry) (all : L) → all ≡ joined [] (batch_of d b s list table) → Part all d b s list table 0
  begins d b s list table all h = record { done = []; rest = table; stands = refl; at = refl; is = h }

  module _ (Carries : Drive → Drive → S → List ℕ → Entry → Carried → S → List ℕ → Type 0)
      (next : (d b : Drive) (s : S) (list : List ℕ) (e : Entry) (es : List Entry) (r : Carried) (t : S) (list' : List ℕ)
      → Carries d b s list e r t list' → batch_of d b s list (e ∷ es) ≡ joined (r.entry ∷ []) (batch_of r.drive b t list' es))
      (join : (done : List Entry) (y : Entry) (l : L) → joined done (joined (y ∷ []) l) ≡ joined (done ++ y ∷ []) l) where
    turned : (all : L) (d b : Drive) (s : S) (list : List ℕ) (done rest : List Entry) (e z : Entry) (r : Carried) (t : S) (list' : List ℕ)
        → length done < length (done ++ rest) → e ≡ get_or (done ++ rest) (length done) z → Carries d b s list e r t list' → all ≡ joined done (batch_of d b s list rest)
        → Part all r.drive b t list' (set (done ++ rest) (length done) r.entry) (length done + 1)
    turned all d b s list done [] e z r t list' l is f h = absurd (omega (arith, l, length-append done []))
    turned all d b s list done (x ∷ es) e z r t list' l is f h =
        let same : e ≡ x = is ∙ at_done done x z es in
        let g : Carries d b s list x r t list' = subst (λ (y : Entry). Carries d b s list y r t list') same f in
        record {
          done = done ++ r.entry ∷ [];
          rest = es;
          stands = set_done done x es r.entry;
          at = one_more done r.entry;
          is = h ∙ ap (joined done) (next d b s list x es r t list' g) ∙ join done r.entry (batch_of r.drive b t list' es);
        }

    turn_at : (all : L) (d b : Drive) (s : S) (list : List ℕ) (table done rest : List Entry) (i : ℕ) (e z : Entry) (r : Carried) (t : S) (list' : List ℕ)
        → table ≡ done ++ rest → i ≡ length done → i < length table → e ≡ get_or table i z → Carries d b s list e r t list' → all ≡ joined done (batch_of d b s list rest)
        → Part all r.drive b t list' (set table i r.entry) (i + 1)
    turn_at all d b s list table done rest i e z r t list' o a l is f h =
        rw (o, a) (turned all d b s list done rest e z r t list' (rw (o, a) at l) (rw (o, a) at is) f h)

    -- one entry more is carried out
    pub turn : (all : L) (d b : Drive) (s : S) (list : List ℕ) (table : List Entry) (i : ℕ) (e z : Entry) (r : Carried) (t : S) (list' : List ℕ)
        → Part all d b s list table i → i < length table → e ≡ get_or table i z → Carries d b s list e r t list'
        → Part all r.drive b t list' (set table i r.entry) (i + 1)
    turn all d b s list table i e z r t list' p l is f = turn_at all d b s list table p.done p.rest i e z r t list' p.stands p.at l is f p.is

  ends_at : (all : L) (d b : Drive) (s : S) (list : List ℕ) (table done rest : List Entry) (i : ℕ)
      → table ≡ done ++ rest → i ≡ length done → length table ≤ i → all ≡ joined done (batch_of d b s list rest)
      → (gone : List Entry) × (table ≡ gone ++ []) × (all ≡ joined gone (batch_of d b s list []))
  ends_at all d b s list table done [] i o a l h = (done, o, h)
  ends_at all d b s list table done (x ∷ es) i o a l h = absurd (omega (arith, ap length o, length-append done (x ∷ es), a, l))

  -- none is left
  pub ends : (all : L) (d b : Drive) (s : S) (list : List ℕ) (table : List Entry) (i : ℕ) → Part all d b s list table i → length table ≤ i
      → (gone : List Entry) × (table ≡ gone ++ []) × (all ≡ joined gone (batch_of d b s list []))
  ends all d b s list table i p l = ends_at all d b s list table p.done p.rest i p.stands p.at l p.is
