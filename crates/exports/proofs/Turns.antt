-- How far a table of changes has come, turn by turn. Assumes nothing.
use mathlib.Core.Path.{◌≡◌, refl, sym, ◌∙◌, ap}
use mathlib.Core.List.{List, [], ◌∷◌, ◌++◌, append_assoc}
use Prim.Native.Nat.{ℕ, ◌+◌, ◌<◌, ◌≤◌}
use lib.ListN.{length, get_or, set}
use Rattle.calls.specs.declared.Drive.{Drive}
use Rattle.batch.specs.declared.Entry.{Entry}
use Rattle.batch.specs.declared.Carried.{Carried}
use Rattle.batch.specs.Entries.{Left, batch_of}
use Rattle.batch.specs.Promises.{Carries}
use Rattle.batch.proofs.Laws.{batch_none, batch_next}
use Rattle.exports.proofs.Steps as steps

-- what the rest leaves, behind the entries that are carried out
abbrev joined : List Entry → Left → Left
joined done l = record { drive = l.drive; board = l.board; list = l.list; table = done ++ l.table }

join : (done : List Entry) (y : Entry) (l : Left) → joined done (joined (y ∷ []) l) ≡ joined (done ++ y ∷ []) l
join done y l = ap (λ (t : List Entry). record { drive = l.drive; board = l.board; list = l.list; table = t }) (sym (append_assoc done (y ∷ []) l.table))

-- where a table stands
abbrev pub Part : Left → Drive → Drive → List ℕ → List ℕ → List Entry → ℕ → Type 0
Part = steps.Part batch_of joined

pub begins : (d b : Drive) (s : List ℕ) (list : List ℕ) (table : List Entry) → Part (batch_of d b s list table) d b s list table 0
begins d b s list table = steps.begins batch_of joined d b s list table _ refl

-- one entry more is carried out
pub turn : (all : Left) (d b : Drive) (s : List ℕ) (list : List ℕ) (table : List Entry) (i : ℕ) (e z : Entry) (r : Carried) (t : List ℕ) (list' : List ℕ)
    → Part all d b s list table i → i < length table → e ≡ get_or table i z → Carries d b s list e r t list'
    → Part all r.drive b t list' (set table i r.entry) (i + 1)
turn = steps.turn batch_of joined Carries (λ d b s list e es r t list' f. batch_next d b s list e es f) join

-- none is left
pub ends : (all : Left) (d b : Drive) (s : List ℕ) (list : List ℕ) (table : List Entry) (i : ℕ) → Part all d b s list table i → length table ≤ i
    → (d ≡ all.drive) × (s ≡ all.board) × (list ≡ all.list) × (table ≡ all.table)
ends all d b s list table i p l =
    let g = steps.ends batch_of joined all d b s list table i p l in
    let e = sym (g.2 ∙ ap (joined g.0) (batch_none d b s list)) in
    (ap (λ (l : Left). l.drive) e, ap (λ (l : Left). l.board) e, ap (λ (l : Left). l.list) e, g.1 ∙ ap (λ (l : Left). l.table) e)
