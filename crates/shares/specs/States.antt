-- What a call with tables is lent beside the waiting list: the board, r, the deficits of the drive that the call is for, and those of the other drive.
-- Assumes nothing.
use Rattle.std.specs.Prelude.{◌≡◌, Bool, List, [], ◌∷◌, ℕ}
use Rattle.tables.specs.Sharing.{fits}
use Rattle.shares.specs.declared.Lent.{Lent}
use Rattle.shares.specs.declared.LentMut.{LentMut}

pub record BoardTables : Type 0 where
  pub board : List ℕ
  pub rates : List ℕ
  pub owed : List ℕ
  pub other : List ℕ

abbrev pub lent : List ℕ → List ℕ → List ℕ → List ℕ → BoardTables
lent B T E F = record { board = B; rates = T; owed = E; other = F }

-- What the references of a value hold.
abbrev pub looked : Lent → BoardTables
looked l = lent l.board.now l.rates.now l.owed.now l.owed_other.now

abbrev pub held : LentMut → BoardTables
held l = lent l.board.now l.rates.now l.owed.now l.owed_other.now

-- Two values have the same references.
abbrev pub same : LentMut → LentMut → Type 0
same l m = (m.board.ghost_name ≡ l.board.ghost_name)
    × (m.rates.ghost_name ≡ l.rates.ghost_name)
    × (m.owed.ghost_name ≡ l.owed.ghost_name)
    × (m.owed_other.ghost_name ≡ l.owed_other.ghost_name)

-- The one condition of a board of C leaves and its tables: where it does not hold, the answer is 5.
abbrev pub fitting : ℕ → BoardTables → Bool
fitting C s = fits C s.board s.rates (s.owed ∷ s.other ∷ [])
