-- A single drive with tables: its record stands in both places of a call, and a second table of deficits is lent with it, which no slot of its own moves. It is
-- seen beside two drives that take their slots in step.
-- Assumes nothing.
use Rattle.std.specs.Prelude.{◌≡◌, List, [], ◌∷◌, ℕ, length}
use Rattle.calls.specs.declared.Drive.{Drive}
use Rattle.shares.specs.States.{BoardTables, lent}
use Rattle.amended.specs.Histories.{through, along}
use Rattle.shared_demands.specs.Turns.{Pair, Deed, Changes, Slots, Fetches, returned, state_after, list_after, name_own, given_own, Turn, Own, Other}

-- Its record, the board with the tables, and the list between two calls.
pub record One : Type 0 where
  pub drive : Drive
  pub state : BoardTables
  pub list : List ℕ

-- What a call is given.
abbrev pub twice : One → Pair
twice s = record { own = s.drive; other = s.drive; state = s.state; list = s.list }

abbrev pub leaves_one : Deed → One → One
leaves_one a s = record { drive = returned a (twice s); state = state_after a (twice s); list = list_after a (twice s) }

-- After calls, each given the record in both places, and the board, the tables and the list as the last one left them.
abbrev pub leaves_ones : One → List Deed → One
leaves_ones s deeds = through leaves_one s deeds

-- The names that its slots serve, and those on the leaves that they give.
abbrev pub names_one : One → List Deed → List ℕ
names_one s deeds = along leaves_one (λ a t. name_own a (twice t)) s deeds

abbrev pub given_one : One → List Deed → List ℕ
given_one s deeds = along leaves_one (λ a t. given_own a (twice t)) s deeds

-- A full round: its first slot is called at position 1, and with those among the calls that follow C slots are served.
pub record FullOne (s : One) (rest : List Deed) : Type 0 where
  pub first : s.drive.position ≡ 1
  pub slots : length (names_one s (Slots ∷ rest)) ≡ s.drive.capacity

-- Two drives in step with it, on the same board: each has its record and its deficits,
abbrev pub both : BoardTables → BoardTables
both t = lent t.board t.rates t.owed t.owed

abbrev pub in_step : One → Pair
in_step s = record { own = s.drive; other = s.drive; state = both s.state; list = s.list }

-- and the other takes a slot whenever the own does.
unfoldable pub turns_for : List Deed → List Turn
turns_for [] = []
turns_for (Changes o ∷ deeds) = Own (Changes o) ∷ turns_for deeds
turns_for (Slots ∷ deeds) = Own Slots ∷ Other Slots ∷ turns_for deeds
turns_for (Fetches t ∷ deeds) = Own (Fetches t) ∷ turns_for deeds
