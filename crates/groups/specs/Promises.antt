-- What an import promises, for every input: the result, the same in number and values, and what the board (E), the list (F) and the output (G) hold at exit.
-- Assumes nothing.
use Rattle.std.specs.Prelude.{◌≡◌, List, ℕ, Ok}
use Rattle.groups.specs.Types.{Importing, Imported}
use Rattle.groups.specs.Results.{importing_answer, result_by, board_by, list_by, output_by, table_by, finds, finds_shares}

-- By what the checks find.
abbrev pub ImportsBy : Importing → ℕ → List ℕ → List ℕ → List ℕ → List ℕ → List ℕ → Imported → List ℕ → List ℕ → List ℕ → Type 0
ImportsBy f C S N B L O r E F G =
    (r ≡ result_by f C) × (importing_answer r.answer ≡ importing_answer f) × (E ≡ board_by f C S N B) × (F ≡ list_by f L) × (G ≡ output_by f C S N O)

-- What a caller that made other checks vouches for: where they find nothing, neither do those of an import.
abbrev pub VouchesImport : Importing → ℕ → List ℕ → List ℕ → List ℕ → List ℕ → List ℕ → Type 0
VouchesImport f C S N B L O = f ≡ Ok tt → finds C S N B L O ≡ Ok tt

abbrev pub Imports : ℕ → List ℕ → List ℕ → List ℕ → List ℕ → List ℕ → Imported → List ℕ → List ℕ → List ℕ → Type 0
Imports C S N B L O r E F G = ImportsBy (finds C S N B L O) C S N B L O r E F G

-- With tables: what they hold at exit (X, Y, Y').
abbrev pub ImportsShares : ℕ → List ℕ → List ℕ → List ℕ → List ℕ → List ℕ → List ℕ → List ℕ → List ℕ → Imported → List ℕ → List ℕ → List ℕ → List ℕ → List ℕ → List ℕ → Type 0
ImportsShares C S N B T D D' L O r E X Y Y' F G =
    ImportsBy (finds_shares C S N B T D D' L O) C S N B L O r E F G
    × ((X ≡ table_by (finds_shares C S N B T D D' L O) C T) × (Y ≡ table_by (finds_shares C S N B T D D' L O) C D) × (Y' ≡ table_by (finds_shares C S N B T D D' L O) C D'))
