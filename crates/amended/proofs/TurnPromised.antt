-- A call for two drives that keeps its promise says, returns and leaves what the histories of two drives take it to. Open, read and fetch are those of one drive.
-- Assumes nothing.
use mathlib.Core.Path.{◌≡◌, ap}
use mathlib.Core.List.{List}
use Prim.Native.Nat.{ℕ}
use Rattle.calls.specs.declared.Drive.{Drive}
use Rattle.calls.specs.Types.{Served, Checked, Reported}
use Rattle.calls.specs.Answers.{serving_answer, check_answer, report_answer}
use Rattle.sheets.specs.Types.{Saved}
use Rattle.sheets.specs.Results.{saving_answer}
use Rattle.orders.specs.Types.{Ordered}
use Rattle.orders.specs.Answers.{ordering_answer}
use Rattle.orders.specs.Results.{add_order, remove_order}
use Rattle.drives.specs.Promises.{Orders, Serves, Rounds, Reports, Saves, SavesPieces, Refreshes}
use Rattle.amended.specs.Deeds as deeds
use Rattle.amended.specs.Deeds.{Leaves, Pieces, Deed}
use Rattle.amended.specs.Turns.{Pair, answers_own, returned, board_after, list_after}
use Rattle.amended.specs.Sharing.{writes}

-- the record returned, the board and the list afterwards
abbrev pub Kept : Deed → Pair → Drive → List ℕ → List ℕ → Type 0
Kept a s d E F = (d ≡ returned a s) × (E ≡ board_after a s) × (F ≡ list_after a s)

module _ (s : Pair) where
  abbrev a : Drive
  a = s.own

  abbrev b : Drive
  b = s.other

  pub add_kept : (x w : ℕ) {r : Ordered} {E F : List ℕ} → Orders a b s.board s.list (add_order x w) r E F
      → (ordering_answer r.answer ≡ answers_own (deeds.Adds x w) s) × Kept (deeds.Adds x w) s r.drive E F
  add_kept x w p = (p.1, (ap (λ (r : Ordered). r.drive) p.0, p.2, p.3))

  pub remove_kept : (x : ℕ) {r : Ordered} {E F : List ℕ} → Orders a b s.board s.list (remove_order x) r E F
      → (ordering_answer r.answer ≡ answers_own (deeds.Removes x) s) × Kept (deeds.Removes x) s r.drive E F
  remove_kept x p = (p.1, (ap (λ (r : Ordered). r.drive) p.0, p.2, p.3))

  pub slot_kept : {r : Served} {E F : List ℕ} → Serves a b s.board s.list r E F
      → (serving_answer r.answer ≡ answers_own deeds.Slots s) × Kept deeds.Slots s r.drive E F
  slot_kept p = (p.1, (ap (λ (r : Served). r.drive) p.0, p.2, p.3))

  pub round_kept : (O : List ℕ) {r : Checked} {E : List ℕ} → Rounds a b s.board O r E
      → (check_answer r.answer ≡ answers_own (deeds.Rounds O) s) × (r.drive ≡ returned (deeds.Rounds O) s) × (E ≡ writes (deeds.Rounds O) s)
  round_kept O p = (p.1, ap (λ (r : Checked). r.drive) p.0, p.2)

  pub report_kept : (x : ℕ) {r : Reported} → Reports a b s.board x r
      → (report_answer r.answer ≡ answers_own (deeds.Reports x) s) × (r.drive ≡ returned (deeds.Reports x) s)
  report_kept x p = (p.1, ap (λ (r : Reported). r.drive) p.0)

  pub save_kept : (O : List ℕ) {r : Saved} {E : List ℕ} → Saves a b s.board O r E
      → (saving_answer r.answer ≡ answers_own (deeds.Saves Leaves O) s) × (r.drive ≡ returned (deeds.Saves Leaves O) s) × (E ≡ writes (deeds.Saves Leaves O) s)
  save_kept O p = (p.1, ap (λ (r : Saved). r.drive) p.0, p.2)

  pub save_pieces_kept : (O : List ℕ) {r : Saved} {E : List ℕ} → SavesPieces a b s.board O r E
      → (saving_answer r.answer ≡ answers_own (deeds.Saves Pieces O) s) × (r.drive ≡ returned (deeds.Saves Pieces O) s) × (E ≡ writes (deeds.Saves Pieces O) s)
  save_pieces_kept O p = (p.1, ap (λ (r : Saved). r.drive) p.0, p.2)

  pub fresh_kept : {r : Checked} {E : List ℕ} → Refreshes a b s.board r E
      → (check_answer r.answer ≡ answers_own deeds.Refreshes s) × (r.drive ≡ returned deeds.Refreshes s) × (E ≡ board_after deeds.Refreshes s)
  fresh_kept p = (p.1, ap (λ (r : Checked). r.drive) p.0, p.2)
