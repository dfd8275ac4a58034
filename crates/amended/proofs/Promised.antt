-- A call with the list that keeps its promise says, returns and leaves what the histories take it to. Assumes nothing.
use mathlib.Core.Path.{◌≡◌, ap}
use mathlib.Core.List.{List}
use Prim.Native.Nat.{ℕ}
use Rattle.calls.specs.declared.Drive.{Drive}
use Rattle.calls.specs.Types.{Checked, Served, Reported}
use Rattle.calls.specs.Answers.{check_answer, serving_answer, report_answer}
use Rattle.calls.specs.Promises.{Rounds, Reports, Refreshes}
use Rattle.sheets.specs.Types.{Saved}
use Rattle.sheets.specs.Results.{saving_answer}
use Rattle.sheets.specs.Promises.{Saves, SavesPieces}
use Rattle.waiting.specs.Types.{Fetching}
use Rattle.waiting.specs.Promises.{Fetches}
use Rattle.orders.specs.Types.{Ordered}
use Rattle.orders.specs.Answers.{ordering_answer, fetching_answer}
use Rattle.orders.specs.Results.{add_order, remove_order}
use Rattle.orders.specs.Promises.{Opens, Loads, LoadsPieces, Orders, Serves}
use Rattle.amended.specs.Deeds as deeds
use Rattle.amended.specs.Deeds.{Leaves, Pieces, Deed, Desk, desk, answers, returned, board_after, list_after}
use Rattle.amended.specs.Refusing.{writes}

-- what is said, the record returned, the board and the list afterwards
abbrev pub Kept : Deed → Desk → Drive → List ℕ → List ℕ → Type 0
Kept a s d E F = (d ≡ returned a s) × (E ≡ board_after a s) × (F ≡ list_after a s)

module _ (d : Drive) (B L : List ℕ) where
  pub open_kept : (C : ℕ) {r : Checked} {E F : List ℕ} → Opens C B L r E F
      → (check_answer r.answer ≡ answers (deeds.Opens C) (desk d B L)) × Kept (deeds.Opens C) (desk d B L) r.drive E F
  open_kept C p = (p.1, (ap (λ (r : Checked). r.drive) p.0, p.2, p.3))

  pub read_kept : (S : List ℕ) {r : Checked} {E F : List ℕ} → Loads S B L r E F
      → (check_answer r.answer ≡ answers (deeds.Reads Leaves S) (desk d B L)) × Kept (deeds.Reads Leaves S) (desk d B L) r.drive E F
  read_kept S p = (p.1, (ap (λ (r : Checked). r.drive) p.0, p.2, p.3))

  pub read_pieces_kept : (S : List ℕ) {r : Checked} {E F : List ℕ} → LoadsPieces S B L r E F
      → (check_answer r.answer ≡ answers (deeds.Reads Pieces S) (desk d B L)) × Kept (deeds.Reads Pieces S) (desk d B L) r.drive E F
  read_pieces_kept S p = (p.1, (ap (λ (r : Checked). r.drive) p.0, p.2, p.3))

  pub add_kept : (x w : ℕ) {r : Ordered} {E F : List ℕ} → Orders d B L (add_order x w) r E F
      → (ordering_answer r.answer ≡ answers (deeds.Adds x w) (desk d B L)) × Kept (deeds.Adds x w) (desk d B L) r.drive E F
  add_kept x w p = (p.1, (ap (λ (r : Ordered). r.drive) p.0, p.2, p.3))

  pub remove_kept : (x : ℕ) {r : Ordered} {E F : List ℕ} → Orders d B L (remove_order x) r E F
      → (ordering_answer r.answer ≡ answers (deeds.Removes x) (desk d B L)) × Kept (deeds.Removes x) (desk d B L) r.drive E F
  remove_kept x p = (p.1, (ap (λ (r : Ordered). r.drive) p.0, p.2, p.3))

  pub slot_kept : {r : Served} {E F : List ℕ} → Serves d B L r E F
      → (serving_answer r.answer ≡ answers deeds.Slots (desk d B L)) × Kept deeds.Slots (desk d B L) r.drive E F
  slot_kept p = (p.1, (ap (λ (r : Served). r.drive) p.0, p.2, p.3))

  pub round_kept : (O : List ℕ) {r : Checked} {E : List ℕ} → Rounds d B O r E
      → (check_answer r.answer ≡ answers (deeds.Rounds O) (desk d B L)) × (r.drive ≡ returned (deeds.Rounds O) (desk d B L)) × (E ≡ writes (deeds.Rounds O) (desk d B L))
  round_kept O p = (p.1, ap (λ (r : Checked). r.drive) p.0, p.2)

  pub report_kept : (x : ℕ) {r : Reported} → Reports d B x r
      → (report_answer r.answer ≡ answers (deeds.Reports x) (desk d B L)) × (r.drive ≡ returned (deeds.Reports x) (desk d B L))
  report_kept x p = (p.1, ap (λ (r : Reported). r.drive) p.0)

  pub save_kept : (O : List ℕ) {r : Saved} {E : List ℕ} → Saves d B O r E
      → (saving_answer r.answer ≡ answers (deeds.Saves Leaves O) (desk d B L)) × (r.drive ≡ returned (deeds.Saves Leaves O) (desk d B L))
      × (E ≡ writes (deeds.Saves Leaves O) (desk d B L))
  save_kept O p = (p.1, ap (λ (r : Saved). r.drive) p.0, p.2)

  pub save_pieces_kept : (O : List ℕ) {r : Saved} {E : List ℕ} → SavesPieces d B O r E
      → (saving_answer r.answer ≡ answers (deeds.Saves Pieces O) (desk d B L)) × (r.drive ≡ returned (deeds.Saves Pieces O) (desk d B L))
      × (E ≡ writes (deeds.Saves Pieces O) (desk d B L))
  save_pieces_kept O p = (p.1, ap (λ (r : Saved). r.drive) p.0, p.2)

  pub fetch_kept : (t : ℕ) {r : Fetching} {F : List ℕ} → Fetches L t r F
      → (fetching_answer r ≡ answers (deeds.Fetches t) (desk d B L)) × (F ≡ list_after (deeds.Fetches t) (desk d B L))
  fetch_kept t p = (ap fetching_answer p.0, p.1)

  pub fresh_kept : {r : Checked} {E : List ℕ} → Refreshes d B r E
      → (check_answer r.answer ≡ answers deeds.Refreshes (desk d B L)) × (r.drive ≡ returned deeds.Refreshes (desk d B L)) × (E ≡ board_after deeds.Refreshes (desk d B L))
  fresh_kept p = (p.1, ap (λ (r : Checked). r.drive) p.0, p.2)
