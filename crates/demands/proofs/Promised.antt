-- A call that keeps its promise does and says what the histories take it to. Assumes nothing.
use mathlib.Core.Path.{◌≡◌, ap, ap₂}
use mathlib.Core.List.{List}
use Prim.Native.Nat.{ℕ}
use Rattle.calls.specs.declared.Drive.{Drive}
use Rattle.calls.specs.Types.{Checked, Changed, Served, Reported}
use Rattle.calls.specs.Answers.{change_answer, serving_answer, check_answer, report_answer}
use Rattle.calls.specs.Promises.{Opens, Adds, Removes, Refreshes, Serves, Rounds, Reports}
use Rattle.demands.specs.Histories.{Add, Remove, Slot, Round, Report, Fresh, does, says, opens}
use Rattle.demands.specs.Refusing.{writes}
use Rattle.demands.proofs.Valid.{state_at}

pub open_kept : (C : ℕ) (B : List ℕ) {E : List ℕ} {r : Checked} → Opens C B r E → state_at r.drive E ≡ opens C B
open_kept C B p = ap₂ state_at (ap (λ (r : Checked). r.drive) p.0) p.2

module _ (d : Drive) (B : List ℕ) where
  pub add_kept : (x w : ℕ) {E : List ℕ} {r : Changed} → Adds d B x w r E
      → (state_at r.drive E ≡ does (Add x w) (state_at d B)) × (change_answer r.answer ≡ says (Add x w) (state_at d B))
  add_kept x w p = (ap₂ state_at (ap (λ (r : Changed). r.drive) p.0) p.2, p.1)

  pub remove_kept : (x : ℕ) {E : List ℕ} {r : Changed} → Removes d B x r E
      → (state_at r.drive E ≡ does (Remove x) (state_at d B)) × (change_answer r.answer ≡ says (Remove x) (state_at d B))
  remove_kept x p = (ap₂ state_at (ap (λ (r : Changed). r.drive) p.0) p.2, p.1)

  pub slot_kept : {r : Served} → Serves d B r → (state_at r.drive B ≡ does Slot (state_at d B)) × (serving_answer r.answer ≡ says Slot (state_at d B))
  slot_kept p = (ap (λ (r : Served). state_at r.drive B) p.0, p.1)

  pub round_kept : (O : List ℕ) {E : List ℕ} {r : Checked} → Rounds d B O r E
      → (state_at r.drive B ≡ does (Round O) (state_at d B)) × (check_answer r.answer ≡ says (Round O) (state_at d B)) × (E ≡ writes (Round O) (state_at d B))
  round_kept O p = (ap (λ (r : Checked). state_at r.drive B) p.0, p.1, p.2)

  pub report_kept : (x : ℕ) {r : Reported} → Reports d B x r → (state_at r.drive B ≡ does (Report x) (state_at d B)) × (report_answer r.answer ≡ says (Report x) (state_at d B))
  report_kept x p = (ap (λ (r : Reported). state_at r.drive B) p.0, p.1)

  pub fresh_kept : {E : List ℕ} {r : Checked} → Refreshes d B r E
      → (state_at r.drive E ≡ does Fresh (state_at d B)) × (check_answer r.answer ≡ says Fresh (state_at d B))
  fresh_kept p = (ap₂ state_at (ap (λ (r : Checked). r.drive) p.0) p.2, p.1)
