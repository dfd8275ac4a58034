-- The laws of slot on a lent record: no second result fits, a refusal leaves the record, the board and the list as they were, and with the own record in both
-- places it is the slot of one drive. Assumes nothing.
use mathlib.Core.Path.{◌≡◌, refl, ap, ◌∙◌}
use mathlib.Core.List.{List}
use Prim.Native.Nat.{ℕ}
use lib.ListN.{length}
use Rattle.general.proofs.Laws.{unique}
use Rattle.calls.specs.declared.Drive.{Drive}
use Rattle.calls.specs.Types.{Served}
use Rattle.calls.proofs.Laws.{refusal}
use Rattle.orders.specs.Results as single
use Rattle.drives.specs.Checks.{list_check}
use Rattle.drives.proofs.Laws.{slot_one_is_two}
use Rattle.replies.specs.declared.Said.{Said}
use Rattle.replies.specs.Replies.{said_of}
use Rattle.exports.specs.Promises.{ServesHere}

module _ (a b : Drive) (B L : List ℕ) where
  pub here_unique : {s t : Said} {d e : Drive} {E F G H : List ℕ} → ServesHere a b B L s d E F → ServesHere a b B L t e G H → (s ≡ t) × (d ≡ e) × (E ≡ G) × (F ≡ H)
  here_unique p q = (unique p.0 q.0, unique p.1 q.1, unique p.2 q.2, unique p.3 q.3)

  pub here_refused : {s : Said} {d : Drive} {E F : List ℕ} → ServesHere a b B L s d E F → (s.number ≡ 0 → ⊥) → (d ≡ a) × (E ≡ B) × (F ≡ L)
  here_refused p h =
      let k = (refusal (list_check a b B (length L)) (λ z. h (ap (λ (s : Said). s.number) p.0 ∙ z))).1 in
      (p.1 ∙ rw k refl, p.2 ∙ rw k refl, p.3 ∙ rw k refl)

pub here_one_is_two : (a : Drive) (B L : List ℕ) {s : Said} {d : Drive} {E F : List ℕ} → ServesHere a a B L s d E F
    → (s ≡ said_of (single.served_answer a B L)) × (d ≡ (single.served a B L).drive) × (E ≡ single.served_board a B L) × (F ≡ single.served_list a B L)
here_one_is_two a B L p =
    let q = slot_one_is_two a B L in
    (p.0 ∙ ap said_of q.1, p.1 ∙ ap (λ (r : Served). r.drive) q.0, p.2 ∙ q.2, p.3 ∙ q.3)
