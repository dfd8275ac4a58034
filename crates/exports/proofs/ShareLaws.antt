-- The laws of slot with the tables of over-allocated streams on a lent record: no second result fits, and a refusal leaves the record, the board, the tables and
-- the list as they were. Assumes nothing.
use mathlib.Core.Path.{◌≡◌, refl, ap, ◌∙◌}
use mathlib.Core.List.{List}
use Prim.Native.Nat.{ℕ}
use lib.ListN.{length}
use Rattle.general.proofs.Laws.{unique}
use Rattle.calls.specs.declared.Drive.{Drive}
use Rattle.calls.proofs.Laws.{refusal}
use Rattle.shares.specs.States.{BoardTables}
use Rattle.shares.specs.Checks.{list_check}
use Rattle.replies.specs.declared.Said.{Said}
use Rattle.exports.specs.Serving.{ShareServesHere}

module _ (a b : Drive) (s : BoardTables) (L : List ℕ) where
  pub share_here_unique : {r p : Said} {d e : Drive} {t u : BoardTables} {F G : List ℕ} → ShareServesHere a b s L r d t F → ShareServesHere a b s L p e u G
      → (r ≡ p) × (d ≡ e) × (t ≡ u) × (F ≡ G)
  share_here_unique p q = (unique p.0 q.0, unique p.1 q.1, unique p.2 q.2, unique p.3 q.3)

  pub share_here_refused : {r : Said} {d : Drive} {t : BoardTables} {F : List ℕ} → ShareServesHere a b s L r d t F → (r.number ≡ 0 → ⊥) → (d ≡ a) × (t ≡ s) × (F ≡ L)
  share_here_refused p h =
      let k = (refusal (list_check a b s (length L)) (λ z. h (ap (λ (r : Said). r.number) p.0 ∙ z))).1 in
      (p.1 ∙ rw k refl, p.2 ∙ rw k refl, p.3 ∙ rw k refl)
