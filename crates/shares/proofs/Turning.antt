-- The turn of a slot: what the code relies on, and what it finds. Assumes nothing.
use mathlib.Core.Path.{◌≡◌, refl, sym, ap, subst, ◌∙◌}
use mathlib.Core.Bool.{Bool}
use mathlib.Core.List.{List, [], ◌∷◌}
use Prim.Native.Nat.{ℕ, ◌≤◌, ◌<◌}
use lib.ListN.{length}
use Rattle.sequences.proofs.Laws.{leaf_below_lem}
use Rattle.tables.specs.Turns.{Shared}
use Rattle.tables.proofs.Laws.{fits_shared}
use Rattle.calls.specs.declared.Drive.{Drive}
use Rattle.calls.specs.declared.Slot.{Slot}
use Rattle.std.specs.Prelude.{Ok}
use Rattle.calls.specs.Types.{Served}
use Rattle.calls.specs.Answers.{serving_answer}
use Rattle.calls.specs.Results as calls
use Rattle.calls.specs.Results.{served_leaf, served_passed, served_round, served_name}
use Rattle.calls.proofs.Laws.{slot_sized, slot_position}
use Rattle.waiting.specs.Layout.{too_short}
use Rattle.drives.specs.Checks.{both_start}
use Rattle.shares.specs.States.{BoardTables}
use Rattle.shares.specs.Checks.{list_check, Ready}
use Rattle.shares.specs.Results.{state_if, list_if, state_then, list_then, turn_state, served_by, served_answer_by}
use Rattle.shares.specs.Promises.{Serves}
use Rattle.shares.proofs.Readying.{share_ready}
use Rattle.shares.proofs.Running.{if_ready}

module _ (d : Drive) (s : BoardTables) (is : Ready d s) where
  pub leaf_within : served_leaf d < d.capacity
  leaf_within = leaf_below_lem d.capacity d.position (slot_position d s.board is.clear)

  -- y is what the plain slot returns
  module _ (y : Served) (p : y ≡ calls.served d s.board) where
    says : y.answer ≡ Ok (record { name = (served_name d s.board); leaf = (served_leaf d); passed = (served_passed d); round = (served_round d) })
    says = ap (λ (z : Served). z.answer) p ∙ rw is.clear refl

    module _ (slot : Slot) (e : y.answer ≡ Ok slot) where
      slot_is : slot ≡ record { name = served_name d s.board; leaf = served_leaf d; passed = served_passed d; round = served_round d }
      slot_is = let f = sym e ∙ says in cc

      leaf_is : slot.leaf ≡ served_leaf d
      leaf_is = ap (λ (z : Slot). z.leaf) slot_is

      -- what the turn relies on
      pub turn_ready : (slot.leaf < d.capacity) × (d.capacity ≤ length s.owed) × Shared d.capacity s.board s.rates
      turn_ready =
          let z = slot_sized d s.board is.clear in
          (rw leaf_is leaf_within, is.owed, fits_shared d.capacity s.board s.rates (s.owed ∷ s.other ∷ []) z.few z.long is.rates is.fit)

-- ---- slot: t and M are the state and the list once the list is run, where a round begins

module _ (a b : Drive) (s : BoardTables) (L : List ℕ) (e : list_check a b s (length L) ≡ Ok tt) (begins : Bool) (t : BoardTables) (ran : t ≡ state_if begins a s L) where
  pub slot_ready : Ready a t
  slot_ready = subst (λ (u : BoardTables). Ready a u) (sym ran) (if_ready begins a s L (share_ready a b s (too_short (length L)) e))

  pub slot_done : begins ≡ both_start a b → (M : List ℕ) → M ≡ list_if begins a s L → (r : Served) (u : BoardTables) → r ≡ served_by (Ok tt) a t → u ≡ turn_state a t
      → Serves a b s L r u M
  unfolding state_then list_then
  slot_done f M kept r u served turned =
      let z : t ≡ state_if (both_start a b) a s L = ran ∙ ap (λ (x : Bool). state_if x a s L) f in
      let m : M ≡ list_if (both_start a b) a s L = kept ∙ ap (λ (x : Bool). list_if x a s L) f in
      rw e (
        served ∙ ap (λ (v : BoardTables). served_by (Ok tt) a v) z,
        ap (λ (q : Served). serving_answer q.answer) served ∙ ap (λ (v : BoardTables). served_answer_by (Ok tt) a v) z,
        turned ∙ ap (λ (v : BoardTables). turn_state a v) z,
        m,
      )
