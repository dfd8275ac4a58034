-- The run of the list: one place more, all places by the counts that the code has, and what is known of the state that it leaves. Assumes nothing.
use mathlib.Core.Path.{◌≡◌, sym, ap, ap₂, subst, ◌∙◌}
use mathlib.Core.Bool.{Bool, true, false}
use mathlib.Core.List.{List}
use Prim.Native.Nat.{ℕ, ◌+◌, ◌-◌, ◌<◌}
use Rattle.calls.specs.declared.Drive.{Drive}
use Rattle.waiting.specs.Layout.{answers_in, orders_in, order_at, waiting, counted, answered_at}
use Rattle.waiting.proofs.Laws.{state_from, list_from, state_next, list_next, state_all, list_all}
use Rattle.drives.specs.Checks.{both_start}
use Rattle.shares.specs.States.{BoardTables}
use Rattle.shares.specs.Checks.{Ready}
use Rattle.shares.specs.Results.{doing, saying, ran_state, ran_list, state_if, state_then}
use Rattle.shares.proofs.Doings.{carried_ready, all_ready}

-- one place more: t and M are the state and the list after it
pub ran_next : (d : Drive) (s : BoardTables) (L : List ℕ) (i end : ℕ) → i < end → Ready d s → (t : BoardTables) (M : List ℕ)
    → t ≡ doing d (order_at L i) s → M ≡ answered_at L i (saying d (order_at L i) s)
    → Ready d t
    × (state_from (doing d) (saying d) t M (i + 1) (end - (i + 1)) ≡ state_from (doing d) (saying d) s L i (end - i))
    × (list_from (doing d) (saying d) t M (i + 1) (end - (i + 1)) ≡ list_from (doing d) (saying d) s L i (end - i))
ran_next d s L i end h is t M e f = (
  subst (λ (u : BoardTables). Ready d u) (sym e) (carried_ready d s (order_at L i) is),
  ap₂ (λ (u : BoardTables) (N : List ℕ). state_from (doing d) (saying d) u N (i + 1) (end - (i + 1))) e f ∙ state_next (doing d) (saying d) s L i end h,
  ap₂ (λ (u : BoardTables) (N : List ℕ). list_from (doing d) (saying d) u N (i + 1) (end - (i + 1))) e f ∙ list_next (doing d) (saying d) s L i end h,
)

-- the list run to its end
pub ran_all : (d : Drive) (s t : BoardTables) (L M : List ℕ) (a w : ℕ) → a ≡ answers_in L → w ≡ orders_in L
    → t ≡ state_from (doing d) (saying d) s L a (a + w - a) → M ≡ list_from (doing d) (saying d) s L a (a + w - a)
    → (t ≡ ran_state d s L) × (counted M (a + w) 0 ≡ ran_list d s L)
unfolding ran_state ran_list
ran_all d s t L M a w ea ew e f =
    (e ∙ state_all (doing d) (saying d) s L a w ea ew, ap (λ (x : List ℕ). counted x (a + w) 0) f ∙ list_all (doing d) (saying d) s L a w ea ew)

-- What a record is ready for, it is ready for once the list is run.
pub if_ready : (begins : Bool) (d : Drive) (s : BoardTables) (L : List ℕ) → Ready d s → Ready d (state_if begins d s L)
unfolding ran_state
if_ready true d s L is = all_ready d s (waiting L) is
if_ready false d s L is = is

pub then_ready : (a b : Drive) (s : BoardTables) (L : List ℕ) → Ready a s → Ready a (state_then a b s L)
unfolding state_then
then_ready a b s L is = if_ready (both_start a b) a s L is
