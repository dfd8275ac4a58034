-- Orders that are carried out are plain calls: they lead where these lead, are answered what these say, and serve no slot; and do alike at equal C and p.
-- Assumes nothing.
use mathlib.Core.Path.{◌≡◌, refl, ap, ◌∙◌}
use mathlib.Core.Bool.{Bool, true, false, cond}
use mathlib.Core.List.{List, [], ◌∷◌}
use Prim.Native.Nat.{ℕ}
use lib.Dec.{eqb}
use Rattle.general.proofs.Laws.{by_bool}
use Rattle.calls.specs.declared.Drive.{Drive}
use Rattle.calls.specs.Types.{Check}
use Rattle.std.specs.Prelude.{Ok, Err}
use Rattle.calls.specs.Results.{if_clear}
use Rattle.demands.specs.Histories.{Add, Remove, State, says, after, log}
use Rattle.demands.specs.Rounds.{names}
use Rattle.demands.proofs.Laws.{state_at, after_append, names_append}
use Rattle.waiting.specs.declared.Order.{Order}
use Rattle.waiting.specs.Carrying.{carried_all}
use Rattle.orders.specs.Types.{Way}
use Rattle.orders.specs.declared.Moment.TheVariants as moment
use Rattle.orders.specs.Results.{add_order, remove_order, carried_answer, carried_board, doing}
use Rattle.amended.specs.Carried.{act_of, acts_of, in_turn}
use Rattle.amended.specs.Turns.{if_now}

-- where they lead
pub carry_one : (d : Drive) (B : List ℕ) (o : Order) → after (state_at d B) (act_of o) ≡ state_at d (carried_board d B o)
unfolding after act_of carried_board
carry_one d B o = by_bool (eqb o.kind 1)
    (λ t. rw t refl)
    (λ f. by_bool (eqb o.kind 2) (λ t. rw (f, t) refl) (λ n. rw (f, n) refl))

pub carry_all : (d : Drive) (B : List ℕ) (os : List Order) → after (state_at d B) (acts_of os) ≡ state_at d (carried_all (doing d) B os)
unfolding after acts_of carried_all
carry_all d B [] = refl
carry_all d B (o ∷ os) = after_append (state_at d B) (act_of o) (acts_of os)
    ∙ ap (λ (s : State). after s (acts_of os)) (carry_one d B o)
    ∙ carry_all d (carried_board d B o) os

-- what they are answered
pub add_says : (s : State) (x w : ℕ) → carried_answer s.drive s.board (add_order x w) ≡ says (Add x w) s
unfolding carried_answer
add_says s x w = refl

pub remove_says : (s : State) (x : ℕ) → carried_answer s.drive s.board (remove_order x) ≡ says (Remove x) s
unfolding carried_answer
remove_says s x = refl

pub turn_says : (d : Drive) (B : List ℕ) (ahead : List Order) (o : Order) → in_turn (state_at d B) ahead o ≡ carried_answer d (carried_all (doing d) B ahead) o
turn_says d B ahead o = rw (carry_all d B ahead) refl

-- they serve nothing
pub act_names : (s : State) (o : Order) → names (log s (act_of o)) ≡ []
unfolding act_of log names
act_names s o = by_bool (eqb o.kind 1)
    (λ t. rw t refl)
    (λ f. by_bool (eqb o.kind 2) (λ t. rw (f, t) refl) (λ n. rw (f, n) refl))

pub acts_names : (s : State) (os : List Order) → names (log s (acts_of os)) ≡ []
unfolding acts_of log names
acts_names s [] = refl
acts_names s (o ∷ os) = names_append s (act_of o) (acts_of os) ∙ rw (act_names s o) (acts_names (after s (act_of o)) os)

-- what hangs on C and p alone is the same at two records that a call carries orders out at
module _ {X : Type 0} (f : Drive → List Order → X) (none : (a b : Drive) → f a [] ≡ f b [])
    (some : (a b : Drive) → a.capacity ≡ b.capacity → a.position ≡ b.position → (os : List Order) → f a os ≡ f b os) (a b : Drive) where
  pub way_alike : (o : Order) (k : Way) → (k ≡ Ok moment.Now → (a.capacity ≡ b.capacity) × (a.position ≡ b.position)) → f a (if_now k o) ≡ f b (if_now k o)
  way_alike o (Err r) is = none a b
  way_alike o (Ok moment.Later) is = none a b
  way_alike o (Ok moment.Now) is = some a b (is refl).0 (is refl).1 (o ∷ [])

  pub run_alike : (k : Check) (begins : Bool) (os : List Order) → (k ≡ Ok tt → begins ≡ true → (a.capacity ≡ b.capacity) × (a.position ≡ b.position))
      → f a (if_clear k (cond begins os []) []) ≡ f b (if_clear k (cond begins os []) [])
  run_alike (Err r) begins os is = none a b
  run_alike (Ok tt) true os is = some a b (is refl refl).0 (is refl refl).1 os
  run_alike (Ok tt) false os is = none a b
