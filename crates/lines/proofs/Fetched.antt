-- What is fetched of an order is printed as the change would have been. Assumes nothing.
use mathlib.Core.Path.{◌≡◌, refl}
use mathlib.Core.Bool.{false}
use mathlib.Core.List.{List}
use Prim.Native.Nat.{ℕ}
use lib.Dec.{eqb}
use Rattle.general.proofs.Laws.{by_bool}
use Rattle.calls.specs.declared.Drive.{Drive}
use Rattle.calls.specs.declared.Refusal.{Refusal}
use Rattle.calls.specs.Types.{Check, Change}
use Rattle.std.specs.Prelude.{Ok, Err}
use Rattle.calls.specs.declared.Unchanged.TheVariants as unchanged
use Rattle.calls.specs.Refusals.{number_of, zero_or, numbers, remove_may, asked_name, add_check, remove_check}
use Rattle.calls.specs.Results.{admitted_by, change_by, added_idle, added, removed_idle, removed}
use Rattle.calls.proofs.Laws.{number_some, Within, first_within, other_number}
use Rattle.waiting.specs.declared.Order.{Order}
use Rattle.orders.specs.Answers.{made, outcome_of}
use Rattle.orders.specs.Results.{carried, saying}
use Rattle.lines.specs.Replies.{outcome_line, ordering_line}

-- the answer of a change, kept and fetched, is printed as the change prints it
abbrev Alike : Change → Type 0
Alike k = outcome_line (outcome_of k).number (outcome_of k).value ≡ ordering_line (made k)

-- the number of a refusal is not 0, and if it is not 10, the refusal stands alone
refused_alike : (r : Refusal) → eqb (number_of r) 10 ≡ false → Alike (Err (unchanged.Refused r))
refused_alike r f = rw (number_some r, f) refl

-- an add tells ROOM with the idle leaves
by_check : (k : Check) (left idle : ℕ) → Alike (admitted_by k left idle)
by_check (Ok tt) left idle = refl
by_check (Err r) left idle = by_bool (eqb (number_of r) 10) (λ t. rw t refl) (λ f. rw f (refused_alike r f))

add_alike : (d : Drive) (B : List ℕ) (x w : ℕ) → Alike (added d B x w).answer
add_alike d B x w = by_check (add_check d B x w) (added_idle d B x w) _

-- and a remove never tells it
by_other : (k : Check) (idle : ℕ) → Within (numbers remove_may) k → Alike (change_by k idle)
unfolding zero_or
by_other (Ok tt) idle e = refl
by_other (Err r) idle e = refused_alike r (other_number (numbers remove_may) (number_of r) 10 e refl)

remove_alike : (d : Drive) (B : List ℕ) (x : ℕ) → Alike (removed d B x).answer
unfolding remove_check
remove_alike d B x = by_other (remove_check d B x) (removed_idle d B x) (first_within remove_may (asked_name d B x))

-- what an order leaves to be fetched is printed as its change, made at once on the same board, would have been
pub fetched_printed : (d : Drive) (B : List ℕ) (o : Order) → outcome_line (saying d o B).number (saying d o B).value ≡ ordering_line (made (carried d B o))
unfolding carried
fetched_printed d B o = by_bool (eqb o.kind 1)
    (λ t. rw t (add_alike d B o.name o.weight))
    (λ f. by_bool (eqb o.kind 2) (λ t. rw (f, t) (remove_alike d B o.name)) (λ g. rw (f, g) refl))
