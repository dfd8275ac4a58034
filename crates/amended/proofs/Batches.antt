-- A table of changes is its single calls: a history with tables is one of single calls, and every theorem of `TwoDemands` speaks of it.
-- Assumes nothing.
use mathlib.Core.Path.{◌≡◌, refl}
use mathlib.Core.List.{List, [], ◌∷◌}
use lib.Dec.{eqb}
use Rattle.general.proofs.Laws.{by_bool}
use Rattle.batch.specs.declared.Entry.{Entry}
use Rattle.batch.specs.Entries.{ordered, ordered_board, ordered_list, carried, batch_of}
use Rattle.amended.specs.Histories.{through}
use Rattle.amended.specs.Deeds.{Adds, Removes}
use Rattle.amended.specs.Turns.{Pair, Own, leaves, leaves_all}
use Rattle.amended.specs.Batches.{turns_of, batched}

pub batch_turns : (s : Pair) (T : List Entry) → batched s T ≡ leaves_all s (turns_of T)
unfolding batch_of turns_of through carried ordered ordered_board ordered_list
batch_turns s [] = refl
batch_turns s (e ∷ T) = by_bool (eqb e.kind 1)
    (λ t. rw t (batch_turns (leaves (Own (Adds e.name e.weight)) s) T))
    (λ f. by_bool (eqb e.kind 2)
    (λ t. rw (f, t) (batch_turns (leaves (Own (Removes e.name)) s) T))
    (λ n. rw (f, n) (batch_turns s T)))
