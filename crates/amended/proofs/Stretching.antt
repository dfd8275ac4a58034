-- Any set of calls that does, call by call, what plain calls do: where nothing is changed, its slots serve what plain slots serve over any number of rounds, and so a
-- stream its share. Assumes nothing.
use mathlib.Core.Path.{◌≡◌, refl, sym, ap, subst, ◌∙◌}
use mathlib.Core.Bool.{Bool, false}
use mathlib.Core.List.{List, [], ◌∷◌, ◌++◌}
use Prim.Native.Nat.{ℕ, zero, suc}
use lib.ListN.{length, get_or, drop, replicate}
use Rattle.demands.specs.Histories.{Act, Slot, State, does as plainly, after, log}
use Rattle.pieces.specs.Streams.{Stream}
use Rattle.demands.specs.Rounds.{names, names_from}
use Rattle.demands.specs.Stretches.{none_done, PowerOfTwo, PowerFair, StillFair}
use Rattle.demands.specs.Stretches as stretches
use Rattle.demands.proofs.Laws.{Sound, after_append, still_board, slot_still, served_power, served_still}
use Rattle.amended.specs.Histories.{through, along, Each}
use Rattle.amended.specs.Stretches.{StillIn}
use Rattle.amended.proofs.Projecting as projecting

-- names that are those of plain calls in which nothing is changed
module _ (u : State) (hs : List Stream) (is : Sound u hs) (acts : List Act) (still : stretches.Still u acts) (served : List ℕ) (e : served ≡ names (log u acts)) where
  power_serves : PowerOfTwo u.drive.capacity → PowerFair u.drive.capacity u.board hs served
  power_serves power = subst (λ (L : List ℕ). PowerFair u.drive.capacity u.board hs L) (sym e) (served_power u hs is acts still power)

  still_serves : StillFair u.drive.capacity hs served
  still_serves = subst (λ (L : List ℕ). StillFair u.drive.capacity hs L) (sym e) (served_still u hs is acts still)

-- calls none of which is an open or a read that is done, by a test
pub tested : {A S : Type 0} (does : A → S → S) (restarts : A → S → Bool) (s : S) (rest : List A)
    → along does (λ a t. restarts a t ∷ []) s rest ≡ replicate (length rest) false → Each does (λ a t. restarts a t ≡ false) s rest
unfolding along Each
tested does restarts s [] e = tt
tested does restarts s (a ∷ rest) e = (ap (λ (l : List Bool). get_or l 0 false) e, tested does restarts (does a s) rest (ap (λ (l : List Bool). drop 1 l) e))

module _ {A S : Type 0} (does : A → S → S) (shown : S → State) (stands : A → S → List Act) (restarts : A → S → Bool)
    (same : (a : A) (s : S) → restarts a s ≡ false → shown (does a s) ≡ after (shown s) (stands a s)) where
  abbrev OK : A → S → Type 0
  OK a s = restarts a s ≡ false

  -- they leave the board as it was
  pub kept_board : (s : S) (rest : List A) → StillIn does shown stands restarts s rest → (shown (through does s rest)).board ≡ (shown s).board
  kept_board s rest still =
      ap (λ (u : State). u.board) (projecting.projected does shown stands OK same s rest still.whole) ∙ still_board (shown s) (along does stands s rest) still.kept

  -- one call over and over, which stands for a slot wherever P holds, is such calls
  pub row_kept : {H : Type 0} (next : H → S → H) (P : H → S → Type 0) (a : A) → ((s : S) → restarts a s ≡ false) → ((h : H) (s : S) → P h s → stands a s ≡ Slot ∷ [])
      → ((h : H) (s : S) → P h s → P (next h s) (does a s)) → (n : ℕ) (h : H) (s : S) → P h s → stretches.Still (shown s) (along does stands s (replicate n a))
  unfolding along none_done log after
  row_kept next P a ok one keeps zero h s p = refl
  row_kept next P a ok one keeps (suc n) h s p =
      let later = along does stands (does a s) (replicate n a) in
      let moved : shown (does a s) ≡ plainly Slot (shown s) = same a s (ok s) ∙ ap (after (shown s)) (one h s p) in
      let ih = row_kept next P a ok one keeps n (next h s) (does a s) (keeps h s p) in
      subst (λ (acts : List Act). stretches.Still (shown s) (acts ++ later)) (sym (one h s p)) (slot_still (shown s) later (subst (λ (u : State). stretches.Still u later) moved ih))

  module _ (served : A → S → List ℕ) (said : (a : A) (s : S) → restarts a s ≡ false → served a s ≡ names (log (shown s) (stands a s))) (hs : List Stream) (s : S) (rest : List A) where
    module _ (is : Sound (shown s) hs) (still : StillIn does shown stands restarts s rest) where
      e : along does served s rest ≡ names (log (shown s) (along does stands s rest))
      e = projecting.names_projected does shown stands OK same served said s rest still.whole

      pub power : PowerOfTwo (shown s).drive.capacity → PowerFair (shown s).drive.capacity (shown s).board hs (along does served s rest)
      power = power_serves (shown s) hs is (along does stands s rest) still.kept (along does served s rest) e

      pub fair : StillFair (shown s).drive.capacity hs (along does served s rest)
      fair = still_serves (shown s) hs is (along does stands s rest) still.kept (along does served s rest) e

    -- from a call on that stands for orders, which lead to u, and then a slot
    module _ (a : A) (before : List Act) (stand : stands a s ≡ before ++ (Slot ∷ [])) (ok : restarts a s ≡ false) (none : names (log (shown s) before) ≡ [])
        (u : State) (at : after (shown s) before ≡ u) (is : Sound u hs) (still : StillIn does shown stands restarts (does a s) rest) where
      abbrev later : List Act
      later = along does stands (does a s) rest

      moved : shown (does a s) ≡ plainly Slot u
      unfolding after
      moved = same a s ok ∙ ap (after (shown s)) stand ∙ after_append (shown s) before (Slot ∷ []) ∙ ap (plainly Slot) at

      kept_then : stretches.Still u (Slot ∷ later)
      kept_then = slot_still u later (subst (λ (v : State). stretches.Still v later) moved still.kept)

      f : along does served s (a ∷ rest) ≡ names_from u later
      unfolding Each
      f = projecting.names_from_slot does shown stands OK same a s rest before stand (ok, still.whole) served said none ∙ ap (λ (v : State). names_from v later) at

      pub power_then : PowerOfTwo u.drive.capacity → PowerFair u.drive.capacity u.board hs (along does served s (a ∷ rest))
      power_then = power_serves u hs is (Slot ∷ later) kept_then (along does served s (a ∷ rest)) f

      pub fair_then : StillFair u.drive.capacity hs (along does served s (a ∷ rest))
      fair_then = still_serves u hs is (Slot ∷ later) kept_then (along does served s (a ∷ rest)) f
