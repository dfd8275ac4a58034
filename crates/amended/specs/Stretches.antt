-- Request No. 13 for the sets of calls with the waiting list: calls in which nothing is changed.
-- Assumes nothing.
use Rattle.std.specs.Prelude.{◌≡◌, Bool, false, List}
use Rattle.demands.specs.Histories.{Act, State}
use Rattle.demands.specs.Stretches as stretches
use Rattle.amended.specs.Histories.{along, Each}
use Rattle.amended.specs.Deeds as one
use Rattle.amended.specs.Deeds.{Deed, Desk}
use Rattle.amended.specs.Turns as two
use Rattle.amended.specs.Turns.{Turn, Pair}

-- No call of these is an open or a read that is done, and none of the plain calls that they stand for is a change that is done: no change made at once, and no
-- order that the list carries out at a slot. An order that only waits stands for no call.
pub record StillIn {A S : Type 0} (does : A → S → S) (shown : S → State) (stands : A → S → List Act) (restarts : A → S → Bool) (s : S) (rest : List A) : Type 0 where
  pub whole : Each does (λ a t. restarts a t ≡ false) s rest
  pub kept : stretches.Still (shown s) (along does stands s rest)

-- Calls of one drive.
abbrev pub Still : Desk → List Deed → Type 0
Still s rest = StillIn one.leaves (λ t. t.state) one.stands_for one.restarts s rest

-- Calls of two: neither drive's calls change anything.
abbrev pub StillTurns : Pair → List Turn → Type 0
StillTurns s rest = StillIn two.leaves two.shown two.stands_for two.restarts s rest
