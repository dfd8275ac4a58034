-- What becomes of one order that is taken, and what a fetch of its ticket says.
-- Assumes nothing.
use Rattle.std.specs.Prelude.{ℕ, Err}
use Rattle.waiting.specs.declared.Outcome.{Outcome}
use Rattle.waiting.specs.Types.{Fetching}
use Rattle.waiting.specs.declared.Unfetched.TheVariants as unfetched
use Rattle.waiting.specs.Layout.{answer_of}

-- It waits; it is answered, and the answer is to be fetched; or its answer is fetched, or it was struck off with all others.
pub data Fate : Type 0 where
  Waits : Fate
  Answered : Outcome → Fate
  Gone : Fate

abbrev pub fetched_of : ℕ → Fate → Fetching
fetched_of t Waits = Err (unfetched.Waits t)
fetched_of t (Answered r) = answer_of r
fetched_of t Gone = Err unfetched.Unknown

-- After a run that answers it r, and after a fetch of its ticket.
abbrev pub ran : Outcome → Fate → Fate
ran r Waits = Answered r
ran r (Answered q) = Answered q
ran r Gone = Gone

abbrev pub handed_out : Fate → Fate
handed_out Waits = Waits
handed_out (Answered r) = Gone
handed_out Gone = Gone
