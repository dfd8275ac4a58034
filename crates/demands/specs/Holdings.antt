-- What is held, by the answers alone: a stream whose add is done (answer 0) is held with its weight until its name's remove is done.
-- Assumes nothing.
use Rattle.std.specs.Prelude.{Bool, true, false, cond, List, [], ◌∷◌, ℕ, eqb}
use Rattle.pieces.specs.Streams.{Stream}
use Rattle.demands.specs.Histories.{Act, Add, Remove, Slot, Round, Report, Fresh, Event, opens, log}

-- The streams of other names than x.
unfoldable pub without : ℕ → List Stream → List Stream
without x [] = []
without x (h ∷ hs) = cond (eqb h.name x) (without x hs) (h ∷ without x hs)

-- What is held after an act that is done, where hs was held before.
abbrev pub held_after : Act → List Stream → List Stream
held_after (Add x w) hs = record { name = x; weight = w } ∷ hs
held_after (Remove x) hs = without x hs
held_after Slot hs = hs
held_after (Round O) hs = hs
held_after (Report x) hs = hs
held_after Fresh hs = hs

-- Only these change what is held, and answer the idle leaves.
abbrev pub is_change : Act → Bool
is_change (Add x w) = true
is_change (Remove x) = true
is_change Slot = false
is_change (Round O) = false
is_change (Report x) = false
is_change Fresh = false

-- Only these change the board.
abbrev pub changes_board : Act → Bool
changes_board (Add x w) = true
changes_board (Remove x) = true
changes_board Slot = false
changes_board (Round O) = false
changes_board (Report x) = false
changes_board Fresh = true

-- What is held after events. A refused act changes nothing.
unfoldable pub held_from : List Stream → List Event → List Stream
held_from hs [] = hs
held_from hs (e ∷ es) = held_from (cond (eqb e.answer.number 0) (held_after e.act hs) hs) es

-- What is held after open and then acts.
abbrev pub held : ℕ → List ℕ → List Act → List Stream
held C B acts = held_from [] (log (opens C B) acts)
