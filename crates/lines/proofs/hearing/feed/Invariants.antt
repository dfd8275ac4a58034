-- The loop of `lines::hearing::feed` keeps: the talk over what is left of the input, from the words that stand in the lent bytes, is the talk asked for.
-- Assumes nothing.
use Rattle.std.proofs.Common.{◌≡◌, ◌≤◌, length, take, drop}
use lib.Seq.{sets}
use Rattle.lines.specs.Sessions.{talked, begun}
use Rattle.lines.proofs.Talks.{talk_at}
use Rattle.lines.proofs.hearing.feed.Given as goal

abbrev pub invariant-loop-used : goal.invariant-loop-used
invariant-loop-used l = (l.to ≤ length l.out) × (l.out ≡ sets l.initial.out 0 (take l.to l.out)) × (talked (length l.initial.out) (begun l.initial.session l.initial.board l.initial.list) l.input ≡ talked (length l.initial.out) (talk_at l.session l.board l.list l.out l.to l.used) (drop l.used l.input))
