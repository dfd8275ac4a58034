-- `lines::hearing::feed` meets its contract. Assumes nothing.
use Rattle.std.proofs.Common.{◌≡◌, ◌∙◌, ◌+◌, ◌≤◌, arith, length}
use Rattle.lines.proofs.Talks.{talk_at, talk_end, talk_stops, talk_goes, bytes_go, length_goes, answered}
use Rattle.lines.proofs.hearing.feed.Goals as goal

pub returns-then-out-to-lt-ROOM : goal.returns-then-out-to-lt-ROOM
returns-then-out-to-lt-ROOM c = let a = c.args in
    let l = c.loop-used in
    let is = l.invariant.2 ∙ talk_stops a.input.now l.used (omega arith) l.session l.board l.list l.out l.to l.invariant.0 (length a.out.now) (omega arith) in
    answered _ _ _ _ _ _ _ _ _ _ _ is l.invariant.0 l.invariant.1 (omega arith)

pub loop-used-preserved : goal.loop-used-preserved
loop-used-preserved c = let a = c.args in
    let l = c.loop-used in
    let h = c.hear-to in
    let more : l.to + 24573 ≤ length l.out = omega arith in (
      omega (arith, h.ensures.written.within, length_goes a.input.now l.used (omega arith) l.session l.board l.list l.out l.to l.invariant.0 h.new.self h.result h.new.board h.new.list h.new.out more h.ensures),
      bytes_go a.input.now l.used (omega arith) l.session l.board l.list l.out l.to l.invariant.0 h.new.self h.result h.new.board h.new.list h.new.out more h.ensures a.out.now l.invariant.1,
      l.invariant.2 ∙ talk_goes a.input.now l.used (omega arith) l.session l.board l.list l.out l.to l.invariant.0 h.new.self h.result h.new.board h.new.list h.new.out more h.ensures (length a.out.now) (omega arith),
    )

pub returns : goal.returns
returns c = let a = c.args in
    let l = c.loop-used in
    let e : l.used ≡ length a.input.now = omega arith in
    let is = l.invariant.2 ∙ talk_end (length a.out.now) (talk_at l.session l.board l.list l.out l.to l.used) a.input.now l.used (omega arith) in
    rw (← e) (answered _ _ _ _ _ _ _ _ _ _ _ is l.invariant.0 l.invariant.1 (omega arith))
