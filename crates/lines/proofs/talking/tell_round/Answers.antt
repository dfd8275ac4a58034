-- `lines::talking::tell_round` meets its contract. Assumes nothing.
use Rattle.std.proofs.Common.{[], sym, ◌∙◌, length-take-le}
use Rattle.lines.specs.Replies.{round_line}
use Rattle.lines.proofs.RoundNames.{Named, answer_is, named}
use Rattle.lines.proofs.talking.tell_round.Goals as goal
use Rattle.lines.proofs.talking.tell_round.Goals.{In-Ok}

-- where the round is done
is_named : (c : In-Ok) → Named c.args.drive c.args.board.now c.round-rounded.new.output
is_named c =
    let a = c.args in
    let r = c.round-rounded in
    let o = c.zeros-names in
    named a.drive a.board.now o.result r.new.output r.result o.ensures r.ensures.0 r.ensures.2 r.auto.output c.in-Ok.is

pub slice_bounds-names-end : goal.slice_bounds-names-end
slice_bounds-names-end c = rw c.from.ensures (is_named (goal.at.slice_bounds-names-end c).In-Ok).within

pub slice_bounds-put_done-end : goal.slice_bounds-put_done-end
slice_bounds-put_done-end c = rw c.from.ensures (sym (length-take-le _ _ (is_named (goal.at.slice_bounds-put_done-end c).In-Ok).within))

pub returns-in-Ok : goal.returns-in-Ok
unfolding round_line
returns-in-Ok c = let n = is_named (goal.at.returns-in-Ok c).In-Ok in rw (n.done, ← n.names, ← c.from.ensures) c.put_done.ensures

pub returns-in-Err : goal.returns-in-Err
unfolding round_line
returns-in-Err c = let a = c.args in
    let r = c.round-rounded in
    let o = c.zeros-names in
    rw (sym (answer_is a.drive a.board.now o.result [] r.result o.ensures r.ensures.0) ∙ c.in-Err.is) c.tell_refusal.ensures
