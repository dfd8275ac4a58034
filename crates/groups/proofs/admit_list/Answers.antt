-- `groups::admit_list` meets its contract. Assumes nothing.
use Rattle.std.proofs.Common.{◌≡◌, ◌∙◌, ◌+◌, ◌-◌, ◌<◌, arith, take, drop, get_or}
use Rattle.std.proofs.lemmas.List.{get_or-take, get_or-drop, length-take, length-drop}
use Rattle.groups.proofs.Adding.{admissible, turn, turns_none}
use Rattle.groups.proofs.admit_list.Goals as goal
use Rattle.groups.proofs.admit_list.Goals.{In-loop-name}

-- a name of the list, where it stands in the table
stands : (c : In-loop-name)
    → (c.loop-name.name-index < c.args.n)
    × (get_or (take (c.args.from + c.args.n - c.args.from) (drop c.args.from c.args.names.now)) c.loop-name.name-index 0
    ≡ get_or c.args.names.now (c.args.from + c.loop-name.name-index) 0)
stands c =
    let a = c.args in
    let z : a.from + a.n - a.from ≡ a.n = omega arith in
    let h : c.loop-name.name-index < a.n = omega (arith, c.requires.0, length-take (a.from + a.n - a.from) (drop a.from a.names.now), length-drop a.from a.names.now) in
    (h, rw z (get_or-take a.n (drop a.from a.names.now) c.loop-name.name-index 0 h ∙ get_or-drop a.from a.names.now c.loop-name.name-index 0))

pub admit-requires : goal.admit-requires
admit-requires c = let a = c.args in
    let L = c.loop-name in
    let s = stands (goal.at.admit-requires c).In-loop-name in
    rw s.1 (admissible a.c a.names.now a.w L.board _ (turn a.c a.names.now a.w L.board a.from a.n L.name-index s.0 L.invariant.1).may)

pub loop-name-preserved : goal.loop-name-preserved
loop-name-preserved c = let a = c.args in
    let L = c.loop-name in
    let s = stands (goal.at.loop-name-preserved c).In-loop-name in
    let t = turn a.c a.names.now a.w L.board a.from a.n L.name-index s.0 L.invariant.1 in
    (omega (arith, c.admit.auto, L.invariant.0), rw (c.admit.ensures.1, s.1) t.rest, rw (c.admit.ensures.1, s.1) (t.made ∙ L.invariant.2))

pub returns : goal.returns
returns c = let a = c.args in
    let L = c.loop-name in
    turns_none a.c a.names.now a.w L.board a.from a.n L.name-index (omega (arith, c.requires.0, length-take (a.from + a.n - a.from) (drop a.from a.names.now), length-drop a.from a.names.now)) ∙ L.invariant.2
