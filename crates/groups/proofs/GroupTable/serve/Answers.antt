-- `groups::GroupTable::serve` meets its contract. Assumes nothing.
use Rattle.std.proofs.Common.{◌≡◌, refl, sym, ◌∙◌, ◌+◌, ◌<◌, length, get_or}
use Rattle.groups.specs.Table.{offset}
use Rattle.groups.specs.Rounds.{list_of}
use Rattle.groups.proofs.Pointers.{served_place}
use Rattle.groups.proofs.RoundSteps.{found_some, found_none, name_here, name_idle, moved_here, moved_idle}
use Rattle.groups.proofs.GroupTable.serve.Goals as goal
use Rattle.groups.proofs.GroupTable.serve.Goals.{In-Some}

-- the list that v selects
selected : (c : In-Some) → (c.in-Some.i ≡ list_of c.args.self.now.starts.now c.args.self.now.k 0 c.args.v) × (c.in-Some.i < c.args.self.now.k)
selected c = found_some _ _ _ _ (sym c.find.ensures ∙ c.in-Some.is)

-- the name that is served stands in the table
placed : (c : In-Some) → offset c.args.self.now.k c.args.self.now.starts.now c.in-Some.i + get_or c.args.pointers.now c.in-Some.i 0 < length c.args.self.now.names.now
placed c = let s = selected c in served_place _ _ _ c.args.self.now.sound _ _ _ c.requires s.0 s.1

pub bounds-self-at : goal.bounds-self-at
bounds-self-at c = let h = placed (goal.at.bounds-self-at c).In-Some in rw c.offset_of.ensures.0 h

pub returns-in-Some : goal.returns-in-Some
returns-in-Some c =
    let s = selected (goal.at.returns-in-Some c).In-Some in
    (rw c.offset_of.ensures.0 (name_here _ _ _ _ _ _ s.0 s.1), rw (c.next.ensures, c.streams_of.ensures.0) (moved_here _ _ _ _ _ s.0))

pub returns-in-None : goal.returns-in-None
returns-in-None c =
    let l = found_none _ _ _ (sym c.find.ensures ∙ c.in-None.is) in
    (name_idle _ _ _ _ _ _ refl l, moved_idle _ _ _ _ _ refl l c.requires.size)
