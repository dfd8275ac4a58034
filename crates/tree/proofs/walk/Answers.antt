-- `tree::walk` meets its contract. Assumes nothing.
use Rattle.std.proofs.Common.{sym, ◌∙◌, ◌-◌, ◌≤◌, ◌<◌, arith, length}
use Rattle.tree.specs.Marks.{levels, leaf_of, marks_of}
use Rattle.tree.proofs.Descents.{Walkable, walkable, level_marks, ends_leaf}
use Rattle.tree.proofs.walk.Goals as goal
use Rattle.tree.proofs.walk.Goals.{After-descend-node, In_ok-check}

-- no refusal applies
clear : (c : In_ok-check) → Walkable c.args.capacity c.args.board.now (length c.args.marks.now)
clear c = walkable _ _ _ (sym c.check.ensures ∙ c.in_ok-check.was)

-- the walk ends at a leaf
ended : (c : After-descend-node)
    → (c.args.capacity - 1 ≤ c.descend-node.result)
    × (c.descend-node.result - (c.args.capacity - 1)
    < c.args.capacity)
unfolding levels
ended c = rw c.descend-node.ensures.0 (ends_leaf _ _ _ ((walkable _ _ _ (sym c.check.ensures ∙ c.in_ok-check.was))) _)

pub descend-node-requires : goal.descend-node-requires
unfolding levels
descend-node-requires c = level_marks _ _ _ (clear (goal.at.descend-node-requires c).In_ok-check)

pub overflow_sub-leaf : goal.overflow_sub-leaf
overflow_sub-leaf c = (clear (goal.at.overflow_sub-leaf c).In_ok-check).some

pub overflow_sub-leaf-2 : goal.overflow_sub-leaf-2
overflow_sub-leaf-2 c = (ended (goal.at.overflow_sub-leaf-2 c).After-descend-node).0

pub offset_bounds-board-leaf : goal.offset_bounds-board-leaf
offset_bounds-board-leaf c = let h = ended (goal.at.offset_bounds-board-leaf c).After-descend-node in let f = (clear (goal.at.offset_bounds-board-leaf c).In_ok-check).few in omega arith

pub bounds-board-leaf : goal.bounds-board-leaf
bounds-board-leaf c = let h = ended (goal.at.bounds-board-leaf c).After-descend-node in let l = (clear (goal.at.bounds-board-leaf c).In_ok-check).long in omega arith

pub overflow_cast-result : goal.overflow_cast-result
overflow_cast-result c = let h = ended (goal.at.overflow_cast-result c).After-descend-node in let f = (clear (goal.at.overflow_cast-result c).In_ok-check).few in omega arith

pub returns : goal.returns
unfolding leaf_of marks_of levels
returns c =
    let e = sym c.check.ensures ∙ c.in_ok-check.was in
    let r = c.descend-node.ensures in
    (simp (e, r.0), simp (e, r.0), simp (e, r.1))
