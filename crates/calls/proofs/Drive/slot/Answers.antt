-- `calls::Drive::slot` meets its contract. Assumes nothing.
use Rattle.std.proofs.Common.{◌≡◌, sym, ◌∙◌, arith, ◌≤◌, ◌<◌, length}
use Rattle.sequences.proofs.Laws.{leaf_below_lem, passed_one, next_position, position_small}
use Rattle.calls.specs.Refusals.{slot_check}
use Rattle.std.specs.Prelude.{Ok}
use Rattle.calls.proofs.Checking.{slot_sized, slot_position}
use Rattle.calls.proofs.Drive.slot.Goals as goal
use Rattle.calls.proofs.Drive.slot.Goals.{After-pick-s, In-Ok}

-- no refusal applies
clear : (c : In-Ok) → slot_check c.args.self c.args.board.now ≡ (Ok tt)
clear c = sym c.check_slot.ensures ∙ c.in-Ok.is

-- what pick gives is on the board, and fits
small : (c : After-pick-s)
    → (c.pick-s.result.leaf < length c.args.board.now)
    × (c.pick-s.result.leaf ≤ 4095) × (c.pick-s.result.passed ≤ 1) × (c.pick-s.result.next ≤ 4095)
small c =
    let e = (sym c.check_slot.ensures ∙ c.in-Ok.is) in
    let z = slot_sized _ _ e in
    let at = slot_position _ _ e in
    let l = leaf_below_lem _ _ at in
    let o = passed_one _ _ at in
    let n = position_small _ _ (next_position _ _ at) in
    rw c.pick-s.ensures (omega arith)

pub pick-s-requires : goal.pick-s-requires
pick-s-requires c = slot_position _ _ (clear (goal.at.pick-s-requires c).In-Ok)

pub overflow_cast-s : goal.overflow_cast-s
overflow_cast-s c = let s = small (goal.at.overflow_cast-s c).After-pick-s in omega arith

pub offset_bounds-board-leaf : goal.offset_bounds-board-leaf
offset_bounds-board-leaf c = let s = small (goal.at.offset_bounds-board-leaf c).After-pick-s in omega arith

pub bounds-board-leaf : goal.bounds-board-leaf
bounds-board-leaf c = let s = small (goal.at.bounds-board-leaf c).After-pick-s in omega arith

pub overflow_cast-result : goal.overflow_cast-result
overflow_cast-result c = let s = small (goal.at.overflow_cast-result c).After-pick-s in omega arith

pub overflow_cast-result-in-Ok : goal.overflow_cast-result-in-Ok
overflow_cast-result-in-Ok c = let s = small (goal.at.overflow_cast-result-in-Ok c).After-pick-s in omega arith
