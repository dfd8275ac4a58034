-- `calls::Drive::fresh` meets its contract. Assumes nothing.
use Rattle.std.proofs.Common.{◌≡◌, Ok, arith}
use Rattle.calls.specs.Refusals.{change_check}
use Rattle.calls.proofs.Checking.{slot_sized, change_slot, change_good}
use Rattle.calls.proofs.Drive.fresh.Goals as goal
use Rattle.calls.proofs.Drive.fresh.Goals.{Then-is_ok}

clear : (c : Then-is_ok) → change_check c.args.self c.args.board.now ≡ Ok tt
clear c = grind arith

pub lay_out-requires : goal.lay_out-requires
lay_out-requires c =
    let e = clear (goal.at.lay_out-requires c).Then-is_ok in
    let s = slot_sized _ _ (change_slot _ _ e) in
    (s.long, s.few, change_good _ _ e)
