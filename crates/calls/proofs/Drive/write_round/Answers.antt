-- `calls::Drive::write_round` meets its contract. Assumes nothing.
use Rattle.std.proofs.Common.{sym, ◌∙◌, arith}
use Rattle.sequences.proofs.Laws.{first_position}
use Rattle.calls.proofs.Checking.{round_slot, round_room, slot_sized}
use Rattle.calls.proofs.Drive.write_round.Goals as goal

pub write_round-requires : goal.write_round-requires
write_round-requires c =
    let e = sym c.check_round.ensures ∙ c.in_ok-check_round.was in
    let s = slot_sized _ _ (round_slot _ _ _ e) in
    (first_position _ s.some (omega arith), s.long, round_room _ _ _ e)
