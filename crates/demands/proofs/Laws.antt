-- What crates above cite, each name from here: the histories and what is said of them (specs/), what holds of every state with a good board that has on it
-- what is held (`Sound`), and the demands.
--   `opened`, `step`, `reached`, `always`: an opened board is sound, and one act, any acts, and any acts from an opened board leave a sound state.
--   `never_damaged` .. `served_fair`: what calls answer in a sound state, and what a full round from it serves.
--   `served_power`, `served_still`: what slots in a row serve where no change is done, over any number of rounds; `slot_still`,
--   `slots_still`, `still_board`: such calls, and what they leave.
--   `opened_adds`: what adds to an opened board leave, where each can be made in its turn.
--   `fresh_passes`, `fresh_adds` .. `fresh_round`: when a fresh layout is done, and what it leaves.
--   `number_counted` .. `told_full`: what the round number tells, from any state whose record is that of an opened or a read board.
--   `moves`, `drive_moves`, `slot_moves`, `after_one`, `after_append`, `held_append`, `names_append`: where acts lead, and acts after acts.
-- Assumes nothing.
pub use Rattle.demands.specs.Histories.{Act, Add, Remove, Slot, Round, Report, Fresh, State, does, says, opens, after, Openable, reach, Event, log}
pub use Rattle.demands.specs.Holdings.{without, held_after, is_change, changes_board, held_from, held}
pub use Rattle.demands.specs.Rounds.{names_by, names, names_from, FullRound, in_a_row, names_on, Near, bound, demanded, power_bound}
pub use Rattle.demands.specs.Layouts.{adds_of, stream_adds, AllDone}
pub use Rattle.demands.specs.Certificates.{Certificate, certified_by, certificates, of_slot, slots_in, Every, ToldRound}
pub use Rattle.demands.specs.Stretches.{is_done, none_done, Still, PowerOfTwo, PowerFair, StillFair}
pub use Rattle.demands.proofs.Valid.{state_at, Valid, slot_clear, clear_valid, slot_moves, valid_next}
pub use Rattle.demands.proofs.Reached.{Sound, opened, step, reached, always, same_either, after_one, after_append, held_append}
pub use Rattle.demands.proofs.ServedNames.{names_append, full_names, slots_length, slots_full}
pub use Rattle.demands.proofs.Numbering.{drive_after, certificate_of, drive_moves, moves, slot_certifies, certificates_length}
pub use Rattle.demands.proofs.Told.{full_number, full_over, number_counted, certificate_at, one_slot, full_told, told_full}
pub use Rattle.demands.proofs.Standing.{never_damaged, midround, fresh_passes, others_pass, room, room_told, room_asked, held_weight, served_round_lem, served_fair}
pub use Rattle.demands.proofs.Stretching.{slot_still, slots_still, still_board, served_power, served_still}
pub use Rattle.demands.proofs.Laying.{opened_adds, fresh_adds, fresh_equal, fresh_rounds}
pub use Rattle.demands.proofs.Demands.{fresh_layout, fresh_again, fresh_done, fresh_held, fresh_leaves, fresh_round, demand_3_undamaged, demand_3_slot, demand_3_midround, demand_3_within, demand_3_room, demand_3_ask, demand_3_others, demand_3_held, demand_3_pieces, demand_3_idle, demand_3_full, demand_3_round, demand_3_fair, demand_3_demanded, record_kept, round_one_number, round_counted, slot_certified, certificate_once, round_told, told_round, still_slots, still_kept, power_fair, still_fair}
