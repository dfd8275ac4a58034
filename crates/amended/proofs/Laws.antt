-- What crates above cite for a set of calls of their own, each name from here.
--   `ever`, `always`, `row_many`, `projected`, `names_projected`, `held_projected`, `leads_from_slot`, `names_from_slot`: any set of calls that does, call by
--   call, what plain calls do.
--   `carry_one`, `carry_all`, `acts_names`, `held_alike`: orders that are carried out are plain calls, and change what is held alike at equal C and p.
--   `way_alike`, `run_alike`: what hangs on C and p alone is the same at both records where a change is made at once or the list is run.
--   `by_way`: a list that is taken keeps its length. `not_five`, `taken_not`, `fine_within`: what is not answered 5.
--   `TakenBy` .. `remove_refused`: what a change that is not done answers and says, in whatever way it is taken.
--   `ready_sound`, `held_leaves` .. `round_serves_lem`: a good board has on it what is held; what then holds of an order in its turn and of a full round.
-- Assumes nothing.
pub use Rattle.amended.proofs.Projecting.{ever, always, row_many, projected, names_projected, held_projected, leads_from_slot, names_from_slot}
pub use Rattle.amended.proofs.Carrying.{carry_one, carry_all, acts_names, way_alike, run_alike}
pub use Rattle.amended.proofs.Sharing.{held_alike}
pub use Rattle.amended.proofs.Sounding.{ready_sound, by_way}
pub use Rattle.amended.proofs.Answering.{TakenBy, firsts, remove_firsts, order_within, way_within, add_refused, remove_refused}
pub use Rattle.amended.proofs.Damaging.{not_five, taken_not, fine_within}
pub use Rattle.amended.proofs.Held.{Serves, held_leaves, held_pieces, held_within, turn_others, turn_room, turn_carried, round_serves_lem}
