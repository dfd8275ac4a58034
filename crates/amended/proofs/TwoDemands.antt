-- The demands for two drives on one board, request No. 10, each by its name. Demand 1, tickets and what becomes of an order hold for every call and every input;
-- demand 3, and request No. 13, for each of the two drives, after every history of calls of both, refused or not, opens and reads among them, each call given
-- the last record of both. What is proved of the own drive holds of the other, since what that one sees is a history too. Nothing says that two drives are
-- ever at the start of a round together. Assumes nothing.
use mathlib.Core.Path.{◌≡◌, refl}
use mathlib.Core.Bool.{true, false, cond}
use mathlib.Core.List.{List, [], ◌∷◌}
use Prim.Native.Nat.{ℕ, zero, ◌+◌, ◌-◌, ◌*◌, ◌≤◌, ◌<◌}
use native.Mathlib.Omega.{arith}
use lib.Count.{ones}
use lib.Dec.{ltb}
use lib.ListN.{length, replicate}
use Rattle.sequences.specs.Scanning.{occurrences}
use Rattle.pieces.specs.Board.{weight, piece_count}
use Rattle.std.specs.Prelude.{Ok}
use Rattle.calls.specs.Records.{round_after}
use Rattle.calls.specs.Refusals.{first_of, asked_add, admit_may}
use Rattle.calls.specs.Results.{round_names}
use Rattle.demands.specs.Histories.{Act, Fresh, State, does, after, log}
use Rattle.pieces.specs.Streams.{Stream, held_of, total}
use Rattle.demands.specs.Holdings.{held_from}
use Rattle.demands.specs.Rounds.{names, in_a_row, Near, bound, demanded}
use Rattle.demands.specs.Stretches.{PowerOfTwo, PowerFair, StillFair}
use Rattle.waiting.specs.declared.Order.{Order}
use Rattle.waiting.specs.Layout.{last_ticket, waiting}
use Rattle.waiting.specs.Meaning.{InOrder}
use Rattle.orders.specs.declared.Moment.TheVariants as moment
use Rattle.orders.specs.Results.{add_order, remove_order}
use Rattle.drives.specs.Checks.{both_start, start_check, pair_fresh_check}
use Rattle.drives.specs.Results.{board_then}
use Rattle.drives.proofs.Laws.{fresh_one_drive}
use Rattle.amended.specs.Carried.{acts_of, in_turn}
use Rattle.amended.specs.Deeds.{Deed, Adds, Removes, Slots, Fetches, Refreshes, CountUp}
use Rattle.amended.specs.Fates.{Waits, told_of}
use Rattle.amended.specs.Holding.{on_board}
use Rattle.amended.specs.Refusing.{of_board}
use Rattle.amended.specs.Turns.{Pair, exchanged, Which, This, That, seen_by, seen, shown, way_at, answers_own, leaves_own, Turn, Own, Other, answers, leaves, leaves_all, turned, turned_all, restarts, Unbroken, plain, names_served, FullRound, tickets_told}
use Rattle.amended.specs.Sharing.{held_next, held_through, held_then, Ready, fate_through}
use Rattle.amended.specs.Stretches.{StillTurns}
use Rattle.amended.proofs.Held.{held_leaves, held_pieces, held_within, turn_others, turn_room, turn_carried, Serves, round_serves_lem}
use Rattle.amended.proofs.Listing.{taken_follows}
use Rattle.amended.proofs.Turning.{turned_leaves, other_stays, ran_state, projected, names_same}
use Rattle.amended.proofs.Sharing.{fresh_held, held_plain, held_turned, Standing, standing_turned, both_given, restart_standing, standing}
use Rattle.amended.proofs.TurnRounds.{look_clear, first_clear, fresh_clear, slot_served, ran_sound, then_turned, slot_runs, slots_full, round_names_lem, plain_round, round_ends}
use Rattle.amended.proofs.TurnStretches.{slots_still, kept, power, fair, power_then, fair_then}
use Rattle.amended.proofs.TurnAnswers.{undamaged}
use Rattle.amended.proofs.TurnLists.{in_order, count_up, followed, add_thirteen, remove_thirteen}
-- ---- Demand 1: what a call that is not done answers, and that it changes nothing but for what 10 and 13 say, and a change's 13 puts on the list

pub use Rattle.amended.proofs.TurnAnswers.{demand_1_two}

-- ---- The records: neither drive's calls move the other's, position or round number; only an open or a read that is done gives it one, the same as it returns.

pub two_stays : (a : Deed) (s : Pair) → restarts (Own a) s ≡ false → (leaves_own a s).other ≡ s.other
two_stays = other_stays

pub two_given : (a : Deed) (s : Pair) → restarts (Own a) s ≡ true → (leaves_own a s).other ≡ (leaves_own a s).own
two_given = both_given

-- ---- What the other drive sees: the same calls, from the records exchanged, lead to the records exchanged, are answered the same, and hold the same.

pub two_turned : (s : Pair) (turns : List Turn) → leaves_all (exchanged s) (turned_all turns) ≡ exchanged (leaves_all s turns)
two_turned = turned_leaves

pub two_answers : (t : Turn) (s : Pair) → answers (turned t) (exchanged s) ≡ answers t s
two_answers (Own a) s = refl
two_answers (Other a) s = refl

pub two_held_turned : (hs : List Stream) (s : Pair) (turns : List Turn) → held_through hs (exchanged s) (turned_all turns) ≡ held_through hs s turns
two_held_turned = held_turned

-- ---- The plain history of a drive: up to an open or a read that is done, calls of both drives leave the record of the own drive and the board, serve it the
-- names, and hold the streams, of the orders that either's calls carried out and of its own slots, rounds and reports.

pub two_plain : (s : Pair) (turns : List Turn) → Unbroken s turns
    → (shown (leaves_all s turns) ≡ after (shown s) (plain s turns)) × (names_served s turns ≡ names (log (shown s) (plain s turns)))
    × ((hs : List Stream) → held_through hs s turns ≡ held_from hs (log (shown s) (plain s turns)))
two_plain s turns ok = (projected s turns ok, names_same s turns ok, λ hs. held_plain hs s turns ok)

-- ---- Tickets: those told to both drives count up together, whatever calls stand between them

pub two_tickets : (s : Pair) (turns : List Turn) → 259 ≤ length s.list → CountUp (last_ticket s.list) (tickets_told s turns)
two_tickets = count_up

-- ---- What becomes of an order: at any time after it was taken, a fetch of its ticket, by either drive, says what its fate is, whichever drive's slot runs the list

module _ (s : Pair) (is : InOrder s.list) where
  pub two_add_fetched : (x w : ℕ) → x < 65536 → w < 65536 → (answers_own (Adds x w) s).number ≡ 13 → (between : List Turn)
      → let t = last_ticket s.list + 1 in
      answers (Own (Fetches t)) (leaves_all (leaves (Own (Adds x w)) s) between) ≡ told_of t (fate_through t (add_order x w) (waiting s.list) Waits (leaves (Own (Adds x w)) s) between)
  two_add_fetched x w a b h between =
      let t = last_ticket s.list + 1 in
      let k = add_thirteen s x w h in
      let u = leaves (Own (Adds x w)) s in
      followed t (add_order x w) (waiting s.list) Waits u
      (taken_follows (seen s) (add_order x w) (seen u) is (record { kind = omega arith; name = a; weight = b }) k.1 (rw k.0 refl)) between

  pub two_remove_fetched : (x : ℕ) → x < 65536 → (answers_own (Removes x) s).number ≡ 13 → (between : List Turn)
      → let t = last_ticket s.list + 1 in
      answers (Own (Fetches t)) (leaves_all (leaves (Own (Removes x)) s) between) ≡ told_of t (fate_through t (remove_order x) (waiting s.list) Waits (leaves (Own (Removes x)) s) between)
  two_remove_fetched x a h between =
      let t = last_ticket s.list + 1 in
      let k = remove_thirteen s x h in
      let u = leaves (Own (Removes x)) s in
      followed t (remove_order x) (waiting s.list) Waits u
      (taken_follows (seen s) (remove_order x) (seen u) is (record { kind = omega arith; name = a; weight = omega arith }) k.1 (rw k.0 refl)) between

pub two_fetches : (t : ℕ) (s : Pair) → answers (Other (Fetches t)) s ≡ answers (Own (Fetches t)) s
two_fetches t s = refl

-- Calls keep the list in order.
pub two_in_order : (s : Pair) → InOrder s.list → (turns : List Turn) → InOrder (leaves_all s turns).list
two_in_order = in_order

-- ---- Demand 3, for each drive

-- Every open and every read that is done, by either drive, on any desk with a list, leaves one that a history may begin with.
pub two_ready : (t : Turn) (s : Pair) → 259 ≤ length s.list → restarts t s ≡ true → Ready (leaves t s)
two_ready (Own a) s l e = let st = restart_standing a s l e in record { clear = first_clear (on_board (shown (leaves_own a s))) (leaves_own a s) st; fine = st.own.fine }
two_ready (Other a) s l e =
    let u = leaves_own a (exchanged s) in
    let st = standing_turned (on_board (shown u)) u (restart_standing a (exchanged s) l e) in
    record { clear = first_clear (on_board (shown u)) (exchanged u) st; fine = st.own.fine }

standing_seen : (f : Which) (hs : List Stream) (s : Pair) → Standing hs s → Standing hs (seen_by f s)
standing_seen This hs s is = is
standing_seen That hs s is = standing_turned hs s is

module _ (s : Pair) (ready : Ready s) (turns : List Turn) (f : Which) where
  -- where the calls lead, as the drive f sees it, and what is then held, whichever it is
  abbrev pub pair' : Pair
  pair' = seen_by f (leaves_all s turns)

  abbrev pub held' : List Stream
  held' = held_through (on_board (shown s)) s turns

  abbrev C : ℕ
  C = pair'.own.capacity

  st : Standing held' pair'
  st = standing_seen f held' (leaves_all s turns) (standing s ready turns)

  -- No slot is refused.
  pub two_slot : (answers_own Slots pair').number ≡ 0
  two_slot = slot_served held' pair' st

  -- No answer is DAMAGED: of read, whose 5 is of the sheet's board, and of fetch, which hands out what was answered before, see `two_carried`.
  pub two_undamaged : (a : Deed) → of_board a ≡ true → (answers_own a pair').number ≡ 5 → ⊥
  two_undamaged = undamaged held' pair' st

  -- What is held of a name is the number of its leaves, in as many pieces as that has ones; and the weights held are never more than C.
  pub two_held : (x : ℕ) → (x ≡ 0 → ⊥) → held_of x held' ≡ weight C pair'.board x
  two_held = held_leaves (shown pair') held' st.own

  pub two_pieces : (x : ℕ) → (x ≡ 0 → ⊥) → piece_count C pair'.board x ≡ ones (held_of x held')
  two_pieces = held_pieces (shown pair') held' st.own

  pub two_within : total held' ≤ C
  two_within = held_within (shown pair') held' st.own

  -- ---- an add when it is carried out, the orders ahead of it being carried out before: from the list, or at once, with none ahead

  module _ (ahead : List Order) where
    -- the record and the board in its turn, and what is then held
    abbrev pub turn : State
    turn = after (shown pair') (acts_of ahead)

    abbrev pub held_in_turn : List Stream
    held_in_turn = held_from held' (log (shown pair') (acts_of ahead))

    -- It passes the checks beside ROOM if a round begins, it has a name and a weight, and nothing is held of the name;
    pub two_others : (x w : ℕ) → turn.drive.position ≡ 1 → (x ≡ 0 → ⊥) → (w ≡ 0 → ⊥) → held_of x held_in_turn ≡ 0
        → first_of admit_may (asked_add turn.drive turn.board x w) ≡ Ok tt
    two_others = turn_others (shown pair') held' st.own ahead

    -- and then it is refused for ROOM exactly when its weight exceeds C less the sum of the weights held, and else it is done. Refused so, it says that number.
    pub two_room : (x w : ℕ) → first_of admit_may (asked_add turn.drive turn.board x w) ≡ Ok tt
        → ((in_turn (shown pair') ahead (add_order x w)).number ≡ cond (ltb (C - total held_in_turn) w) 10 0)
        × ((in_turn (shown pair') ahead (add_order x w)).number ≡ 10 → (in_turn (shown pair') ahead (add_order x w)).values ≡ (C - total held_in_turn) ∷ [])
    two_room = turn_room (shown pair') held' st.own ahead

    -- No order is answered DAMAGED.
    pub two_carried : (o : Order) → (in_turn (shown pair') ahead o).number ≡ 5 → ⊥
    two_carried = turn_carried (shown pair') held' st.own ahead

  -- An add that is made at once is answered so, with none ahead of it.
  pub two_at_once : (x w : ℕ) → way_at (add_order x w) pair' ≡ Ok moment.Now → answers_own (Adds x w) pair' ≡ in_turn (shown pair') [] (add_order x w)
  unfolding acts_of after
  two_at_once x w e = rw e refl

  -- ---- Request No. 12: a fresh layout, by either drive

  -- Where both drives are at the start of a round it is done at once, whether orders wait or not, and leaves the board that the own drive's alone would leave; the
  -- list stays as it is. Where one of them is not it is answered 4.
  pub two_fresh : both_start pair'.own pair'.other ≡ true
      → ((answers_own Refreshes pair').number ≡ 0) × ((leaves_own Refreshes pair').board ≡ (does Fresh (shown pair')).board) × ((leaves_own Refreshes pair').list ≡ pair'.list)
  two_fresh t = let e = fresh_clear held' pair' st t in (rw e refl, (fresh_one_drive pair'.own pair'.other pair'.board e).1, refl)

  pub two_fresh_midround : both_start pair'.own pair'.other ≡ false → (answers_own Refreshes pair').number ≡ 4
  unfolding pair_fresh_check start_check
  two_fresh_midround f = rw (look_clear held' pair' st, f) refl

  -- What is held stays, so that all of this goes on after it, for both drives.
  pub two_fresh_held : (held_next held' (Own Refreshes) pair' ≡ held') × (held_next held' (Other Refreshes) pair' ≡ held')
  two_fresh_held = (fresh_held held' pair', fresh_held held' (exchanged pair'))

  -- ---- rounds

  -- A slot that finds both drives at the start of a round leaves no order waiting.
  pub two_runs : both_start pair'.own pair'.other ≡ true → waiting (leaves (Own Slots) pair').list ≡ []
  two_runs = slot_runs held' pair' st

  -- What is held once the list has run, if it runs, is the same for the other drive.
  pub two_then : held_then held' (exchanged pair') ≡ held_then held' pair'
  two_then = then_turned held' pair' st

  -- At the start of a round the next C slots of the drive are a full round.
  pub two_full : pair'.own.position ≡ 1 → FullRound pair' (replicate (C - 1) (Own Slots))
  two_full = slots_full held' pair' st

  module _ (rest : List Turn) (full : FullRound pair' rest) where
    abbrev later : List Act
    later = plain (leaves (Own Slots) pair') rest

    serves : Serves C (ran_state pair').board (held_then held' pair') (names_served pair' (Own Slots ∷ rest))
    serves = round_serves_lem (ran_state pair') (held_then held' pair') (ran_sound held' pair' st) later (plain_round held' pair' st rest full)
        (names_served pair' (Own Slots ∷ rest)) (round_names_lem held' pair' st rest full)

    -- A full round ends where the drive's next one starts, with the number one more.
    pub two_ends : (leaves_all pair' (Own Slots ∷ rest)).own ≡ record { capacity = pair'.own.capacity; position = 1; round = round_after pair'.own.round }
    two_ends = round_ends held' pair' st rest full

    -- It serves the names that round would write once the list has run, if it runs: the first slot is picked after that.
    pub two_order : names_served pair' (Own Slots ∷ rest) ≡ round_names C (board_then pair'.own pair'.other pair'.board pair'.list)
    two_order = serves.order

    -- In it a name is served as often as the weight that it holds then.
    pub two_round : (x : ℕ) → (x ≡ 0 → ⊥) → occurrences x (names_served pair' (Own Slots ∷ rest)) ≡ held_of x (held_then held' pair')
    two_round = serves.often

    -- In any t successive slots of it a stream of weight w is served s times, and C s and w t differ by less than m C + w h,
    pub two_fair : (x w i t : ℕ) → held_of x (held_then held' pair') ≡ w → zero < w → i + t ≤ C
        → Near (C * occurrences x (in_a_row i t (names_served pair' (Own Slots ∷ rest)))) (w * t) (bound C w)
    two_fair = serves.fair

    -- so by less than the demand's own 2 m C + w h.
    pub two_demanded : (x w i t : ℕ) → held_of x (held_then held' pair') ≡ w → zero < w → i + t ≤ C
        → Near (C * occurrences x (in_a_row i t (names_served pair' (Own Slots ∷ rest)))) (w * t) (demanded C w)
    two_demanded x w i t h some within = let g = two_fair x w i t h some within in omega arith

  -- ---- Request No. 13: calls of both drives in which nothing is changed, by neither of them, over any number of rounds of the drive

  -- Where nothing waits any number of its slots are such calls, and none of them is refused.
  pub two_slots : waiting pair'.list ≡ [] → (n : ℕ) → StillTurns pair' (replicate n (Own Slots)) × (length (names_served pair' (replicate n (Own Slots))) ≡ n)
  two_slots none n = slots_still n held' pair' st none

  module _ (rest : List Turn) (still : StillTurns pair' rest) where
    -- They leave the board as it was, so that a stream has the same pieces throughout: as many as its weight has ones (`two_pieces`).
    pub two_kept : (leaves_all pair' rest).board ≡ pair'.board
    two_kept = kept held' pair' st rest still

    -- If C is a power of two: in any t successive slots of the drive, over as many of its rounds as you like, a stream of weight w and m pieces is served s
    -- times, and C s and w t differ by less than m C.
    pub two_power : PowerOfTwo C → PowerFair C pair'.board held' (names_served pair' rest)
    two_power = power held' pair' st rest still

    -- For every C they differ by less than m C + w h: what demand 3 has of one round holds over any number of them.
    pub two_still : StillFair C held' (names_served pair' rest)
    two_still = fair held' pair' st rest still

  -- The same of slots the first of which carries out what waits, if it does: that comes before the slot is picked, and what is held is what is held then.
  module _ (rest : List Turn) (still : StillTurns (leaves (Own Slots) pair') rest) where
    pub two_power_then :
        PowerOfTwo C → PowerFair C (board_then pair'.own pair'.other pair'.board pair'.list) (held_then held' pair') (names_served pair' (Own Slots ∷ rest))
    two_power_then = power_then held' pair' st rest still

    pub two_still_then : StillFair C (held_then held' pair') (names_served pair' (Own Slots ∷ rest))
    two_still_then = fair_then held' pair' st rest still
