-- The demands as request No. 2 amends them, each by its name. Demand 1, tickets and what becomes of an order hold for every call and every input; demand 3, and request
-- No. 13, for every history of calls with the waiting list, refused or not, opens and reads among them, from any desk with a good board.
-- Assumes nothing.
use mathlib.Core.Path.{◌≡◌, refl, sym, ◌∙◌}
use mathlib.Core.Bool.{true, cond}
use mathlib.Core.List.{List, [], ◌∷◌}
use Prim.Native.Nat.{ℕ, zero, ◌+◌, ◌-◌, ◌*◌, ◌≤◌, ◌<◌}
use native.Mathlib.Omega.{arith}
use lib.Count.{ones}
use lib.Dec.{eqb, ltb}
use lib.ListN.{length, get_or, replicate}
use Rattle.sequences.specs.Scanning.{occurrences}
use Rattle.pieces.specs.Board.{weight, piece_count}
use Rattle.std.specs.Prelude.{Ok}
use Rattle.calls.specs.Refusals.{first_of, asked_add, admit_may}
use Rattle.calls.specs.Results.{round_names}
use Rattle.demands.specs.Histories.{Act, State, after, log}
use Rattle.pieces.specs.Streams.{Stream, held_of, total}
use Rattle.demands.specs.Holdings.{held_from}
use Rattle.demands.specs.Rounds.{in_a_row, Near, bound, demanded}
use Rattle.demands.specs.Stretches.{PowerOfTwo, PowerFair, StillFair}
use Rattle.demands.proofs.Laws.{same_either, fresh_passes, fresh_equal, fresh_rounds}
use Rattle.waiting.specs.declared.Order.{Order}
use Rattle.waiting.specs.Layout.{last_ticket, places_in, waiting}
use Rattle.waiting.specs.Meaning.{InOrder}
use Rattle.waiting.proofs.Laws.{free_in_order}
use Rattle.orders.specs.declared.Moment.TheVariants as moment
use Rattle.orders.specs.Results.{add_order, remove_order, board_then}
use Rattle.amended.specs.Carried.{acts_of, in_turn}
use Rattle.amended.specs.Deeds.{Deed, Adds, Removes, Slots, Fetches, Refreshes, Desk, way_at, answers, leaves, leaves_all, restarts, plain, names_served, FullRound, tickets_told, CountUp}
use Rattle.amended.specs.Fates.{Waits, told_of, fate_through}
use Rattle.amended.specs.Holding.{on_board, held_next, held_through, held_then, Ready}
use Rattle.amended.specs.Refusing.{of_board}
use Rattle.amended.specs.Stretches.{Still}
use Rattle.amended.proofs.Carrying.{add_says}
use Rattle.amended.proofs.Projection.{ran_state, add_made}
use Rattle.amended.proofs.Held.{held_leaves, held_pieces, held_within, turn_others, turn_room, turn_carried, Serves, round_serves_lem}
use Rattle.amended.proofs.Sounding.{Standing, standing, restart_ready}
use Rattle.amended.proofs.Damaging.{undamaged}
use Rattle.amended.proofs.Listing.{count_up, up_rising, in_order, followed, taken_follows, add_thirteen, remove_thirteen}
use Rattle.amended.proofs.Rounding.{slot_served, ran_sound, slots_full, round_names_lem, plain_round}
use Rattle.amended.proofs.Stretches.{slots_still, kept, power, fair, power_then, fair_then}
-- ---- Demand 1: what a call that is not done answers, and that it changes nothing but for what 10 and 13 say, and a change's 13 puts on the list

pub use Rattle.amended.proofs.Answering.{demand_1_amended}

-- ---- Tickets: those that calls tell count up, whatever calls stand between them, opens and reads too; so from a list with no ticket given yet they are 1, 2, 3 and so on

pub amended_tickets : (s : Desk) (deeds : List Deed) → 259 ≤ length s.list → CountUp (last_ticket s.list) (tickets_told s deeds)
amended_tickets = count_up

-- and none is told twice: each is above all that were told before it.
pub tickets_above : (n : ℕ) (ts : List ℕ) → CountUp n ts → (i j : ℕ) → i < j → j < length ts → get_or ts i 0 < get_or ts j 0
tickets_above = up_rising

-- ---- What becomes of an order: at any time after it was taken, a fetch of its ticket says what its fate is. It waits (13); from the first slot that runs the list on
-- it has the answer that the call made at once gives in its turn, when the orders ahead of it are carried out; that is fetched once, and then, or once an open
-- or a read is done, the ticket is not known (15).

module _ (s : Desk) (is : InOrder s.list) where
  pub amended_add_fetched : (x w : ℕ) → x < 65536 → w < 65536 → (answers (Adds x w) s).number ≡ 13 → (between : List Deed)
      → let t = last_ticket s.list + 1 in
      answers (Fetches t) (leaves_all (leaves (Adds x w) s) between) ≡ told_of t (fate_through t (add_order x w) (waiting s.list) Waits (leaves (Adds x w) s) between)
  amended_add_fetched x w a b h between =
      let t = last_ticket s.list + 1 in
      let k = add_thirteen s x w h in
      followed t (add_order x w) (waiting s.list) Waits (leaves (Adds x w) s)
      (taken_follows s (add_order x w) (leaves (Adds x w) s) is (record { kind = omega arith; name = a; weight = b }) k.1 (rw k.0 refl)) between

  pub amended_remove_fetched : (x : ℕ) → x < 65536 → (answers (Removes x) s).number ≡ 13 → (between : List Deed)
      → let t = last_ticket s.list + 1 in
      answers (Fetches t) (leaves_all (leaves (Removes x) s) between) ≡ told_of t (fate_through t (remove_order x) (waiting s.list) Waits (leaves (Removes x) s) between)
  amended_remove_fetched x a h between =
      let t = last_ticket s.list + 1 in
      let k = remove_thirteen s x h in
      followed t (remove_order x) (waiting s.list) Waits (leaves (Removes x) s)
      (taken_follows s (remove_order x) (leaves (Removes x) s) is (record { kind = omega arith; name = a; weight = omega arith }) k.1 (rw k.0 refl)) between

-- The list is in order: a list with no place taken is, and calls keep it so.
pub amended_in_order : (s : Desk) → InOrder s.list → (deeds : List Deed) → InOrder (leaves_all s deeds).list
amended_in_order = in_order

pub amended_empty : (L : List ℕ) → 259 ≤ length L → places_in L ≡ 0 → InOrder L
amended_empty = free_in_order

-- ---- Demand 3: a stream is held from the moment its add is carried out until its remove is

-- Every open and every read that is done, on any desk with a list, leaves one that a history may begin with.
pub amended_ready : (a : Deed) (s : Desk) → 259 ≤ length s.list → restarts a s ≡ true → Ready (leaves a s)
amended_ready = restart_ready

module _ (s : Desk) (ready : Ready s) (deeds : List Deed) where
  -- where the calls lead, and what is then held
  abbrev pub desk' : Desk
  desk' = leaves_all s deeds

  abbrev pub held' : List Stream
  held' = held_through (on_board s.state) s deeds

  abbrev C : ℕ
  C = desk'.state.drive.capacity

  st : Standing held' desk'
  st = standing s ready deeds

  -- No slot is refused.
  pub amended_slot : (answers Slots desk').number ≡ 0
  amended_slot = slot_served held' desk' st

  -- No answer is DAMAGED: of read, whose 5 is of the sheet's board, and of fetch, which hands out what was answered before, see `amended_carried`.
  pub amended_undamaged : (a : Deed) → of_board a ≡ true → (answers a desk').number ≡ 5 → ⊥
  amended_undamaged = undamaged held' desk' st

  -- What is held of a name is the number of its leaves, in as many pieces as that has ones; and the weights held are never more than C.
  pub amended_held : (x : ℕ) → (x ≡ 0 → ⊥) → held_of x held' ≡ weight C desk'.state.board x
  amended_held = held_leaves desk'.state held' st.sound

  pub amended_pieces : (x : ℕ) → (x ≡ 0 → ⊥) → piece_count C desk'.state.board x ≡ ones (held_of x held')
  amended_pieces = held_pieces desk'.state held' st.sound

  pub amended_within : total held' ≤ C
  amended_within = held_within desk'.state held' st.sound

  -- ---- an add when it is carried out, the orders ahead of it being carried out before: from the list, or at once, with none ahead

  module _ (ahead : List Order) where
    -- the record and the board in its turn, and what is then held
    abbrev pub turn : State
    turn = after desk'.state (acts_of ahead)

    abbrev pub held_in_turn : List Stream
    held_in_turn = held_from held' (log desk'.state (acts_of ahead))

    -- It passes the checks beside ROOM if a round begins, it has a name and a weight, and nothing is held of the name;
    pub amended_others : (x w : ℕ) → turn.drive.position ≡ 1 → (x ≡ 0 → ⊥) → (w ≡ 0 → ⊥) → held_of x held_in_turn ≡ 0
        → first_of admit_may (asked_add turn.drive turn.board x w) ≡ Ok tt
    amended_others = turn_others desk'.state held' st.sound ahead

    -- and then it is refused for ROOM exactly when its weight exceeds C less the sum of the weights held, and else it is done. Refused so, it says that number.
    pub amended_room : (x w : ℕ) → first_of admit_may (asked_add turn.drive turn.board x w) ≡ Ok tt
        → ((in_turn desk'.state ahead (add_order x w)).number ≡ cond (ltb (C - total held_in_turn) w) 10 0)
        × ((in_turn desk'.state ahead (add_order x w)).number ≡ 10 → (in_turn desk'.state ahead (add_order x w)).values ≡ (C - total held_in_turn) ∷ [])
    amended_room = turn_room desk'.state held' st.sound ahead

    -- No order is answered DAMAGED.
    pub amended_carried : (o : Order) → (in_turn desk'.state ahead o).number ≡ 5 → ⊥
    amended_carried = turn_carried desk'.state held' st.sound ahead

  -- An add that is made at once is answered so, with none ahead of it.
  pub amended_at_once : (x w : ℕ) → way_at (add_order x w) desk' ≡ Ok moment.Now → answers (Adds x w) desk' ≡ in_turn desk'.state [] (add_order x w)
  unfolding acts_of after
  amended_at_once x w e = add_made desk' x w e ∙ sym (add_says desk'.state x w)

  -- ---- Request No. 12: a fresh layout

  -- At the start of a round it is done at once, whether orders wait or not; the list stays as it is,
  pub amended_fresh : desk'.state.drive.position ≡ 1 → ((answers Refreshes desk').number ≡ 0) × ((leaves Refreshes desk').list ≡ desk'.list)
  amended_fresh start = (rw (fresh_passes desk'.state held' st.sound start) refl, refl)

  -- and what is held too, so that all of this goes on after it.
  pub amended_fresh_held : held_next held' Refreshes desk' ≡ held'
  unfolding held_from log
  amended_fresh_held = same_either (eqb (answers Refreshes desk').number 0) held'

  -- ---- rounds

  -- At the start of a round the next C slots are a full round.
  pub amended_full : desk'.state.drive.position ≡ 1 → FullRound desk' (replicate (C - 1) Slots)
  amended_full = slots_full held' desk' st

  module _ (rest : List Deed) (full : FullRound desk' rest) where
    abbrev later : List Act
    later = plain (leaves Slots desk') rest

    serves : Serves C (ran_state desk').board (held_then held' desk') (names_served desk' (Slots ∷ rest))
    serves = round_serves_lem (ran_state desk') (held_then held' desk') (ran_sound held' desk' st) later (plain_round held' desk' st rest full)
        (names_served desk' (Slots ∷ rest)) (round_names_lem held' desk' st rest full)

    -- A full round serves the names that round would write once the list has run: the first slot is picked after that.
    pub amended_order : names_served desk' (Slots ∷ rest) ≡ round_names C (board_then desk'.state.drive desk'.state.board desk'.list)
    amended_order = serves.order

    -- In it a name is served as often as the weight that it holds once the list has run.
    pub amended_round : (x : ℕ) → (x ≡ 0 → ⊥) → occurrences x (names_served desk' (Slots ∷ rest)) ≡ held_of x (held_then held' desk')
    amended_round = serves.often

    -- In any t successive slots of it a stream of weight w is served s times, and C s and w t differ by less than m C + w h,
    pub amended_fair : (x w i t : ℕ) → held_of x (held_then held' desk') ≡ w → zero < w → i + t ≤ C
        → Near (C * occurrences x (in_a_row i t (names_served desk' (Slots ∷ rest)))) (w * t) (bound C w)
    amended_fair = serves.fair

    -- so by less than the demand's own 2 m C + w h.
    pub amended_demanded : (x w i t : ℕ) → held_of x (held_then held' desk') ≡ w → zero < w → i + t ≤ C
        → Near (C * occurrences x (in_a_row i t (names_served desk' (Slots ∷ rest)))) (w * t) (demanded C w)
    amended_demanded x w i t h some within = let f = amended_fair x w i t h some within in omega arith

  -- ---- Request No. 13: calls in which nothing is changed, over any number of rounds

  -- Where nothing waits any number of slots are such calls, and none of them is refused.
  pub amended_slots : waiting desk'.list ≡ [] → (n : ℕ) → Still desk' (replicate n Slots) × (length (names_served desk' (replicate n Slots)) ≡ n)
  amended_slots none n = slots_still n held' desk' st none

  module _ (rest : List Deed) (still : Still desk' rest) where
    -- They leave the board as it was, so that a stream has the same pieces throughout: as many as its weight has ones (`amended_pieces`).
    pub amended_kept : (leaves_all desk' rest).state.board ≡ desk'.state.board
    amended_kept = kept held' desk' st rest still

    -- If C is a power of two: in any t successive slots of them, over as many rounds as you like, a stream of weight w and m pieces is served s times, and C s
    -- and w t differ by less than m C.
    pub amended_power : PowerOfTwo C → PowerFair C desk'.state.board held' (names_served desk' rest)
    amended_power = power held' desk' st rest still

    -- For every C they differ by less than m C + w h: what demand 3 has of one round holds over any number of them.
    pub amended_still : StillFair C held' (names_served desk' rest)
    amended_still = fair held' desk' st rest still

  -- The same of slots the first of which carries out what waits: that comes before the slot is picked, and what is held is what is held then.
  module _ (rest : List Deed) (still : Still (leaves Slots desk') rest) where
    pub amended_power_then :
        PowerOfTwo C → PowerFair C (board_then desk'.state.drive desk'.state.board desk'.list) (held_then held' desk') (names_served desk' (Slots ∷ rest))
    amended_power_then = power_then held' desk' st rest still

    pub amended_still_then : StillFair C (held_then held' desk') (names_served desk' (Slots ∷ rest))
    amended_still_then = fair_then held' desk' st rest still

-- Two desks that hold the same come by it to equal leaves and to equal rounds, whatever calls were made at them.
module _ (s s' : Desk) (ready : Ready s) (ready' : Ready s') (deeds deeds' : List Deed) (same : (x : ℕ) → (x ≡ 0 → ⊥) → held_of x (held' s ready deeds) ≡ held_of x (held' s' ready' deeds'))
    (size : (leaves_all s deeds).state.drive.capacity ≡ (leaves_all s' deeds').state.drive.capacity)
    (start : (leaves_all s deeds).state.drive.position ≡ 1) (start' : (leaves_all s' deeds').state.drive.position ≡ 1) where
  abbrev one : Desk
  one = leaves_all s deeds

  abbrev two : Desk
  two = leaves_all s' deeds'

  pub amended_fresh_equal : (i : ℕ) → i < one.state.drive.capacity → get_or (leaves Refreshes one).state.board i 0 ≡ get_or (leaves Refreshes two).state.board i 0
  amended_fresh_equal =
      fresh_equal one.state two.state (held' s ready deeds) (held' s' ready' deeds') (standing s ready deeds).sound (standing s' ready' deeds').sound size start start' same

  pub amended_fresh_rounds :
      round_names one.state.drive.capacity (leaves Refreshes one).state.board ≡ round_names one.state.drive.capacity (leaves Refreshes two).state.board
  amended_fresh_rounds =
      fresh_rounds one.state two.state (held' s ready deeds) (held' s' ready' deeds') (standing s ready deeds).sound (standing s' ready' deeds').sound size start start' same
