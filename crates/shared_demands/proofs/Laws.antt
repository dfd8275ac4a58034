-- The demands with over-allocated streams, request No. 7, each by its name. Demand 1 holds for every call and every input; demand 3 for each of the
-- two drives, after every history of changes (kinds 1, 2 and 3), slots and fetches of both, refused or not, each call given the last record of both
-- drives and the board, the tables and the list as the last one left them. What is proved of the own drive holds of the other, since what that one
-- sees is a history too. Assumes nothing.
use mathlib.Core.Path.{◌≡◌, refl, sym, ap, subst, ◌∙◌}
use mathlib.Core.Bool.{true, cond}
use mathlib.Core.List.{List, [], ◌∷◌, map}
use Prim.Native.Nat.{ℕ, zero, ◌+◌, ◌-◌, ◌*◌, ◌/◌, ◌≤◌, ◌<◌}
use native.Mathlib.Omega.{arith}
use lib.Dec.{ltb}
use lib.ListN.{get_or, replicate}
use borrow.Author.Tests.{lt-ltb}
use Rattle.sequences.specs.Scanning.{occurrences}
use Rattle.pieces.specs.Board.{weight, piece_count}
use Rattle.std.specs.Prelude.{Ok}
use Rattle.calls.specs.Records.{round_after}
use Rattle.calls.specs.Refusals.{first_of, asked_add, admit_may}
use Rattle.calls.specs.Results.{round_names}
use Rattle.tables.specs.Sharing.{held_for, lowest}
use Rattle.tables.specs.Turns.{round_serves}
use Rattle.tables.proofs.Laws.{held_above, owed_below, one_piece, Zero}
use Rattle.demands.specs.Histories.{after, log}
use Rattle.demands.specs.Histories as plainly
use Rattle.pieces.specs.Streams.{Stream, held_of, total}
use Rattle.demands.specs.Holdings.{held_from}
use Rattle.demands.specs.Rounds.{names, in_a_row, Near, bound}
use Rattle.waiting.specs.declared.Order.{Order}
use Rattle.waiting.specs.Layout.{waiting}
use Rattle.orders.specs.declared.Moment.TheVariants as moment
use Rattle.orders.specs.Results.{add_order}
use Rattle.drives.specs.Checks.{both_start}
use Rattle.shares.specs.States.{fitting}
use Rattle.shares.specs.Results.{over_order, board_order, state_then}
use Rattle.amended.specs.Carried.{acts_of}
use Rattle.amended.proofs.Laws as amended
use Rattle.shared_demands.specs.Turns.{Pair, exchanged, Which, This, That, seen_by, shown, way_at, Deed, Changes, Slots, answers_own, leaves_own, Turn, Own, Other, answers, leaves, leaves_all, turned, turned_all, acts_for, plain, names_served, leaves_given, FullRound}
use Rattle.shared_demands.specs.Holding.{held_through, held_then, asked_through, asked_then, in_turn, streams_on, Ready, piece_bound}
use Rattle.shared_demands.proofs.Turning.{turned_leaves, projected, given_same, held_plain, held_turned}
use Rattle.shared_demands.proofs.Fitting.{Told, told_zero, owed_fit_lem}
use Rattle.shared_demands.proofs.Standing.{Standing, standing_turned, standing, some, few}
use Rattle.shared_demands.proofs.Rounds.{slot_served, then_turned, slot_runs, slots_full, round_ends, round_order}
use Rattle.shared_demands.proofs.Damaging.{change_undamaged}
use Rattle.shared_demands.proofs.Serving.{Asked, asked_turned, asked, then_rates, Over, over_at, gives, serves_plain, over_holds, serves_over, serves_first, given_fair}
-- ---- The calls: one that keeps its promise says, returns and leaves what the histories take it to

pub use Rattle.shared_demands.proofs.Promised.{change_kept, slot_kept}
-- ---- Where a history begins: every open and every read that is done leaves what it may begin with

pub use Rattle.shared_demands.proofs.Beginning.{open_ready, read_ready, read_pieces_ready}
-- ---- Demand 1: what a call that is not done answers, and that it changes nothing but for what 10 and 13 say, and a change's 13 puts on the list

pub use Rattle.shared_demands.proofs.Refusing.{demand_1_add, demand_1_over, demand_1_remove, demand_1_slot}

-- ---- What the other drive sees: the same calls, from the records and the deficits exchanged, lead to these exchanged, are answered the same, and hold the same.

pub shared_turned : (s : Pair) (turns : List Turn) → leaves_all (exchanged s) (turned_all turns) ≡ exchanged (leaves_all s turns)
shared_turned = turned_leaves

pub shared_answers : (t : Turn) (s : Pair) → answers (turned t) (exchanged s) ≡ answers t s
shared_answers (Own a) s = refl
shared_answers (Other a) s = refl

pub shared_held_turned : (hs : List Stream) (s : Pair) (turns : List Turn) → held_through hs (exchanged s) (turned_all turns) ≡ held_through hs s turns
shared_held_turned = held_turned

-- Neither drive's calls move the other's record, and no slot its deficits.
pub shared_stays : (a : Deed) (s : Pair) → (leaves_own a s).other ≡ s.other
shared_stays a s = refl

-- ---- The plain history of a drive: calls of both leave the record of the own drive and the board, give it the leaves, and hold the streams, of the orders that
-- either's calls carried out, an over-allocated add of r being an add of R, and of its own slots.

pub shared_plain : (s : Pair) (turns : List Turn)
    → (shown (leaves_all s turns) ≡ after (shown s) (plain s turns)) × (leaves_given s turns ≡ names (log (shown s) (plain s turns)))
    × ((hs : List Stream) → held_through hs s turns ≡ held_from hs (log (shown s) (plain s turns)))
shared_plain s turns = (projected s turns, given_same s turns, λ hs. held_plain hs s turns)

-- ---- Demand 3, for each drive

standing_seen : (f : Which) (hs : List Stream) (s : Pair) → Standing hs s → Standing hs (seen_by f s)
standing_seen This hs s is = is
standing_seen That hs s is = standing_turned hs s is

asked_seen : (f : Which) (g : ℕ → ℕ) (s : Pair) → Asked g s → Asked g (seen_by f s)
asked_seen This g s is = is
asked_seen That g s is = asked_turned g s is

module _ (s : Pair) (ready : Ready s) (turns : List Turn) (f : Which) where
  -- where the calls lead, as the drive f sees it; what is then held, and the r that each name has, whichever drive it is
  abbrev pub pair' : Pair
  pair' = seen_by f (leaves_all s turns)

  abbrev pub held' : List Stream
  held' = held_through (streams_on s) s turns

  abbrev pub asked' : ℕ → ℕ
  asked' = asked_through (λ x. 0) s turns

  abbrev C : ℕ
  C = pair'.own.capacity

  st : Standing held' pair'
  st = standing_seen f held' (leaves_all s turns) (standing s ready turns)

  ask : Asked asked' pair'
  ask = asked_seen f asked' (leaves_all s turns) (asked s ready turns)

  -- The board is good and every table fits it, so that no slot is refused, and no change is answered 5.
  pub shared_fits : fitting pair'.own.capacity pair'.state ≡ true
  shared_fits = st.fine.tables.fit

  pub shared_slot : (answers_own Slots pair').number ≡ 0
  shared_slot = slot_served held' pair' st

  pub shared_undamaged : (o : Order) → (answers_own (Changes o) pair').number ≡ 5 → ⊥
  shared_undamaged = change_undamaged held' pair' st

  -- What is held of a name is the number of its leaves, and the weights held are never more than C.
  pub shared_held : (x : ℕ) → (x ≡ 0 → ⊥) → held_of x held' ≡ weight pair'.own.capacity pair'.state.board x
  shared_held = amended.held_leaves (shown pair') held' st.own

  pub shared_within : total held' ≤ pair'.own.capacity
  shared_within = amended.held_within (shown pair') held' st.own

  -- ---- an over-allocated stream: its add that was done asked for r, and no remove of it was done since

  module _ (x r : ℕ) (named : x ≡ 0 → ⊥) (is : asked' x ≡ r) (some' : 0 < r) where
    over : Over C pair'.state.board pair'.state.rates x r
    over = over_at C pair'.state.board pair'.state.rates asked' ask.rates (owed_fit_lem C pair'.state st.fine.tables).0 x r named is some'

    -- It holds R, in one piece;
    pub shared_over : held_of x held' ≡ held_for r
    shared_over = shared_held x named ∙ over.holds

    pub shared_piece : piece_count pair'.own.capacity pair'.state.board x ≡ 1
    shared_piece =
        let B = pair'.state.board in
        ap (piece_count C B) (sym over.name)
        ∙ one_piece C B pair'.state.rates (lowest C B x) (few held' pair' st) st.own.fine (owed_fit_lem C pair'.state st.fine.tables).0 over.below (λ z. let e = over.rate in omega arith)

    -- r stands at its lowest leaf, and its deficit there is above -R and at most 0.
    pub shared_rate : get_or pair'.state.rates (lowest pair'.own.capacity pair'.state.board x) 0 ≡ r
    shared_rate = over.rate

    pub shared_deficit : get_or pair'.state.owed (lowest pair'.own.capacity pair'.state.board x) 0 < held_for r
    shared_deficit =
        let B = pair'.state.board in
        let T = pair'.state.rates in
        let b = owed_below C T pair'.state.owed (owed_fit_lem C pair'.state st.fine.tables).1 (lowest C B x) over.below (λ z. let e = over.rate in omega arith) in
        rw over.rate at b

  -- At the start of a round every deficit of the drive is 0.
  pub shared_zero : pair'.own.position ≡ 1 → Zero pair'.own.capacity pair'.state.owed
  shared_zero first =
      let t = pair'.state in
      told_zero C t.board t.rates t.owed (some held' pair' st) (few held' pair' st) (owed_fit_lem C t st.fine.tables).1
      (subst (λ (p : ℕ). Told C p t.board t.rates t.owed) first st.fine.told)

  -- ---- an add when it is carried out, the orders ahead of it being carried out before: from the list, or at once, with none ahead

  module _ (ahead : List Order) where
    -- the record and the board in its turn, and what is then held
    abbrev pub turn : plainly.State
    turn = after (shown pair') (acts_for ahead)

    abbrev pub held_in_turn : List Stream
    held_in_turn = held_from held' (log (shown pair') (acts_for ahead))

    -- An add of w leaves, w being R for an over-allocated one, passes the checks beside ROOM if a round begins, it has a name and a weight, and nothing is held of
    -- the name;
    pub shared_others : (x w : ℕ) → turn.drive.position ≡ 1 → (x ≡ 0 → ⊥) → (w ≡ 0 → ⊥) → held_of x held_in_turn ≡ 0
        → first_of admit_may (asked_add turn.drive turn.board x w) ≡ Ok tt
    shared_others = amended.turn_others (shown pair') held' st.own (map board_order ahead)

    -- and then it is refused for ROOM exactly when its weight exceeds C less the sum of the weights held, and else it is done. Refused so, it says that number.
    pub shared_room : (x w : ℕ) → first_of admit_may (asked_add turn.drive turn.board x w) ≡ Ok tt
        → ((in_turn pair' ahead (add_order x w)).number ≡ cond (ltb (C - total held_in_turn) w) 10 0)
        × ((in_turn pair' ahead (add_order x w)).number ≡ 10 → (in_turn pair' ahead (add_order x w)).values ≡ (C - total held_in_turn) ∷ [])
    unfolding board_order
    shared_room = amended.turn_room (shown pair') held' st.own (map board_order ahead)

    -- An over-allocated add goes by R.
    pub shared_over_room : (x r : ℕ) → first_of admit_may (asked_add turn.drive turn.board x (held_for r)) ≡ Ok tt
        → ((in_turn pair' ahead (over_order x r)).number ≡ cond (ltb (C - total held_in_turn) (held_for r)) 10 0)
        × ((in_turn pair' ahead (over_order x r)).number ≡ 10 → (in_turn pair' ahead (over_order x r)).values ≡ (C - total held_in_turn) ∷ [])
    unfolding board_order
    shared_over_room x r = amended.turn_room (shown pair') held' st.own (map board_order ahead) x (held_for r)

    -- r above 4,095 is more than any room; so is r above 32,768, whose R is 65,536.
    pub shared_over_large : (x r : ℕ) → 4095 < r → first_of admit_may (asked_add turn.drive turn.board x (held_for r)) ≡ Ok tt
        → (in_turn pair' ahead (over_order x r)).number ≡ 10
    shared_over_large x r large e =
        let l = few held' pair' st in
        (shared_over_room x r e).0 ∙ rw (lt-ltb (C - total held_in_turn) (held_for r) (omega (arith, held_above r))) refl

    -- No order is answered DAMAGED.
    pub shared_carried : (o : Order) → (in_turn pair' ahead o).number ≡ 5 → ⊥
    shared_carried o = amended.turn_carried (shown pair') held' st.own (map board_order ahead) (board_order o)

  -- A change that is made at once is answered so, with none ahead of it.
  pub shared_at_once : (o : Order) → way_at o pair' ≡ Ok moment.Now → answers_own (Changes o) pair' ≡ in_turn pair' [] o
  unfolding acts_of after
  shared_at_once o e = rw e refl

  -- ---- rounds

  -- A slot that finds both drives at the start of a round leaves no order waiting.
  pub shared_runs : both_start pair'.own pair'.other ≡ true → waiting (leaves (Own Slots) pair').list ≡ []
  shared_runs = slot_runs held' pair' st

  -- What is held once the list has run, if it runs, is the same for the other drive.
  pub shared_then : held_then held' (exchanged pair') ≡ held_then held' pair'
  shared_then = then_turned held' pair' st

  -- At the start of a round the next C slots of the drive are a full round.
  pub shared_full : pair'.own.position ≡ 1 → FullRound pair' (replicate (C - 1) (Own Slots))
  shared_full = slots_full held' pair' st

  module _ (rest : List Turn) (full : FullRound pair' rest) where
    -- A full round ends where the drive's next one starts, with the number one more; so its deficits are 0 again (`shared_zero`).
    pub shared_ends : (leaves_all pair' (Own Slots ∷ rest)).own ≡ record { capacity = pair'.own.capacity; position = 1; round = round_after pair'.own.round }
    shared_ends = round_ends held' pair' st rest full

    -- It gives the leaves of the board that the list has left, if it has run, in the slot order, so each stream as many as it holds then: R where it is over-allocated.
    pub shared_gives : leaves_given pair' (Own Slots ∷ rest) ≡ round_names C (state_then pair'.own pair'.other pair'.state pair'.list).board
    shared_gives = (gives held' pair' st rest full).order

    pub shared_leaves : (x : ℕ) → (x ≡ 0 → ⊥) → occurrences x (leaves_given pair' (Own Slots ∷ rest)) ≡ held_of x (held_then held' pair')
    shared_leaves = (gives held' pair' st rest full).often

    -- In any t successive slots of it a stream that holds w is given s leaves, and C s and w t differ by less than m C + w h.
    pub shared_fair : (x w i t : ℕ) → held_of x (held_then held' pair') ≡ w → zero < w → i + t ≤ C
        → Near (C * occurrences x (in_a_row i t (leaves_given pair' (Own Slots ∷ rest)))) (w * t) (bound C w)
    shared_fair = (gives held' pair' st rest full).fair

    -- It serves what round would write there, every deficit taken as 0.
    pub shared_order : names_served pair' (Own Slots ∷ rest)
        ≡ round_serves C (state_then pair'.own pair'.other pair'.state pair'.list).board (state_then pair'.own pair'.other pair'.state pair'.list).rates
    shared_order = round_order held' pair' st full.first rest full

    -- A stream that is not over-allocated is served as often as the weight that it holds then.
    module _ (x : ℕ) (named : x ≡ 0 → ⊥) where
      pub shared_plain_serves : asked_then asked' pair' x ≡ 0 → zero < held_of x (held_then held' pair') → occurrences x (names_served pair' (Own Slots ∷ rest)) ≡ held_of x (held_then held' pair')
      shared_plain_serves = serves_plain held' pair' st rest full (asked_then asked' pair') (then_rates asked' pair' ask) x named

      -- One that is over-allocated, with r, holds R,
      module _ (r : ℕ) (is : asked_then asked' pair' x ≡ r) (some' : 0 < r) where
        pub shared_holds : held_of x (held_then held' pair') ≡ held_for r
        shared_holds = over_holds held' pair' st rest full (asked_then asked' pair') (then_rates asked' pair' ask) x named r is some'

        -- and is served r times;
        pub shared_serves : occurrences x (names_served pair' (Own Slots ∷ rest)) ≡ r
        shared_serves = serves_over held' pair' st rest full (asked_then asked' pair') (then_rates asked' pair' ask) x named r is some'

        -- in the first n slots, of which some are its leaves, as often as these times r / R, rounded up.
        pub shared_first : (n : ℕ)
            → occurrences x (in_a_row 0 n (names_served pair' (Own Slots ∷ rest))) ≡ (occurrences x (in_a_row 0 n (leaves_given pair' (Own Slots ∷ rest))) * r + (held_for r - 1)) / held_for r
        shared_first = serves_first held' pair' st rest full (asked_then asked' pair') (then_rates asked' pair' ask) x named r is some'

        -- In any t successive slots it is given s leaves, and C s and R t differ by less than C + R h: it has one piece.
        pub shared_piece_fair : (i t : ℕ) → i + t ≤ pair'.own.capacity
            → Near (pair'.own.capacity * occurrences x (in_a_row i t (leaves_given pair' (Own Slots ∷ rest)))) (held_for r * t) (piece_bound pair'.own.capacity (held_for r))
        shared_piece_fair = given_fair held' pair' st rest full (asked_then asked' pair') (then_rates asked' pair' ask) x named r is some'
