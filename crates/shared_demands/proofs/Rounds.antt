-- Full rounds of one of two drives: C slots of it make one; it gives the leaves of a plain round on the board that the list has left, if it has run; and it serves
-- the names that round would write there, since every deficit is 0 at its start and nothing but its own slots moves its deficits or the board before its end.
-- Assumes nothing.
use mathlib.Core.Path.{◌≡◌, refl, sym, ap, ap₂, subst, ◌∙◌}
use mathlib.Core.Bool.{true, false}
use mathlib.Core.List.{List, [], ◌∷◌, ◌++◌, map}
use Prim.Native.Nat.{ℕ, zero, suc, ◌+◌, ◌-◌, ◌≤◌, ◌<◌}
use native.Mathlib.Omega.{arith}
use lib.ListN.{length, replicate, length-append, length-replicate, get_or-replicate}
use Rattle.general.proofs.Laws.{by_bool, empty}
use Rattle.sequences.specs.SlotOrder.{next_from}
use Rattle.sequences.specs.Serving.{leaves_from, after_slots}
use Rattle.sequences.proofs.Laws.{after_more_slots, first_position}
use Rattle.calls.specs.declared.Drive.{Drive}
use Rattle.calls.specs.Types.{Check}
use Rattle.std.specs.Prelude.{Ok, Err}
use Rattle.calls.specs.Records.{round_after}
use Rattle.calls.specs.Results.{if_clear, moved_on}
use Rattle.calls.proofs.Laws.{number_some}
use Rattle.tables.specs.Turns.{names_along, round_serves}
use Rattle.tables.proofs.Laws.{names_same, Zero}
use Rattle.demands.specs.Histories.{Act, Slot, after}
use Rattle.demands.specs.Histories as plainly
use Rattle.pieces.specs.Streams.{Stream}
use Rattle.demands.specs.Rounds.{names_from}
use Rattle.demands.specs.Rounds as rounds
use Rattle.demands.proofs.Laws.{Sound, reached, full_over}
use Rattle.waiting.specs.declared.Order.{Order}
use Rattle.waiting.specs.Layout.{waiting}
use Rattle.waiting.proofs.Laws.{none_waits}
use Rattle.orders.specs.Types.{Way}
use Rattle.orders.specs.declared.Moment.TheVariants as moment
use Rattle.drives.specs.Checks.{both_start}
use Rattle.drives.proofs.Laws.{start_both, start_swap}
use Rattle.shares.specs.States.{BoardTables}
use Rattle.shares.specs.Results.{carried_state, doing, saying, ran_list, state_by, state_then, list_then, turn_name, turn_state, served_answer_by, board_order}
use Rattle.amended.specs.Histories.{along}
use Rattle.amended.proofs.Laws as amended
use Rattle.shared_demands.specs.Turns.{Pair, exchanged, shown, first_checks, way_at, Deed, Changes, Slots, Fetches, answers_own, leaves_own, Turn, Own, Other, leaves, leaves_all, due, acts_for, stands_for, plain, name_in, name_served, names_served, on_leaf, leaf_given, leaves_given, FullRound}
use Rattle.shared_demands.specs.Holding.{held_next, held_then}
use Rattle.shared_demands.proofs.Checking.{now_both}
use Rattle.shared_demands.proofs.Turning.{ran_state', ran_plain, due_state, projected_one, given_one, all_so, shared_held}
use Rattle.shared_demands.proofs.Fitting.{Told, start_none, told_zero, owed_fit_lem}
use Rattle.shared_demands.proofs.Standing.{Standing, standing_next, some, few, first_clear, ran_fine}

module _ (hs : List Stream) (s : Pair) (is : Standing hs s) where
  pub slot_served : (answers_own Slots s).number ≡ 0
  slot_served = rw (first_clear hs s is) refl

  -- what is held once the list has run stands on the board that it leaves,
  pub ran_sound : Sound (ran_plain s) (held_then hs s)
  ran_sound = subst (λ (u : plainly.State). Sound u (held_then hs s)) (due_state s) (reached (shown s) hs is.own (acts_for (due s)))

  -- and is the same whichever drive's slot runs it
  pub then_turned : held_then hs (exchanged s) ≡ held_then hs s
  unfolding due
  then_turned = rw (start_swap s.other s.own) (sym (rw (first_clear hs s is) at (shared_held hs Slots s)))

  -- where both drives are at the start of a round a slot leaves no order waiting
  pub slot_runs : both_start s.own s.other ≡ true → waiting (leaves (Own Slots) s).list ≡ []
  unfolding list_then ran_list
  slot_runs e = rw (first_clear hs s is, e) (none_waits (doing s.own) (saying s.own) s.state s.list is.long)

-- ---- C slots

slots_many : (n : ℕ) (hs : List Stream) (s : Pair) → Standing hs s → length (names_served s (replicate n (Own Slots))) ≡ n
slots_many = amended.row_many leaves held_next Standing standing_next name_served (Own Slots) (λ gs u st. rw (slot_served gs u st) refl)

pub slots_full : (hs : List Stream) (s : Pair) → Standing hs s → s.own.position ≡ 1 → FullRound s (replicate (s.own.capacity - 1) (Own Slots))
slots_full hs s is first =
    let C = s.own.capacity in
    let n : suc (C - 1) ≡ C = let z = some hs s is in omega arith in
    record { first = first; slots = slots_many (suc (C - 1)) hs s is ∙ n }

-- ---- a full round gives the leaves of a plain full round from where the list has run

answer_many : (s : Pair) (k : Check) (t : BoardTables) (B : List ℕ) → length (on_leaf (served_answer_by k s.own t) B) ≡ length (name_in (served_answer_by k s.own t))
answer_many s (Ok tt) t B = refl
answer_many s (Err r) t B = rw (number_some r) refl

one_many : (t : Turn) (s : Pair) → length (leaf_given t s) ≡ length (name_served t s)
one_many (Own (Changes o)) s = refl
one_many (Own Slots) s = answer_many s (first_checks s) (ran_state' s) (leaves_own Slots s).state.board
one_many (Own (Fetches n)) s = refl
one_many (Other a) s = refl

as_many : (s : Pair) (turns : List Turn) → length (leaves_given s turns) ≡ length (names_served s turns)
unfolding along
as_many s [] = refl
as_many s (t ∷ rest) = length-append (leaf_given t s) (leaves_given (leaves t s) rest)
    ∙ rw (one_many t s, as_many (leaves t s) rest) (sym (length-append (name_served t s) (names_served (leaves t s) rest)))

clear_stands : (s : Pair) (k : Check) → k ≡ Ok tt → acts_for (if_clear k (due s) []) ++ if_clear k (Slot ∷ []) [] ≡ acts_for (due s) ++ (Slot ∷ [])
clear_stands s k e = rw e refl

module _ (hs : List Stream) (s : Pair) (is : Standing hs s) (rest : List Turn) (full : FullRound s rest) where
  -- the plain calls after the first slot
  abbrev later : List Act
  later = plain (leaves (Own Slots) s) rest

  stands : stands_for (Own Slots) s ≡ acts_for (due s) ++ (Slot ∷ [])
  stands = clear_stands s (first_checks s) (first_clear hs s is)

  pub round_given : leaves_given s (Own Slots ∷ rest) ≡ names_from (ran_plain s) (plain (leaves (Own Slots) s) rest)
  round_given = amended.names_from_slot leaves shown stands_for (λ t u. Unit {0}) (λ t u ok. projected_one t u)
      (Own Slots) s rest (acts_for (due s)) stands (all_so s (Own Slots ∷ rest))
      leaf_given (λ t u ok. given_one t u) (amended.acts_names (shown s) (map board_order (due s)))
      ∙ rw (due_state s) refl

  pub plain_round : rounds.FullRound (ran_plain s) (plain (leaves (Own Slots) s) rest)
  plain_round = record { first = full.first; slots = ap length (sym round_given) ∙ as_many s (Own Slots ∷ rest) ∙ full.slots }

  leads : shown (leaves_all s (Own Slots ∷ rest)) ≡ after (ran_plain s) (Slot ∷ later)
  leads = amended.leads_from_slot leaves shown stands_for (λ t u. Unit {0}) (λ t u ok. projected_one t u)
      (Own Slots) s rest (acts_for (due s)) stands (all_so s (Own Slots ∷ rest))
      ∙ rw (due_state s) refl

  -- it ends where the next round starts, with the number one more
  pub round_ends : (leaves_all s (Own Slots ∷ rest)).own ≡ record { capacity = s.own.capacity; position = 1; round = round_after s.own.round }
  round_ends = ap (λ (u : plainly.State). u.drive) leads ∙ full_over (ran_plain s) later is.own.valid.at.some is.own.valid.at.few plain_round

-- ---- calls within a round

-- n names of slots in a row, turn after turn.
abbrev along_from : Drive → BoardTables → ℕ → List ℕ
along_from d t n = names_along d.capacity t.board t.rates t.owed (leaves_from d.capacity d.position n)

-- What a slot looks at is as it was.
record Kept (t u : BoardTables) : Type 0 where
  board : u.board ≡ t.board
  rates : u.rates ≡ t.rates
  owed : u.owed ≡ t.owed

kept_along : (d : Drive) (t u : BoardTables) (n : ℕ) → Kept t u → along_from d u n ≡ along_from d t n
kept_along d t u n k = rw (k.board, k.rates, k.owed) refl

module _ (s : Pair) (away : s.own.position ≡ 1 → ⊥) where
  not_both : both_start s.own s.other ≡ false
  not_both = by_bool (both_start s.own s.other) (λ t. absurd (away (start_both s.own s.other t).0)) (λ f. f)

  not_turned : both_start s.other s.own ≡ false
  not_turned = start_swap s.other s.own ∙ not_both

  own_kept : (o : Order) (k : Way) → way_at o s ≡ k → Kept s.state (state_by k (carried_state s.own s.state o) s.state)
  own_kept o (Err r) e = record { board = refl; rates = refl; owed = refl }
  own_kept o (Ok moment.Later) e = record { board = refl; rates = refl; owed = refl }
  own_kept o (Ok moment.Now) e = absurd (away (start_both s.own s.other (now_both s.own s.other s.state s.list o e).1).0)

  change_kept : (o : Order) (k : Way) → way_at o (exchanged s) ≡ k
      → Kept s.state (exchanged (record { own = s.other; other = s.own; state = state_by k (carried_state s.other (exchanged s).state o) (exchanged s).state; list = [] })).state
  change_kept o (Err r) e = record { board = refl; rates = refl; owed = refl }
  change_kept o (Ok moment.Later) e = record { board = refl; rates = refl; owed = refl }
  change_kept o (Ok moment.Now) e = absurd (away (start_both s.other s.own (now_both s.other s.own (exchanged s).state s.list o e).1).1)

  slot_kept : (k : Check)
      → Kept s.state (exchanged (record { own = s.other; other = s.own; state = if_clear k (turn_state s.other (ran_state' (exchanged s))) (exchanged s).state; list = [] })).state
  unfolding state_then
  slot_kept (Ok tt) = rw not_turned (record { board = refl; rates = refl; owed = refl })
  slot_kept (Err r) = record { board = refl; rates = refl; owed = refl }

  other_kept : (a : Deed) → Kept s.state (leaves (Other a) s).state
  other_kept (Changes o) = change_kept o (way_at o (exchanged s)) refl
  other_kept Slots = slot_kept (first_checks (exchanged s))
  other_kept (Fetches t) = record { board = refl; rates = refl; owed = refl }

  own_state : ran_state' s ≡ s.state
  unfolding state_then
  own_state = rw not_both refl

-- a slot that is not refused
slot_leaves : (s : Pair) → first_checks s ≡ Ok tt
    → ((leaves (Own Slots) s).own ≡ moved_on s.own) × ((leaves (Own Slots) s).state ≡ turn_state s.own (ran_state' s)) × (name_served (Own Slots) s ≡ turn_name s.own (ran_state' s) ∷ [])
slot_leaves s e = rw e (refl, refl, refl)

-- within a round the position is not the first
mid_away : (C p i n : ℕ) → zero < C → C ≤ 4095 → p ≡ after_slots C 1 i → zero < i → i + suc n ≤ C → p ≡ 1 → ⊥
mid_away C p i n some few at far h e = omega (arith, start_none C i some few (omega arith) (sym at ∙ e))

-- slots of its own, whatever other calls stand between them
mid : (hs : List Stream) (s : Pair) (turns : List Turn) (i n : ℕ) → Standing hs s → s.own.position ≡ after_slots s.own.capacity 1 i → zero < i → i + n ≤ s.own.capacity
    → length (names_served s turns) ≡ n → names_served s turns ≡ along_from s.own s.state n
unfolding along names_along leaves_from
mid hs s turns i zero is at far h l = empty (names_served s turns) l
mid hs s [] i (suc n) is at far h l = absurd (omega arith)
mid hs s (Own Slots ∷ rest) i (suc n) is at far h l =
    let C = s.own.capacity in
    let away = mid_away C s.own.position i n (some hs s is) (few hs s is) at far h in
    let u = leaves (Own Slots) s in
    let q = slot_leaves s (first_clear hs s is) in
    let st = own_state s away in
    let on : next_from C s.own.position ≡ after_slots C 1 (suc i) = rw at (sym (after_more_slots C 1 i)) in
    let size : u.own.capacity ≡ s.own.capacity = ap (λ (d : Drive). d.capacity) q.0 in
    let place : u.own.position ≡ after_slots u.own.capacity 1 (suc i) = ap (λ (d : Drive). d.position) q.0 ∙ on ∙ ap (λ (c : ℕ). after_slots c 1 (suc i)) (sym size) in
    let m : length (names_served u rest) ≡ n = let z = sym (ap (λ (xs : List ℕ). length (xs ++ names_served u rest)) q.2) ∙ l in omega arith in
    ap₂ (λ (xs ys : List ℕ). xs ++ ys) (q.2 ∙ ap (λ (t : BoardTables). turn_name s.own t ∷ []) st)
    (mid (held_next hs (Own Slots) s) u rest (suc i) n (standing_next hs (Own Slots) s is) place (omega arith) (omega arith) m
    ∙ ap₂ (λ (d : Drive) (t : BoardTables). along_from d t n) q.0 (q.1 ∙ ap (turn_state s.own) st))
mid hs s (Own (Changes o) ∷ rest) i (suc n) is at far h l =
    let away = mid_away s.own.capacity s.own.position i n (some hs s is) (few hs s is) at far h in
    let u = leaves (Own (Changes o)) s in
    mid (held_next hs (Own (Changes o)) s) u rest i (suc n) (standing_next hs (Own (Changes o)) s is) at far h l
    ∙ kept_along s.own s.state u.state (suc n) (own_kept s away o (way_at o s) refl)
mid hs s (Own (Fetches t) ∷ rest) i (suc n) is at far h l =
    mid (held_next hs (Own (Fetches t)) s) (leaves (Own (Fetches t)) s) rest i (suc n) (standing_next hs (Own (Fetches t)) s is) at far h l
mid hs s (Other a ∷ rest) i (suc n) is at far h l =
    let away = mid_away s.own.capacity s.own.position i n (some hs s is) (few hs s is) at far h in
    let u = leaves (Other a) s in
    mid (held_next hs (Other a) s) u rest i (suc n) (standing_next hs (Other a) s is) at far h l
    ∙ kept_along s.own s.state u.state (suc n) (other_kept s away a)

-- ---- a full round serves what round writes once the list has run

module _ (hs : List Stream) (s : Pair) (is : Standing hs s) (first : s.own.position ≡ 1) where
  abbrev C : ℕ
  C = s.own.capacity

  -- every deficit is 0 there
  pub ran_zero : Zero s.own.capacity (ran_state' s).owed
  ran_zero =
      let t = ran_state' s in
      let fine = ran_fine hs s is in
      told_zero C t.board t.rates t.owed (some hs s is) (few hs s is) (owed_fit_lem C t fine.tables).1 (subst (λ (p : ℕ). Told C p t.board t.rates t.owed) first fine.told)

  module _ (rest : List Turn) (full : FullRound s rest) where
    pub along_round : names_served s (Own Slots ∷ rest) ≡ names_along C (ran_state' s).board (ran_state' s).rates (ran_state' s).owed (leaves_from C 1 C)
    unfolding along names_along leaves_from after_slots
    along_round =
        let u = leaves (Own Slots) s in
        let q = slot_leaves s (first_clear hs s is) in
        let n : suc (C - 1) ≡ C = let z = some hs s is in omega arith in
        let size : u.own.capacity ≡ s.own.capacity = ap (λ (d : Drive). d.capacity) q.0 in
        let place : u.own.position ≡ after_slots u.own.capacity 1 1 = ap (λ (d : Drive). d.position) q.0 ∙ ap₂ next_from (sym size) first in
        let m : length (names_served u rest) ≡ C - 1 = let z = sym (ap (λ (xs : List ℕ). length (xs ++ names_served u rest)) q.2) ∙ full.slots in omega arith in
        ap₂ (λ (xs ys : List ℕ). xs ++ ys) q.2
        (mid (held_next hs (Own Slots) s) u rest 1 (C - 1) (standing_next hs (Own Slots) s is) place (omega arith) (omega arith) m
        ∙ ap₂ (λ (d : Drive) (t : BoardTables). along_from d t (C - 1)) q.0 q.1)
        ∙ ap₂ (λ (p k : ℕ). names_along C (ran_state' s).board (ran_state' s).rates (ran_state' s).owed (leaves_from C p k)) first n

    pub round_order : names_served s (Own Slots ∷ rest) ≡ round_serves s.own.capacity (ran_state' s).board (ran_state' s).rates
    unfolding round_serves
    round_order =
        let wide : length {A = ℕ} (replicate C 0) ≡ C = length-replicate C 0 in
        along_round
        ∙ names_same C (ran_state' s).board (ran_state' s).rates C 1 (first_position C (some hs s is) (let f = few hs s is in omega arith)) (ran_state' s).owed (replicate C 0)
        (ran_fine hs s is).tables.owed (omega arith) (λ i h. ran_zero i h ∙ sym (get_or-replicate C i 0 0 h))
