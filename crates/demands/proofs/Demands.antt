-- The demands, each by its name: demand 1, and the board and the slot order of demand 2, for every call and every input; demand 3 for every history from an
-- opened board. What they ask of save and read stands in `sheets`, proofs/Laws. Assumes nothing.
use mathlib.Core.Path.{◌≡◌, refl, sym, ap, subst, ◌∙◌}
use mathlib.Core.Bool.{true, cond}
use mathlib.Core.List.{List, [], ◌∷◌, ◌++◌}
use Prim.Native.Nat.{ℕ, zero, ◌+◌, ◌-◌, ◌*◌, ◌/◌, ◌%◌, ◌^◌, ◌≤◌, ◌<◌}
use native.Mathlib.Omega.{arith}
use lib.Count.{ones}
use lib.Dec.{eqb, ltb}
use lib.ListN.{length, get_or, replicate}
use Rattle.general.proofs.Laws.{clash}
use Rattle.sequences.specs.Scanning.{round_leaves, occurrences}
use Rattle.sequences.specs.SlotOrder.{passed_from, served_from, next_from}
use Rattle.sequences.proofs.Laws.{passed_one, passed_clear, served_position, served_serves, leaf_literal, round_literal}
use Rattle.pieces.specs.Board.{weight, piece_count}
use Rattle.pieces.specs.Placing.{placed}
use Rattle.pieces.specs.Tidying.{removed}
use Rattle.pieces.proofs.Laws.{pieces_ones}
use Rattle.calls.specs.declared.Drive.{Drive}
use Rattle.std.specs.Prelude.{Ok}
use Rattle.calls.specs.Records.{drive_at, round_after}
use Rattle.calls.specs.Refusals.{number_of, first_of, among, asked_add, open_may, admit_may, remove_may, slot_may, round_may, report_may, change_may, open_check, add_check, remove_check, slot_check, round_check, report_check, change_check}
use Rattle.calls.specs.Answers.{beside}
use Rattle.calls.specs.Results.{opened_answer, slot_names, round_names}
use Rattle.calls.proofs.Laws.{clear_number, refusal, open_answers, add_answers, remove_answers, slot_answers, round_answers, report_answers, fresh_answers, open_clear, slot_sized, slot_position, change_slot, fresh_twice}
use Rattle.demands.specs.Histories.{Act, Add, Remove, Slot, Round, Report, Fresh, State, Openable, does, says, opens, after, reach, log}
use Rattle.demands.specs.Refusing.{may_answer, lent_output, writes, refused_values}
use Rattle.pieces.specs.Streams.{held_of, total}
use Rattle.demands.specs.Holdings.{is_change, changes_board, held_from, held}
use Rattle.demands.specs.Rounds.{names, names_from, FullRound, InTurn, in_a_row, names_on, Near, bound, demanded}
use Rattle.demands.specs.Stretches.{Still, PowerOfTwo, PowerFair, StillFair}
use Rattle.demands.specs.Layouts.{stream_adds, AllDone}
use Rattle.demands.specs.Certificates.{certificates, of_slot, slots_in, Every, ToldRound}
use Rattle.demands.proofs.Answering.{beside_says, zeros_say, done_idle}
use Rattle.demands.proofs.Valid.{Valid, slot_clear, clear_valid}
use Rattle.demands.proofs.Reached.{Sound, after_one, held_append, same_either, opened_clear, always}
use Rattle.demands.proofs.ServedNames.{full_names, slots_length, slots_full}
use Rattle.demands.proofs.Numbering.{moves}
use Rattle.demands.proofs.Told.{full_number, full_over, number_counted, certificate_at, one_slot, full_told, told_full}
use Rattle.demands.proofs.Stretching.{slots_still, still_board, served_power, served_still}
use Rattle.demands.proofs.Laying.{fresh_adds, fresh_equal, fresh_rounds}
use Rattle.demands.proofs.Standing.{never_damaged, midround, fresh_passes, others_pass, room, room_told, room_asked, served_round_lem, served_fair}

-- ---- Demand 1

-- Every call answers 0 or a number of its list. Refused, it gives back the record, the board and the output as they were, and zeros for values, but for ROOM
-- the idle leaves.
pub demand_1 : (a : Act) (s : State)
    → (among (says a s).number (may_answer a) ≡ true)
    × (((says a s).number ≡ 0 → ⊥) → (does a s ≡ s) × (writes a s ≡ lent_output a) × ((says a s).values ≡ refused_values s (says a s)))
unfolding among
demand_1 (Add x w) s =
    let d = s.drive in
    let B = s.board in
    (add_answers d B x w, λ n. let f = refusal (add_check d B x w) n in rw f.1 (refl, refl, beside_says (number_of f.0) (weight d.capacity B 0)))
demand_1 (Remove x) s =
    let m = remove_answers s.drive s.board x in
    (m, λ n. let e = (refusal (remove_check s.drive s.board x) n).1 in (rw e refl, refl, zeros_say remove_may s (says (Remove x) s) m refl (rw e refl)))
demand_1 Slot s =
    let m = slot_answers s.drive s.board in
    (m, λ n. let e = (refusal (slot_check s.drive s.board) n).1 in (rw e refl, refl, zeros_say slot_may s (says Slot s) m refl (rw e refl)))
demand_1 (Round O) s =
    let m = round_answers s.drive s.board O in
    (m, λ n. let e = (refusal (round_check s.drive s.board (length O)) n).1 in (refl, rw e refl, zeros_say round_may s (says (Round O) s) m refl (rw e refl)))
demand_1 (Report x) s =
    let m = report_answers s.drive s.board x in
    (m, λ n. let e = (refusal (report_check s.drive s.board x) n).1 in (refl, refl, zeros_say report_may s (says (Report x) s) m refl (rw e refl)))
demand_1 Fresh s =
    let m = fresh_answers s.drive s.board in
    (m, λ n. let e = (refusal (change_check s.drive s.board) n).1 in (rw e refl, refl, zeros_say change_may s (says Fresh s) m refl (rw e refl)))

-- So does open; refused, it gives a record with C and p zero, and the board as it was.
pub demand_1_open : (C : ℕ) (B : List ℕ)
    → (among (opened_answer C B).number open_may ≡ true) × (((opened_answer C B).number ≡ 0 → ⊥) → opens C B ≡ record { drive = drive_at 0 0; board = B })
demand_1_open C B = (open_answers C B, λ n. rw (refusal (open_check C B) n).1 refl)

-- ---- Demand 2, the board

-- An add that is done leaves the board that the placing rule gives, the record as it was,
pub demand_2_add : (x w : ℕ) (s : State) → (says (Add x w) s).number ≡ 0 → does (Add x w) s ≡ record { drive = s.drive; board = placed s.drive.capacity s.board x w }
demand_2_add x w s done =
    let d = s.drive in
    let B = s.board in
    rw (clear_number (add_check d B x w) done) refl

-- and a remove that is done the board that the tidying rule gives once the name's leaves are idle.
pub demand_2_remove : (x : ℕ) (s : State) → (says (Remove x) s).number ≡ 0 → does (Remove x) s ≡ record { drive = s.drive; board = removed s.drive.capacity s.board x }
demand_2_remove x s done =
    let d = s.drive in
    let B = s.board in
    rw (clear_number (remove_check d B x) done) refl

-- ---- Demand 2, the slot order

-- On any board, good or not, and at any position: a slot that is not refused is in its turn.
pub demand_2_slot : (s : State) → (says Slot s).number ≡ 0 → InTurn s
unfolding next_from
demand_2_slot s clear =
    let d = s.drive in
    let B = s.board in
    let C = d.capacity in
    let p = d.position in
    let e = clear_number (slot_check d B) clear in
    let at = slot_position d B e in
    record {
      over = passed_from C p;
      few = passed_one C p at;
      clear = λ q. passed_clear C p q at;
      set = served_serves C p at;
      said = rw (e, leaf_literal C (served_from C p) (served_position C p at)) refl;
      moved = rw e refl;
    }

-- On any board, good or not, where slot is not refused: a full round serves the names on the leaves that G-3's two sequences give, in their order.
pub demand_2_order : (s : State) (rest : List Act) → (says Slot s).number ≡ 0 → FullRound s rest → names_from s rest ≡ names_on s.board (round_leaves s.drive.capacity)
demand_2_order s rest clear full =
    let d = s.drive in
    let B = s.board in
    let C = d.capacity in
    let is : Valid s = clear_valid s (clear_number (slot_check d B) clear) in
    full_names s rest is full ∙ ap (names_on B) (round_literal C is.at.some is.at.few)

-- It ends where the next round starts, with the number one more, and 0 after the largest.
pub demand_2_ends : (s : State) (rest : List Act) → (says Slot s).number ≡ 0 → FullRound s rest
    → (after s (Slot ∷ rest)).drive ≡ record { capacity = s.drive.capacity; position = 1; round = round_after s.drive.round }
demand_2_ends s rest clear full =
    let at = (clear_valid s (clear_number (slot_check s.drive s.board) clear)).at in
    full_over s rest at.some at.few full

-- Round writes the same names.
pub demand_2_round : (C : ℕ) (B : List ℕ) → zero < C → C ≤ 4095 → round_names C B ≡ names_on B (round_leaves C)
unfolding slot_names
demand_2_round C B some few = ap (names_on B) (round_literal C some (omega arith))

-- ---- Request No. 6, for every input

-- Every call but slot hands the record back as it came, refused or not.
pub record_kept : (a : Act) (s : State) → (a ≡ Slot → ⊥) → (does a s).drive ≡ s.drive
record_kept (Add x w) s other = refl
record_kept (Remove x) s other = refl
record_kept Slot s other = absurd (other refl)
record_kept (Round O) s other = refl
record_kept (Report x) s other = refl
record_kept Fresh s other = refl

-- The slots of a full round say one number, the record's at its first slot.
pub round_one_number : (s : State) (rest : List Act) → (says Slot s).number ≡ 0 → FullRound s rest → Every (λ k. k ≡ s.drive.round) (certificates (log s (Slot ∷ rest)))
round_one_number s rest clear full =
    let at = (clear_valid s (clear_number (slot_check s.drive s.board) clear)).at in
    full_number s rest at.some at.few full

-- ---- Demand 3, for every capacity and every slice that open takes and every list of acts from the opened board

-- Openable is that open is done.
pub demand_3_openable : (C : ℕ) (B : List ℕ) → (Openable C B → (opened_answer C B).number ≡ 0) × ((opened_answer C B).number ≡ 0 → Openable C B)
demand_3_openable C B = (
  λ may. rw (opened_clear C B may) refl,
  λ done. let s = open_clear C B (clear_number (open_check C B) done) in record { some = s.some; few = s.few; long = s.long },
)

module _ (C : ℕ) (B : List ℕ) (may : Openable C B) (acts : List Act) where
  r : Sound (reach C B acts) (held C B acts)
  r = always C B may acts

  capacity : (acts : List Act) → (reach C B acts).drive.capacity ≡ C
  capacity acts = (moves (opens C B) acts).0 ∙ rw (opened_clear C B may) refl

  idle_after : (a : Act) → weight (reach C B acts).drive.capacity (does a (reach C B acts)).board 0 ≡ C - total (held C B (acts ++ (a ∷ [])))
  idle_after a =
      let i = (always C B may (acts ++ (a ∷ []))).idle in
      let j = rw (capacity (acts ++ (a ∷ []))) at i in
      rw (← after_one (opens C B) acts a, capacity acts) (omega arith)

  -- No answer is DAMAGED,
  pub demand_3_undamaged : (a : Act) → (says a (reach C B acts)).number ≡ 5 → ⊥
  demand_3_undamaged = never_damaged (reach C B acts) (held C B acts) r

  -- and no slot is refused.
  pub demand_3_slot : (says Slot (reach C B acts)).number ≡ 0
  demand_3_slot = rw (slot_clear (reach C B acts) r.valid) refl

  -- Within a round an add, a remove and a fresh layout are refused for MIDROUND, and change nothing.
  pub demand_3_midround : (a : Act) → changes_board a ≡ true → ((reach C B acts).drive.position ≡ 1 → ⊥) → ((says a (reach C B acts)).number ≡ 4) × (does a (reach C B acts) ≡ reach C B acts)
  demand_3_midround = midround (reach C B acts) (held C B acts) r

  -- The weights held are never more than C,
  pub demand_3_within : total (held C B acts) ≤ C
  demand_3_within = let i = r.idle in let c = capacity acts in omega arith

  -- and an add that passes the other checks is refused for ROOM exactly when its weight exceeds C less the sum of the weights held; else it is done.
  -- Refused so, it says that number,
  pub demand_3_room : (x w : ℕ) → first_of admit_may (asked_add (reach C B acts).drive (reach C B acts).board x w) ≡ Ok tt
      → ((says (Add x w) (reach C B acts)).number ≡ cond (ltb (C - total (held C B acts)) w) 10 0)
      × ((says (Add x w) (reach C B acts)).number ≡ 10 → (says (Add x w) (reach C B acts)).values ≡ (C - total (held C B acts)) ∷ [])
  demand_3_room x w e = (
    room (reach C B acts) (held C B acts) r x w e ∙ ap (λ (n : ℕ). cond (ltb (n - total (held C B acts)) w) 10 0) (capacity acts),
    λ full. room_told (reach C B acts) (held C B acts) r x w full ∙ ap (λ (n : ℕ). (n - total (held C B acts)) ∷ []) (capacity acts),
  )

  -- and that number can be asked for: if it is not 0, an add with that weight in its place is done.
  pub demand_3_ask : (x w : ℕ) → (says (Add x w) (reach C B acts)).number ≡ 10 → zero < C - total (held C B acts)
      → (says (Add x (C - total (held C B acts))) (reach C B acts)).number ≡ 0
  demand_3_ask x w full =
      subst (λ (n : ℕ). zero < n - total (held C B acts) → (says (Add x (n - total (held C B acts))) (reach C B acts)).number ≡ 0) (capacity acts)
      (room_asked (reach C B acts) (held C B acts) r x w full)

  -- At the start of a round an add passes the other checks if it has a name and a weight, and nothing is held of the name.
  pub demand_3_others : (x w : ℕ) → (reach C B acts).drive.position ≡ 1 → (x ≡ 0 → ⊥) → (w ≡ 0 → ⊥) → held_of x (held C B acts) ≡ 0
      → first_of admit_may (asked_add (reach C B acts).drive (reach C B acts).board x w) ≡ Ok tt
  demand_3_others = others_pass (reach C B acts) (held C B acts) r

  -- What is held of a name is the number of its leaves,
  pub demand_3_held : (x : ℕ) → (x ≡ 0 → ⊥) → held_of x (held C B acts) ≡ weight C (reach C B acts).board x
  demand_3_held x named = rw (capacity acts) at (sym (r.names x named))

  -- in as many pieces as the weight has ones,
  pub demand_3_pieces : (x : ℕ) → (x ≡ 0 → ⊥) → piece_count C (reach C B acts).board x ≡ ones (held_of x (held C B acts))
  demand_3_pieces x named = pieces_ones C (reach C B acts).board x may.few (rw (capacity acts) at r.fine) ∙ ap ones (sym (demand_3_held x named))

  -- and the idle number that an add or a remove returns is C less the sum held after it.
  pub demand_3_idle : (a : Act) → is_change a ≡ true → (says a (reach C B acts)).number ≡ 0 → (says a (reach C B acts)).values ≡ (C - total (held C B (acts ++ (a ∷ [])))) ∷ []
  demand_3_idle a = go a
    where
      d : Drive
      d = (reach C B acts).drive

      B' : List ℕ
      B' = (reach C B acts).board

      go : (a : Act) → is_change a ≡ true → (says a (reach C B acts)).number ≡ 0 → (says a (reach C B acts)).values ≡ (C - total (held C B (acts ++ (a ∷ [])))) ∷ []
      go (Add x w) e h = done_idle d.capacity (placed d.capacity B' x w) B' (add_check d B' x w) (λ q. beside (number_of q) (weight d.capacity B' 0) ∷ []) h ∙ ap (λ (n : ℕ). n ∷ []) (idle_after (Add x w))
      go (Remove x) e h = done_idle d.capacity (removed d.capacity B' x) B' (remove_check d B' x) (λ q. 0 ∷ []) h ∙ ap (λ (n : ℕ). n ∷ []) (idle_after (Remove x))
      go Slot e h = clash e refl
      go (Round O) e h = clash e refl
      go (Report x) e h = clash e refl
      go Fresh e h = clash e refl

  -- At the start of a round the next C slots are a full round.
  pub demand_3_full : (reach C B acts).drive.position ≡ 1 → FullRound (reach C B acts) (replicate (C - 1) Slot)
  demand_3_full first = subst (λ (n : ℕ). FullRound (reach C B acts) (replicate (n - 1) Slot)) (capacity acts) (slots_full (reach C B acts) r.valid first)

  -- In each full round a name is served as often as the weight that it holds at the round's first slot.
  pub demand_3_round : (rest : List Act) → FullRound (reach C B acts) rest → (x : ℕ) → (x ≡ 0 → ⊥) → occurrences x (names_from (reach C B acts) rest) ≡ held_of x (held C B acts)
  demand_3_round = served_round_lem (reach C B acts) (held C B acts) r

  -- In any t successive slots of that round a stream of weight w is served s times, and C s and w t differ by less than m C + w h,
  pub demand_3_fair : (rest : List Act) → FullRound (reach C B acts) rest → (x w i t : ℕ) → held_of x (held C B acts) ≡ w → zero < w → i + t ≤ C
      → Near (C * occurrences x (in_a_row i t (names_from (reach C B acts) rest))) (w * t) (bound C w)
  demand_3_fair rest full x w i t holds some =
      subst (λ (n : ℕ). i + t ≤ n → Near (n * occurrences x (in_a_row i t (names_from (reach C B acts) rest))) (w * t) (bound n w)) (capacity acts)
      (served_fair (reach C B acts) (held C B acts) r rest full x w i t holds some)

  -- so by less than the demand's own 2 m C + w h.
  pub demand_3_demanded : (rest : List Act) → FullRound (reach C B acts) rest → (x w i t : ℕ) → held_of x (held C B acts) ≡ w → zero < w → i + t ≤ C
      → Near (C * occurrences x (in_a_row i t (names_from (reach C B acts) rest))) (w * t) (demanded C w)
  demand_3_demanded rest full x w i t holds some within = let f = demand_3_fair rest full x w i t holds some within in omega arith

  -- ---- Request No. 6, for the same histories

  abbrev small : C < 4096
  small = let f = may.few in omega arith

  starts : (opens C B).drive ≡ drive_at C 1
  starts = rw (opened_clear C B may) refl

  -- The record's number is how many full rounds have passed, modulo 2 ^ 64: C slots are served in each.
  pub round_counted : (reach C B acts).drive.round ≡ slots_in (log (opens C B) acts) / C % 2 ^ 64
  round_counted = number_counted C may.some small (opens C B) starts acts

  -- Slot i, counted from 0, says how many full rounds have passed before it, and its leaf is leaf i % C of the round that G-3's two sequences give.
  pub slot_certified : (i : ℕ) → i < slots_in (log (opens C B) acts)
      → of_slot (certificates (log (opens C B) acts)) i ≡ record { round = i / C % 2 ^ 64; leaf = get_or (round_leaves C) (i % C) 0 }
  slot_certified i h = rw (← round_literal C may.some small) (certificate_at C may.some small (opens C B) starts acts i h)

  -- Two slots that say the same number and the same leaf, with fewer than 2 ^ 64 rounds between them, are the same slot.
  pub certificate_once : (i j : ℕ) → i < slots_in (log (opens C B) acts) → j < slots_in (log (opens C B) acts)
      → of_slot (certificates (log (opens C B) acts)) i ≡ of_slot (certificates (log (opens C B) acts)) j → Near (i / C) (j / C) (2 ^ 64) → i ≡ j
  certificate_once = one_slot C may.some small (opens C B) starts acts

  -- As long as fewer than 2 ^ 64 rounds have passed, the full rounds are those told by their number.
  pub round_told : (rest : List Act) → slots_in (log (opens C B) acts) / C < 2 ^ 64 → FullRound (reach C B acts) rest → ToldRound (opens C B) acts rest
  round_told = full_told C may.some small (opens C B) starts acts

  pub told_round : (rest : List Act) → ToldRound (opens C B) acts rest → FullRound (reach C B acts) rest
  told_round rest = told_full C may.some small (opens C B) starts acts rest demand_3_slot

  -- ---- Request No. 13, for the same histories: calls that follow, in which no change is done

  -- Any number of slots are such calls, and none of them is refused.
  pub still_slots : (n : ℕ) → Still (reach C B acts) (replicate n Slot) × (slots_in (log (reach C B acts) (replicate n Slot)) ≡ n)
  still_slots n = (slots_still (reach C B acts) n, slots_length (reach C B acts) n r.valid)

  module _ (rest : List Act) (still : Still (reach C B acts) rest) where
    -- They leave the board as it was, so that a stream has the same pieces throughout: as many as its weight has ones (`demand_3_pieces`).
    pub still_kept : (after (reach C B acts) rest).board ≡ (reach C B acts).board
    still_kept = still_board (reach C B acts) rest still

    -- If C is a power of two: in any t successive slots of them, over as many rounds as you like, a stream of weight w and m pieces is served s times, and C s
    -- and w t differ by less than m C.
    pub power_fair : PowerOfTwo C → PowerFair C (reach C B acts).board (held C B acts) (names (log (reach C B acts) rest))
    power_fair =
        subst (λ (c : ℕ). PowerOfTwo c → PowerFair c (reach C B acts).board (held C B acts) (names (log (reach C B acts) rest))) (capacity acts)
        (served_power (reach C B acts) (held C B acts) r rest still)

    -- For every C they differ by less than m C + w h: what demand 3 has of one round holds over any number of them.
    pub still_fair : StillFair C (held C B acts) (names (log (reach C B acts) rest))
    still_fair =
        subst (λ (c : ℕ). StillFair c (held C B acts) (names (log (reach C B acts) rest))) (capacity acts) (served_still (reach C B acts) (held C B acts) r rest still)

-- ---- Request No. 12

-- A fresh layout that is done leaves the board of an open and of an add for each stream, by falling weight, then rising name, every one of them done; the record
-- is as it was.
pub fresh_layout : (s : State) → (says Fresh s).number ≡ 0
    → let C = s.drive.capacity in
    let B = s.board in
    (does Fresh s ≡ record { drive = s.drive; board = (reach C B (stream_adds C B)).board }) × AllDone (log (opens C B) (stream_adds C B))
fresh_layout s done =
    let C = s.drive.capacity in
    let B = s.board in
    let e = clear_number (change_check s.drive B) done in
    let z = slot_sized s.drive B (change_slot s.drive B e) in
    let f = fresh_adds C B (record { some = z.some; few = z.few; long = z.long }) in
    (rw (e, f.0) refl, f.1)

-- Doing it again changes nothing.
pub fresh_again : (s : State) → does Fresh (does Fresh s) ≡ does Fresh s
fresh_again s = ap (λ (D : List ℕ). record { drive = s.drive; board = D }) (fresh_twice s.drive s.board)

module _ (C : ℕ) (B : List ℕ) (may : Openable C B) (acts : List Act) where
  -- In every history it is done at the start of a round,
  pub fresh_done : (reach C B acts).drive.position ≡ 1 → (says Fresh (reach C B acts)).number ≡ 0
  fresh_done start = rw (fresh_passes (reach C B acts) (held C B acts) (always C B may acts) start) refl

  -- and changes nothing that is held, so that demand 3 goes on after it.
  pub fresh_held : held C B (acts ++ (Fresh ∷ [])) ≡ held C B acts
  unfolding held_from log
  fresh_held = held_append [] (opens C B) acts (Fresh ∷ []) ∙ same_either (eqb (says Fresh (reach C B acts)).number 0) (held C B acts)

  -- Two histories that hold the same, whatever acts they are of, come by it to equal leaves and to equal rounds.
  module _ (B'' : List ℕ) (may' : Openable C B'') (acts' : List Act) (start : (reach C B acts).drive.position ≡ 1) (start' : (reach C B'' acts').drive.position ≡ 1)
      (same : (x : ℕ) → (x ≡ 0 → ⊥) → held_of x (held C B acts) ≡ held_of x (held C B'' acts')) where
    size : (reach C B acts).drive.capacity ≡ (reach C B'' acts').drive.capacity
    size = capacity C B may acts acts ∙ sym (capacity C B'' may' acts' acts')

    pub fresh_leaves : (i : ℕ) → i < C → get_or (does Fresh (reach C B acts)).board i 0 ≡ get_or (does Fresh (reach C B'' acts')).board i 0
    fresh_leaves =
        subst (λ (c : ℕ). (i : ℕ) → i < c → get_or (does Fresh (reach C B acts)).board i 0 ≡ get_or (does Fresh (reach C B'' acts')).board i 0) (capacity C B may acts acts)
        (fresh_equal (reach C B acts) (reach C B'' acts') (held C B acts) (held C B'' acts') (always C B may acts) (always C B'' may' acts') size start start' same)

    pub fresh_round : round_names C (does Fresh (reach C B acts)).board ≡ round_names C (does Fresh (reach C B'' acts')).board
    fresh_round =
        subst (λ (c : ℕ). round_names c (does Fresh (reach C B acts)).board ≡ round_names c (does Fresh (reach C B'' acts')).board) (capacity C B may acts acts)
        (fresh_rounds (reach C B acts) (reach C B'' acts') (held C B acts) (held C B'' acts') (always C B may acts) (always C B'' may' acts') size start start' same)
