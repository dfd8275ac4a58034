-- The names that the slots of a round serve, whatever other calls stand between them: the leaves of the round, read off the board at its first slot.
-- Assumes nothing.
use mathlib.Core.Path.{◌≡◌, refl, sym, ap, ◌∙◌}
use mathlib.Core.Bool.{Bool, true, false, cond}
use mathlib.Core.List.{List, [], ◌∷◌, ◌++◌}
use Prim.Native.Nat.{ℕ, zero, suc, ◌+◌, ◌-◌, ◌≤◌, ◌<◌}
use native.Mathlib.Omega.{arith}
use lib.Dec.{eqb}
use lib.ListN.{length, get_or, take, replicate}
use Rattle.general.proofs.Laws.{empty}
use Rattle.sequences.specs.SlotOrder.{leaf_at, served_from, next_from}
use Rattle.sequences.specs.Serving.{leaves_from, after_slots, count_list}
use Rattle.sequences.proofs.Laws.{after_more_slots}
use Rattle.sequences.specs.Scanning.{occurrences}
use Rattle.calls.specs.Results.{served_name, moved_on}
use Rattle.demands.specs.Histories.{Act, Add, Remove, Slot, Round, Report, Fresh, State, does, says, after, log}
use Rattle.demands.specs.Rounds.{names, names_from, FullRound, in_a_row, names_on}
use Rattle.demands.proofs.Windows.{round_away}
use Rattle.demands.proofs.Streams.{holds}
use Rattle.demands.proofs.Valid.{Valid, state_at, slot_clear, valid_next, add_midround, remove_midround, fresh_midround}

-- the names that acts and more acts serve
pub names_append : (s : State) (acts more : List Act) → names (log s (acts ++ more)) ≡ names (log s acts) ++ names (log (after s acts) more)
unfolding names log after
names_append s [] more = refl
names_append s (Add x w ∷ acts) more = names_append (does (Add x w) s) acts more
names_append s (Remove x ∷ acts) more = names_append (does (Remove x) s) acts more
names_append s (Slot ∷ acts) more =
    let ih = names_append (does Slot s) acts more in
    go (eqb (says Slot s).number 0) (names (log (does Slot s) (acts ++ more))) (names (log (does Slot s) acts)) (names (log (after (does Slot s) acts) more)) ih
  where
    go : (b : Bool) (later served rest : List ℕ) → later ≡ served ++ rest
        → cond b (get_or (says Slot s).values 0 0 ∷ later) later ≡ cond b (get_or (says Slot s).values 0 0 ∷ served) served ++ rest
    go true later served rest e = ap (λ (l : List ℕ). get_or (says Slot s).values 0 0 ∷ l) e
    go false later served rest e = e
names_append s (Round O ∷ acts) more = names_append s acts more
names_append s (Report x ∷ acts) more = names_append s acts more
names_append s (Fresh ∷ acts) more = names_append (does Fresh s) acts more

-- a slot serves the name on its leaf, and the record moves on
pub slot_names : (s : State) (acts : List Act) → Valid s
    → names_from s acts ≡ served_name s.drive s.board ∷ names (log (state_at (moved_on s.drive) s.board) acts)
unfolding names log
slot_names s acts is = rw (slot_clear s is) refl

-- the others of n + 1 slots
slot_rest : (s : State) (acts : List Act) (n : ℕ) → Valid s → length (names_from s acts) ≡ suc n → length (names (log (state_at (moved_on s.drive) s.board) acts)) ≡ n
slot_rest s acts n is l = let q = ap (λ (t : List ℕ). length t) (slot_names s acts is) in omega arith

-- acts within a round, after slot i: while slots are to come nothing but them changes anything
mid : (s : State) (acts : List Act) (i n : ℕ) → Valid s → s.drive.position ≡ after_slots s.drive.capacity 1 i → zero < i → i + n ≤ s.drive.capacity
    → length (names (log s acts)) ≡ n
    → names (log s acts) ≡ names_on s.board (leaves_from s.drive.capacity s.drive.position n)
unfolding names log leaves_from
mid s acts i zero is at away h l = empty (names (log s acts)) l
mid s [] i (suc n) is at away h l = absurd (omega arith)
mid s (Slot ∷ acts) i (suc n) is at away h l =
    let C = s.drive.capacity in
    let p = s.drive.position in
    let on : next_from C p ≡ after_slots C 1 (suc i) = rw at (sym (after_more_slots C 1 i)) in
    slot_names s acts is
    ∙ ap (λ (t : List ℕ). served_name s.drive s.board ∷ t)
    (mid (state_at (moved_on s.drive) s.board) acts (suc i) n (valid_next s is) on (omega arith) (omega arith) (slot_rest s acts n is l))
mid s (Add x w ∷ acts) i (suc n) is at away h l =
    let q = add_midround s is (λ e. round_away s.drive.capacity is.at.some is.at.few i away (omega arith) (sym at ∙ e)) x w in
    rw q (mid s acts i (suc n) is at away h (rw q at l))
mid s (Remove x ∷ acts) i (suc n) is at away h l =
    let q = remove_midround s is (λ e. round_away s.drive.capacity is.at.some is.at.few i away (omega arith) (sym at ∙ e)) x in
    rw q (mid s acts i (suc n) is at away h (rw q at l))
mid s (Round O ∷ acts) i (suc n) is at away h l = mid s acts i (suc n) is at away h l
mid s (Report x ∷ acts) i (suc n) is at away h l = mid s acts i (suc n) is at away h l
mid s (Fresh ∷ acts) i (suc n) is at away h l =
    let q = fresh_midround s is (λ e. round_away s.drive.capacity is.at.some is.at.few i away (omega arith) (sym at ∙ e)) in
    rw q (mid s acts i (suc n) is at away h (rw q at l))

-- a round from its first slot on
round_names_lem : (s : State) (acts : List Act) (n : ℕ) → Valid s → s.drive.position ≡ 1 → n ≤ s.drive.capacity → length (names_from s acts) ≡ n
    → names_from s acts ≡ names_on s.board (leaves_from s.drive.capacity s.drive.position n)
unfolding leaves_from after_slots
round_names_lem s acts zero is first h l = empty (names_from s acts) l
round_names_lem s acts (suc n) is first h l = slot_names s acts is
    ∙ ap (λ (t : List ℕ). served_name s.drive s.board ∷ t)
    (mid (state_at (moved_on s.drive) s.board) acts 1 n (valid_next s is) (rw first refl) (omega arith) (omega arith) (slot_rest s acts n is l))

-- a full round
pub full_names : (s : State) (rest : List Act) → Valid s → FullRound s rest → names_from s rest ≡ names_on s.board (leaves_from s.drive.capacity 1 s.drive.capacity)
full_names s rest is full = round_names_lem s rest s.drive.capacity is full.first (omega arith) (let l = full.slots in omega arith)
    ∙ ap (λ (p : ℕ). names_on s.board (leaves_from s.drive.capacity p s.drive.capacity)) full.first

-- n slots serve n names
pub slots_length : (s : State) (n : ℕ) → Valid s → length (names (log s (replicate n Slot))) ≡ n
unfolding names log
slots_length s zero is = refl
slots_length s (suc n) is = rw (slot_names s (replicate n Slot) is, slots_length (state_at (moved_on s.drive) s.board) n (valid_next s is)) refl

pub slots_full : (s : State) → Valid s → s.drive.position ≡ 1 → FullRound s (replicate (s.drive.capacity - 1) Slot)
slots_full s is first =
    let C = s.drive.capacity in
    let n : suc (C - 1) ≡ C = let z = is.at.some in omega arith in
    record { first = first; slots = slots_length s (suc (C - 1)) is ∙ n }

-- ---- slots in a row

row_start : (C p n t : ℕ) (B : List ℕ) → t ≤ n → take t (names_on B (leaves_from C p n)) ≡ names_on B (leaves_from C p t)
unfolding leaves_from
row_start C p n zero B h = refl
row_start C p zero (suc t) B h = absurd (omega arith)
row_start C p (suc n) (suc t) B h = ap (λ (l : List ℕ). get_or B (leaf_at C (served_from C p)) 0 ∷ l) (row_start C (next_from C p) n t B (omega arith))

pub row : (C p n i t : ℕ) (B : List ℕ) → i + t ≤ n → in_a_row i t (names_on B (leaves_from C p n)) ≡ names_on B (leaves_from C (after_slots C p i) t)
unfolding leaves_from after_slots
row C p n zero t B h = row_start C p n t B (omega arith)
row C p zero (suc i) t B h = absurd (omega arith)
row C p (suc n) (suc i) t B h = row C (next_from C p) n i t B (omega arith)

-- how often x is among the names on leaves
pub times_on : (B : List ℕ) (x : ℕ) (l : List ℕ) → occurrences x (names_on B l) ≡ count_list (holds B x) l
unfolding count_list
times_on B x [] = refl
times_on B x (i ∷ l) = rw (times_on B x l) refl
