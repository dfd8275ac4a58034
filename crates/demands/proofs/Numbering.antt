-- How slots move a record, its round number among it, and what they certify: slots from the start of a round on say one number for C slots, and then the
-- next one. Assumes nothing.
use mathlib.Core.Path.{◌≡◌, refl, sym, ap, ap₂, ◌∙◌}
use mathlib.Core.List.{List, [], ◌∷◌}
use Prim.Native.Nat.{ℕ, zero, suc, ◌+◌, ◌*◌, ◌/◌, ◌%◌, ◌^◌, ◌≤◌, ◌<◌}
use native.Mathlib.Nat.{mod-lt, div-add-mod'}
use native.Mathlib.Omega.{arith}
use lib.Dec.{eqb}
use lib.ListN.{length, get_or}
use borrow.Author.Tests.{eq-eqb, ne_eqb}
use Rattle.sequences.specs.Serving.{leaves_from, after_slots, count_list}
use Rattle.sequences.proofs.Laws.{leaves_at, leaves_length, round_once, round_ends, leaf_below_lem, first_position, after_slots_valid}
use Rattle.calls.specs.declared.Drive.{Drive}
use Rattle.calls.specs.Types.{Check}
use Rattle.std.specs.Prelude.{Ok, Err}
use Rattle.calls.specs.Records.{drive_at, round_after}
use Rattle.calls.specs.Refusals.{slot_check}
use Rattle.calls.specs.Results.{served_leaf, moved_on}
use Rattle.calls.proofs.Laws.{number_some}
use Rattle.demands.specs.Histories.{Act, Add, Remove, Slot, Round, Report, Fresh, State, does, says, after, log}
use Rattle.demands.specs.Rounds.{names}
use Rattle.demands.specs.Certificates.{Certificate, certificates, of_slot, slots_in}
use Rattle.demands.proofs.Windows.{round_away}

-- the record after n slots
unfoldable pub drive_after : Drive → ℕ → Drive
drive_after d zero = d
drive_after d (suc n) = drive_after (moved_on d) n

-- what a slot from a record certifies
abbrev pub certificate_of : Drive → Certificate
certificate_of d = record { round = d.round; leaf = served_leaf d }

-- what n slots from a record certify
unfoldable certified_from : Drive → ℕ → List Certificate
certified_from d zero = []
certified_from d (suc n) = certificate_of d ∷ certified_from (moved_on d) n

-- ---- acts move a record by the slots among them that are served, on any board, and these certify what the record tells

pub drive_moves : (s : State) (acts : List Act) → (after s acts).drive ≡ drive_after s.drive (slots_in (log s acts))
unfolding after names log drive_after
drive_moves s [] = refl
drive_moves s (Add x w ∷ acts) = drive_moves (does (Add x w) s) acts
drive_moves s (Remove x ∷ acts) = drive_moves (does (Remove x) s) acts
drive_moves s (Round O ∷ acts) = drive_moves s acts
drive_moves s (Report x ∷ acts) = drive_moves s acts
drive_moves s (Fresh ∷ acts) = drive_moves (does Fresh s) acts
drive_moves s (Slot ∷ acts) = go (slot_check s.drive s.board) refl (drive_moves (does Slot s) acts)
  where
    go : (c : Check) → slot_check s.drive s.board ≡ c → (after (does Slot s) acts).drive ≡ drive_after (does Slot s).drive (slots_in (log (does Slot s) acts))
        → (after (does Slot s) acts).drive ≡ drive_after s.drive (slots_in (log s (Slot ∷ acts)))
    go (Ok tt) e ih = rw e (rw e at ih)
    go (Err r) e ih = rw (e, number_some r) (rw e at ih)

certified : (s : State) (acts : List Act) → certificates (log s acts) ≡ certified_from s.drive (slots_in (log s acts))
unfolding certificates names log certified_from
certified s [] = refl
certified s (Add x w ∷ acts) = certified (does (Add x w) s) acts
certified s (Remove x ∷ acts) = certified (does (Remove x) s) acts
certified s (Round O ∷ acts) = certified s acts
certified s (Report x ∷ acts) = certified s acts
certified s (Fresh ∷ acts) = certified (does Fresh s) acts
certified s (Slot ∷ acts) = go (slot_check s.drive s.board) refl (certified (does Slot s) acts)
  where
    go : (c : Check) → slot_check s.drive s.board ≡ c
        → certificates (log (does Slot s) acts) ≡ certified_from (does Slot s).drive (slots_in (log (does Slot s) acts))
        → certificates (log s (Slot ∷ acts)) ≡ certified_from s.drive (slots_in (log s (Slot ∷ acts)))
    go (Ok tt) e ih = rw e (ap (λ (cs : List Certificate). certificate_of s.drive ∷ cs) (rw e at ih))
    go (Err r) e ih = rw (e, number_some r) (rw e at ih)

certified_length : (d : Drive) (n : ℕ) → length (certified_from d n) ≡ n
unfolding certified_from
certified_length d zero = refl
certified_length d (suc n) = rw (certified_length (moved_on d) n) refl

certified_at : (d : Drive) (n i : ℕ) → i < n → of_slot (certified_from d n) i ≡ certificate_of (drive_after d i)
unfolding certified_from drive_after
certified_at d zero i h = absurd (omega arith)
certified_at d (suc n) zero h = refl
certified_at d (suc n) (suc i) h = certified_at (moved_on d) n i (omega arith)

-- slot i of acts certifies what the record after i slots tells
pub slot_certifies : (s : State) (acts : List Act) (i : ℕ) → i < slots_in (log s acts) → of_slot (certificates (log s acts)) i ≡ certificate_of (drive_after s.drive i)
slot_certifies s acts i h = rw (certified s acts) (certified_at s.drive (slots_in (log s acts)) i h)

-- there are as many certificates as slots
pub certificates_length : (s : State) (acts : List Act) → length (certificates (log s acts)) ≡ slots_in (log s acts)
certificates_length s acts = rw (certified s acts) (certified_length s.drive (slots_in (log s acts)))

-- a slot that is not refused is one
pub slot_counts : (s : State) (acts : List Act) → (says Slot s).number ≡ 0 → zero < slots_in (log s (Slot ∷ acts))
unfolding names log
slot_counts s acts clear = rw (eq-eqb (says Slot s).number 0 clear) (omega arith)

-- ---- the record after slots

drive_more : (d : Drive) (n : ℕ) → drive_after d (suc n) ≡ moved_on (drive_after d n)
unfolding drive_after
drive_more d zero = refl
drive_more d (suc n) = drive_more (moved_on d) n

pub drive_append : (d : Drive) (m n : ℕ) → drive_after d (m + n) ≡ drive_after (drive_after d m) n
unfolding drive_after
drive_append d zero n = ap (drive_after d) (let e : 0 + n ≡ n = omega arith in e)
drive_append d (suc m) n = ap (drive_after d) (let e : suc m + n ≡ suc (m + n) = omega arith in e) ∙ drive_append (moved_on d) m n

pub drive_capacity : (d : Drive) (n : ℕ) → (drive_after d n).capacity ≡ d.capacity
unfolding drive_after
drive_capacity d zero = refl
drive_capacity d (suc n) = drive_capacity (moved_on d) n

pub drive_position : (d : Drive) (n : ℕ) → (drive_after d n).position ≡ after_slots d.capacity d.position n
unfolding drive_after after_slots
drive_position d zero = refl
drive_position d (suc n) = drive_position (moved_on d) n

pub moves : (s : State) (acts : List Act)
    → ((after s acts).drive.capacity ≡ s.drive.capacity)
    × ((after s acts).drive.position ≡ after_slots s.drive.capacity s.drive.position (length (names (log s acts))))
moves s acts =
    let e = drive_moves s acts in
    let n = slots_in (log s acts) in
    (ap (λ (d : Drive). d.capacity) e ∙ drive_capacity s.drive n, ap (λ (d : Drive). d.position) e ∙ drive_position s.drive n)

-- the number is the next one where the position is 1, and else the same
number_same : (d : Drive) → ((moved_on d).position ≡ 1 → ⊥) → (moved_on d).round ≡ d.round
number_same d away = rw (ne_eqb (moved_on d).position 1 away) refl

number_next : (d : Drive) → (moved_on d).position ≡ 1 → (moved_on d).round ≡ round_after d.round
number_next d first = rw (eq-eqb (moved_on d).position 1 first) refl

-- records with the same three numbers
same_drive : (d e : Drive) → d.capacity ≡ e.capacity → d.position ≡ e.position → d.round ≡ e.round → d ≡ e
same_drive d e c p n =
    let made : ℕ → ℕ → ℕ → Drive = λ c p n. record { capacity = c; position = p; round = n } in
    ap₂ (λ (c p : ℕ). made c p d.round) c p ∙ ap (made e.capacity e.position) n

-- ---- one round

module _ (d : Drive) (some : zero < d.capacity) (few : d.capacity < 4096) (first : d.position ≡ 1) where
  place : (i : ℕ) → (drive_after d i).position ≡ after_slots d.capacity 1 i
  place i = drive_position d i ∙ ap (λ (p : ℕ). after_slots d.capacity p i) first

  -- its slots say one number
  pub one_number : (i : ℕ) → i < d.capacity → (drive_after d i).round ≡ d.round
  unfolding drive_after
  one_number zero h = refl
  one_number (suc i) h =
      let e = drive_more d i in
      ap (λ (d : Drive). d.round) e
      ∙ number_same (drive_after d i) (λ q. round_away d.capacity some few (suc i) (omega arith) h (sym (place (suc i)) ∙ ap (λ (d : Drive). d.position) e ∙ q))
      ∙ one_number i (omega arith)

  -- and after them comes the next
  pub round_over : drive_after d d.capacity ≡ record { capacity = d.capacity; position = 1; round = round_after d.round }
  round_over = same_drive (drive_after d d.capacity) (record { capacity = d.capacity; position = 1; round = round_after d.round }) (drive_capacity d d.capacity) back (go d.capacity refl)
    where
      back : (drive_after d d.capacity).position ≡ 1
      back = place d.capacity ∙ round_ends d.capacity some few

      go : (c : ℕ) → d.capacity ≡ c → (drive_after d d.capacity).round ≡ round_after d.round
      go zero e = absurd (omega arith)
      go (suc c) e =
          let m : drive_after d d.capacity ≡ moved_on (drive_after d c) = ap (drive_after d) e ∙ drive_more d c in
          ap (λ (d : Drive). d.round) m
          ∙ number_next (drive_after d c) (sym (ap (λ (d : Drive). d.position) m) ∙ back)
          ∙ ap round_after (one_number c (omega arith))

-- ---- rounds one after the other

counted_some : (L : List ℕ) (x i : ℕ) → i < length L → get_or L i 0 ≡ x → zero < count_list (λ (y : ℕ). eqb y x) L
unfolding count_list
counted_some [] x i h e = absurd (omega arith)
counted_some (y ∷ L) x zero h e = rw (eq-eqb y x e) (omega arith)
counted_some (y ∷ L) x (suc i) h e = let z = counted_some L x i (omega arith) e in omega arith

-- what stands once in a list stands at one place
counted_once : (L : List ℕ) (x i j : ℕ) → count_list (λ (y : ℕ). eqb y x) L ≤ 1 → i < length L → j < length L → get_or L i 0 ≡ x → get_or L j 0 ≡ x → i ≡ j
unfolding count_list
counted_once [] x i j c h k p q = absurd (omega arith)
counted_once (y ∷ L) x zero zero c h k p q = refl
counted_once (y ∷ L) x zero (suc j) c h k p q = absurd (let z = counted_some L x j (omega arith) q in let n = rw (eq-eqb y x p) at c in omega arith)
counted_once (y ∷ L) x (suc i) zero c h k p q = absurd (let z = counted_some L x i (omega arith) p in let n = rw (eq-eqb y x q) at c in omega arith)
counted_once (y ∷ L) x (suc i) (suc j) c h k p q = ap suc (counted_once L x i j (omega arith) (omega arith) (omega arith) p q)

module _ (C : ℕ) (some : zero < C) (few : C < 4096) where
  -- the record at the start of round n
  abbrev start : ℕ → Drive
  start n = record { capacity = C; position = 1; round = n % 2 ^ 64 }

  rounds_over : (q n : ℕ) → drive_after (start n) (q * C) ≡ start (n + q)
  unfolding drive_after
  rounds_over zero n = ap (drive_after (start n)) (let e : 0 * C ≡ 0 = omega arith in e) ∙ ap start (let e : n ≡ n + 0 = omega arith in e)
  rounds_over (suc q) n =
      let e : round_after (n % 2 ^ 64) ≡ suc n % 2 ^ 64 = omega arith in
      ap (drive_after (start n)) (let m : suc q * C ≡ C + q * C = omega arith in m)
      ∙ drive_append (start n) C (q * C)
      ∙ ap (λ (d : Drive). drive_after d (q * C)) (round_over (start n) some few refl ∙ ap (λ (k : ℕ). record { capacity = C; position = 1; round = k }) e)
      ∙ rounds_over q (suc n)
      ∙ ap start (let m : suc n + q ≡ n + suc q = omega arith in m)

  -- i slots are i / C rounds and i % C slots
  by_rounds : (i : ℕ) → drive_after (drive_at C 1) i ≡ drive_after (start (i / C)) (i % C)
  by_rounds i = ap (drive_after (start 0)) (sym (div-add-mod' i C))
      ∙ drive_append (start 0) (i / C * C) (i % C)
      ∙ ap (λ (d : Drive). drive_after d (i % C)) (rounds_over (i / C) 0 ∙ ap start (let m : 0 + i / C ≡ i / C = omega arith in m))

  pub number_at : (i : ℕ) → (drive_after (drive_at C 1) i).round ≡ i / C % 2 ^ 64
  number_at i = ap (λ (d : Drive). d.round) (by_rounds i) ∙ one_number (start (i / C)) some few refl (i % C) (mod-lt i some)

  pub position_at : (i : ℕ) → (drive_after (drive_at C 1) i).position ≡ after_slots C 1 (i % C)
  position_at i = ap (λ (d : Drive). d.position) (by_rounds i) ∙ drive_position (start (i / C)) (i % C)

  -- the leaf of slot i is leaf i % C of a round
  pub leaf_at_lem : (i : ℕ) → served_leaf (drive_after (drive_at C 1) i) ≡ get_or (leaves_from C 1 C) (i % C) 0
  leaf_at_lem i = rw (drive_capacity (drive_at C 1) i, position_at i) (sym (leaves_at C 1 C (i % C) (mod-lt i some)))

  -- each leaf has one place in a round
  pub leaf_once : (i j : ℕ) → i < C → j < C → get_or (leaves_from C 1 C) i 0 ≡ get_or (leaves_from C 1 C) j 0 → i ≡ j
  leaf_once i j h k e =
      let l = leaves_length C 1 C in
      let x = get_or (leaves_from C 1 C) j 0 in
      let below : x < C = rw (leaves_at C 1 C j k) (leaf_below_lem C (after_slots C 1 j) (after_slots_valid C 1 j (first_position C some few))) in
      let c = round_once C x few below in
      counted_once (leaves_from C 1 C) x i j (omega arith) (omega arith) (omega arith) e refl

  -- a round starts after i slots just when these are whole rounds
  pub starts_whole : (i : ℕ) → (drive_after (drive_at C 1) i).position ≡ 1 → i % C ≡ 0
  starts_whole i e = go (i % C) refl
    where
      go : (r : ℕ) → i % C ≡ r → r ≡ 0
      go zero z = refl
      go (suc r) z = absurd (round_away C some few (i % C) (omega arith) (mod-lt i some) (sym (position_at i) ∙ e))
