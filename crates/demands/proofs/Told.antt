-- What the round number tells, from any state whose record is that of an opened or a read board, over any acts: slot i says i / C and leaf i % C of a round,
-- and full rounds are told by their number. Assumes nothing.
use mathlib.Core.Path.{◌≡◌, refl, sym, ap, ◌∙◌}
use mathlib.Core.List.{List, ◌∷◌}
use Prim.Native.Nat.{ℕ, zero, suc, ◌+◌, ◌-◌, ◌*◌, ◌/◌, ◌%◌, ◌^◌, ◌≤◌, ◌<◌}
use native.Mathlib.Nat.{mod-lt, div-add-mod', mul-le-mul_right}
use native.Mathlib.Decide.{dec_lt}
use native.Mathlib.Omega.{arith}
use lib.Arith.{digits_div}
use lib.ListN.{get_or}
use Rattle.sequences.specs.Serving.{leaves_from, after_slots}
use Rattle.calls.specs.declared.Drive.{Drive}
use Rattle.calls.specs.Records.{drive_at, round_after}
use Rattle.demands.specs.Histories.{Act, Slot, State, says, after, log}
use Rattle.demands.specs.Rounds.{FullRound, Near}
use Rattle.demands.specs.Certificates.{Certificate, certificates, of_slot, slots_in, Every, ToldRound}
use Rattle.demands.proofs.Numbering.{drive_after, drive_moves, slot_certifies, certificates_length, slot_counts, drive_append, drive_capacity, one_number, round_over, number_at, position_at, leaf_at_lem, leaf_once, starts_whole}

module _ (s : State) (rest : List Act) (some : zero < s.drive.capacity) (few : s.drive.capacity < 4096) (full : FullRound s rest) where
  -- the slots of a full round say one number,
  pub full_number : Every (λ k. k ≡ s.drive.round) (certificates (log s (Slot ∷ rest)))
  full_number i h =
      let l = certificates_length s (Slot ∷ rest) in
      let n = full.slots in
      ap (λ (c : Certificate). c.round) (slot_certifies s (Slot ∷ rest) i (omega arith))
      ∙ one_number s.drive some few full.first i (omega arith)

  -- and after it comes the next
  pub full_over : (after s (Slot ∷ rest)).drive ≡ record { capacity = s.drive.capacity; position = 1; round = round_after s.drive.round }
  full_over = drive_moves s (Slot ∷ rest) ∙ ap (drive_after s.drive) full.slots ∙ round_over s.drive some few full.first

module _ (C : ℕ) (some : zero < C) (few : C < 4096) (s : State) (starts : s.drive ≡ drive_at C 1) (acts : List Act) where
  -- the slots so far
  abbrev n : ℕ
  n = slots_in (log s acts)

  -- the record, and its number
  drive_counted : (after s acts).drive ≡ drive_after (drive_at C 1) n
  drive_counted = drive_moves s acts ∙ ap (λ (d : Drive). drive_after d n) starts

  pub number_counted : (after s acts).drive.round ≡ slots_in (log s acts) / C % 2 ^ 64
  number_counted = ap (λ (d : Drive). d.round) drive_counted ∙ number_at C some few n

  -- slot i
  pub certificate_at : (i : ℕ) → i < slots_in (log s acts) → of_slot (certificates (log s acts)) i ≡ record { round = i / C % 2 ^ 64; leaf = get_or (leaves_from C 1 C) (i % C) 0 }
  certificate_at i h = slot_certifies s acts i h ∙ rw starts (rw (number_at C some few i, leaf_at_lem C some few i) refl)

  -- Two slots with one certificate, and fewer than 2 ^ 64 rounds between them, are one.
  pub one_slot : (i j : ℕ) → i < slots_in (log s acts) → j < slots_in (log s acts) → of_slot (certificates (log s acts)) i ≡ of_slot (certificates (log s acts)) j
      → Near (i / C) (j / C) (2 ^ 64) → i ≡ j
  one_slot i j h k e near =
      let c = sym (certificate_at i h) ∙ e ∙ certificate_at j k in
      let number : i / C % 2 ^ 64 ≡ j / C % 2 ^ 64 = ap (λ (c : Certificate). c.round) c in
      let round : i / C ≡ j / C = omega arith in
      let place : i % C ≡ j % C = leaf_once C some few (i % C) (j % C) (mod-lt i some) (mod-lt j some) (ap (λ (c : Certificate). c.leaf) c) in
      sym (div-add-mod' i C) ∙ rw (round, place) (div-add-mod' j C)

  -- ---- full rounds told by their number

  module _ (rest : List Act) where
    -- the acts and then the slots of the round
    abbrev m : ℕ
    m = slots_in (log (after s acts) (Slot ∷ rest))

    -- slot i of them is slot n + i of all
    later_number : (i : ℕ) → i < slots_in (log (after s acts) (Slot ∷ rest)) → (of_slot (certificates (log (after s acts) (Slot ∷ rest))) i).round ≡ (n + i) / C % 2 ^ 64
    later_number i h = ap (λ (c : Certificate). c.round) (slot_certifies (after s acts) (Slot ∷ rest) i h)
        ∙ ap (λ (d : Drive). (drive_after d i).round) drive_counted
        ∙ ap (λ (d : Drive). d.round) (sym (drive_append (drive_at C 1) n i))
        ∙ number_at C some few (n + i)

    over_number : (after (after s acts) (Slot ∷ rest)).drive.round ≡ (n + m) / C % 2 ^ 64
    over_number =
        ap (λ (d : Drive). d.round) (drive_moves (after s acts) (Slot ∷ rest) ∙ ap (λ (d : Drive). drive_after d m) drive_counted ∙ sym (drive_append (drive_at C 1) n m))
        ∙ number_at C some few (n + m)

    capacity : (after s acts).drive.capacity ≡ C
    capacity = ap (λ (d : Drive). d.capacity) drive_counted ∙ drive_capacity (drive_at C 1) n

    whole : n % C ≡ 0 → n / C * C ≡ n
    whole z = let e = div-add-mod' n C in omega arith

    -- While fewer than 2 ^ 64 rounds have passed, a full round is told by its number.
    pub full_told : slots_in (log s acts) / C < 2 ^ 64 → FullRound (after s acts) rest → ToldRound s acts rest
    full_told fewer full =
        let z = starts_whole C some few n (sym (ap (λ (d : Drive). d.position) drive_counted) ∙ full.first) in
        let w = whole z in
        let here : (after s acts).drive.round ≡ n / C = let e = number_counted in omega arith in
        record {
          n = n / C;
          new = λ i h e.
              let l = certificates_length s acts in
              let k : i / C % 2 ^ 64 ≡ n / C = sym (ap (λ (c : Certificate). c.round) (certificate_at i (omega arith))) ∙ e in
              let b : n / C ≤ i / C = omega arith in
              let g = mul-le-mul_right C b in
              let f = div-add-mod' i C in
              omega arith;
          alike = λ i h. full_number (after s acts) rest (rw capacity some) (rw capacity few) full i h ∙ here;
          over = λ e. let f = ap (λ (d : Drive). d.round) (full_over (after s acts) rest (rw capacity some) (rw capacity few) full) in omega arith;
        }

    -- And what is told by its number is a full round.
    pub told_full : (says Slot (after s acts)).number ≡ 0 → ToldRound s acts rest → FullRound (after s acts) rest
    unfolding after_slots
    told_full clear told = record { first = first; slots = count ∙ sym capacity }
      where
        some_slot : zero < m
        some_slot = slot_counts (after s acts) rest clear

        at : (i : ℕ) → i < m → (n + i) / C % 2 ^ 64 ≡ told.n
        at i h = let l = certificates_length (after s acts) (Slot ∷ rest) in sym (later_number i h) ∙ told.alike i (omega arith)

        here : n / C % 2 ^ 64 ≡ told.n
        here = let e : n + 0 ≡ n = omega arith in rw e at (at 0 some_slot)

        begun : (r : ℕ) → n % C ≡ r → r ≡ 0
        begun zero e = refl
        begun (suc r) e =
            let f = div-add-mod' n C in
            let b : n - 1 ≡ n / C * C + r = omega arith in
            let g : (n - 1) / C ≡ n / C = ap (λ (x : ℕ). x / C) b ∙ digits_div (n / C) (let h = mod-lt n some in omega arith) in
            let l = certificates_length s acts in
            absurd (told.new (n - 1) (omega arith) (ap (λ (c : Certificate). c.round) (certificate_at (n - 1) (omega arith)) ∙ rw g here))

        first : (after s acts).drive.position ≡ 1
        first = ap (λ (d : Drive). d.position) drive_counted ∙ position_at C some few n ∙ rw (begun (n % C) refl) refl

        -- k of its slots are k slots of round n / C, and C of them are the whole of it
        within : (k : ℕ) → k < C → (n + k) / C ≡ n / C
        within k h = let w = whole (begun (n % C) refl) in let e : n + k ≡ n / C * C + k = omega arith in ap (λ (x : ℕ). x / C) e ∙ digits_div (n / C) h

        beyond : (n + C) / C ≡ suc (n / C)
        beyond =
            let w = whole (begun (n % C) refl) in
            let e : n + C ≡ suc (n / C) * C + 0 = omega arith in
            ap (λ (x : ℕ). x / C) e ∙ digits_div (suc (n / C)) some

        count : m ≡ C
        count = elim (dec_lt m C) [
          | yes h ↦ absurd (told.over (over_number ∙ rw (within m h) here))
          | no h ↦ elim (dec_lt C m) [
            | yes k ↦ absurd (let e = at C k in let f = beyond in let g = here in omega arith)
            | no k ↦ omega arith
          ]
        ]
