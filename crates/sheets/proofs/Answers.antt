-- What holds of the answers of save, read and conversions whatever the form: no second answer keeps a promise, a refusal leaves everything as it was, and a call answers
-- only what it may. Assumes nothing.
use mathlib.Core.Path.{◌≡◌, refl}
use mathlib.Core.Bool.{Bool, true, false, not, ◌||◌}
use mathlib.Core.List.{List, [], ◌∷◌}
use Prim.Native.Nat.{ℕ}
use lib.Dec.{eqb, ltb}
use lib.ListN.{length, length-replicate}
use Rattle.general.proofs.Laws.{unique}
use Rattle.calls.specs.Records.{drive_at}
use Rattle.calls.specs.Refusals.{Asked, refuse_if, and_then, first_of, zero_or, numbers, among, asked, asked_open, asked_output, open_may, open_check, good_check}
use Rattle.calls.specs.declared.Drive.{Drive}
use Rattle.calls.specs.declared.Refusal.{Refusal}
use Rattle.calls.specs.declared.Refusal.TheVariants.{Capacity, Short, Damaged, Output, Block}
use Rattle.calls.specs.Types.{Check, Checked}
use Rattle.std.specs.Prelude.{Ok}
use Rattle.calls.specs.Answers.{check_answer}
use Rattle.calls.proofs.Laws.{Refuses, refuses, refusal, may, first_among, Within, within_among, first_within, then_within, if_within, covers, part_within}
use Rattle.sheets.specs.Types.{Saved, Saving}
use Rattle.sheets.specs.Sheet.{capacity_in}
use Rattle.sheets.specs.Forms.{Form, size_of, room_check, saving_check, saved_answer_as, saving_answer, read_may, asked_sheet, block_check, head_check, sheet_check, reading_check, loaded_answer_as}
use Rattle.sheets.specs.Promises.{SavesAs, LoadsAs}
use Rattle.sheets.specs.Conversions.{spare, size_from, convert_check, Converts, to_pieces_may}

module _ (F : Form) (d : Drive) (B O : List ℕ) where
  pub saves_unique : {r q : Saved} {E G : List ℕ} → SavesAs F d B O r E → SavesAs F d B O q G → (r ≡ q) × (E ≡ G)
  saves_unique h k = (unique h.0 k.0, unique h.2 k.2)

  pub saves_refused : {r : Saved} {E : List ℕ} → SavesAs F d B O r E → Refuses (saving_answer r.answer)
      → (r.drive ≡ d) × ((saving_answer r.answer).values ≡ 0 ∷ []) × (E ≡ O)
  saves_refused h f = rw (h.0, h.2, (refusal (saving_check F d B (length O)) (refuses h.1 f)).1) (refl, refl, refl)

  pub saves_answers : among (saved_answer_as F d B O).number F.may ≡ true
  unfolding saving_check
  saves_answers = first_among F.may (asked_output d B (length O) (size_of F d B))

  pub saves_may : {r : Saved} {E : List ℕ} → SavesAs F d B O r E → among (saving_answer r.answer).number F.may ≡ true
  saves_may h = may F.may h.1 saves_answers

-- a part of some checks keeps to their list
pub part : (all rs : List Refusal) (a : Asked) → covers (numbers all) (numbers rs) ≡ true → Within (numbers all) (first_of rs a)
part all rs a c = part_within (numbers all) (numbers rs) (first_of rs a) c (first_within rs a)

-- what a sheet holds is refused with 12 or 5
pub held_within : (F : Form) (all : List Refusal) (C : ℕ) (s : List ℕ) → covers (numbers all) (numbers (Block ∷ [])) ≡ true → covers (numbers all) (numbers (Damaged ∷ [])) ≡ true
    → Within (numbers all) (sheet_check F C s)
unfolding block_check good_check
held_within F all C s b g = then_within (numbers all) (block_check (not (F.laid C s))) (good_check C (F.leaves C s))
    (part all (Block ∷ []) (asked_sheet (not (F.laid C s))) b) (part all (Damaged ∷ []) (asked (drive_at C 1) (F.leaves C s)) g)

module _ (F : Form) (s B : List ℕ) where
  pub loads_unique : {r q : Checked} {E G : List ℕ} → LoadsAs F s B r E → LoadsAs F s B q G → (r ≡ q) × (E ≡ G)
  loads_unique h k = (unique h.0 k.0, unique h.2 k.2)

  pub loads_refused : {r : Checked} {E : List ℕ} → LoadsAs F s B r E → Refuses (check_answer r.answer) → (r.drive ≡ drive_at 0 0) × (E ≡ B)
  loads_refused h f = rw (h.0, h.2, (refusal (reading_check F s B) (refuses h.1 f)).1) (refl, refl)

  pub loads_answers : among (loaded_answer_as F s B).number read_may ≡ true
  unfolding reading_check head_check block_check open_check covers
  loads_answers =
      let C = capacity_in s in
      let ns = numbers read_may in
      within_among read_may (reading_check F s B)
      (then_within ns (head_check s B) (sheet_check F C s)
      (then_within ns (block_check (ltb (length s) 512)) (open_check C B) (part read_may (Block ∷ []) (asked_sheet (ltb (length s) 512)) refl) (part read_may open_may (asked_open C B) refl))
      (held_within F read_may C s refl refl))

  pub loads_may : {r : Checked} {E : List ℕ} → LoadsAs F s B r E → among (check_answer r.answer).number read_may ≡ true
  loads_may h = may read_may h.1 loads_answers

-- A board of 4,095 entries is never too short.
lent_long : (C : ℕ) (B : List ℕ) → length B ≡ 4095 → open_check C B ≡ refuse_if (eqb C 0 || ltb 4095 C) Capacity (Ok tt)
unfolding open_check
lent_long C B e = rw e (without (eqb C 0) (ltb 4095 C))
  where
    without : (low high : Bool) → refuse_if (low || high) Capacity (refuse_if high Short (Ok tt)) ≡ refuse_if (low || high) Capacity (Ok tt)
    without true high = refl
    without false true = refl
    without false false = refl

spare_long : length spare ≡ 4095
unfolding spare
spare_long = length-replicate {A = ℕ} 4095 0

module _ (F G : Form) (at : ℕ → Check) (s O : List ℕ) where
  pub converts_unique : {r q : Saving} {E D : List ℕ} → Converts F G at s O r E → Converts F G at s O q D → (r ≡ q) × (E ≡ D)
  converts_unique h k = (unique h.0 k.0, unique h.2 k.2)

  pub converts_refused : {r : Saving} {E : List ℕ} → Converts F G at s O r E → Refuses (saving_answer r) → ((saving_answer r).values ≡ 0 ∷ []) × (E ≡ O)
  converts_refused h f = rw (h.0, h.2, (refusal (convert_check F G at s (length O)) (refuses h.1 f)).1) (refl, refl)

  -- read's own part keeps to the list without 2
  conversion_reads : Within (numbers to_pieces_may) (reading_check F s spare)
  unfolding reading_check head_check block_check covers zero_or
  conversion_reads =
      let C = capacity_in s in
      let ns = numbers to_pieces_may in
      then_within ns (head_check s spare) (sheet_check F C s)
      (then_within ns (block_check (ltb (length s) 512)) (open_check C spare) (part to_pieces_may (Block ∷ []) (asked_sheet (ltb (length s) 512)) refl)
      (rw (lent_long C spare spare_long) (if_within ns (eqb C 0 || ltb 4095 C) Capacity (Ok tt) refl refl)))
      (held_within F to_pieces_may C s refl refl)

  conversion_room : Within (numbers to_pieces_may) (room_check (length O) (size_from F G s))
  unfolding zero_or
  conversion_room = if_within (numbers to_pieces_may) (ltb (length O) (size_from F G s)) Output (Ok tt) refl refl

  pub converts_may : (all : List Refusal) → covers (numbers all) (numbers to_pieces_may) ≡ true → Within (numbers all) (at (F.position s))
      → {r : Saving} {E : List ℕ} → Converts F G at s O r E → among (saving_answer r).number all ≡ true
  unfolding convert_check
  converts_may all c position h =
      let ns = numbers all in
      let room = room_check (length O) (size_from F G s) in
      may all h.1
      (within_among all (convert_check F G at s (length O))
      (then_within ns (reading_check F s spare) (and_then (at (F.position s)) room) (part_within ns (numbers to_pieces_may) (reading_check F s spare) c conversion_reads)
      (then_within ns (at (F.position s)) room position (part_within ns (numbers to_pieces_may) room c conversion_room))))
