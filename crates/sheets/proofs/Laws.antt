-- The laws of sheets that upper crates and docs cite: what the test of read says, both halves of demand 2 for each form, what each reader answers to the
-- other's sheets, that a conversion there and back gives the same bytes, that no second answer keeps a promise, that a refusal leaves everything as it was,
-- and that a call answers only what it may. Assumes nothing.
use mathlib.Core.Path.{◌≡◌, refl, sym, ap, subst, ◌∙◌}
use mathlib.Core.Bool.{true, false, not}
use mathlib.Core.List.{List, [], ◌∷◌, ◌++◌}
use Prim.Native.Nat.{ℕ, suc, ◌+◌, ◌-◌, ◌*◌, ◌/◌, ◌≤◌, ◌<◌}
use native.Mathlib.Omega.{arith}
use native.Mathlib.Decide.{dec_lt}
use lib.Dec.{eqb}
use lib.ListN.{length, get_or, take, drop, get_or-eq_default}
use borrow.Author.Tests.{le-ltb}
use Rattle.general.proofs.Laws.{never}
use Rattle.pieces.specs.Board.{good}
use Rattle.pieces.specs.Listing.{named_pieces}
use Rattle.calls.specs.Records.{drive_at}
use Rattle.calls.specs.Refusals.{and_then, zero_or, numbers, among, position_check}
use Rattle.calls.specs.declared.Drive.{Drive}
use Rattle.calls.specs.declared.Refusal.TheVariants.{Midround, Block}
use Rattle.calls.specs.Types.{Check, Checked}
use Rattle.std.specs.Prelude.{Ok, Err}
use Rattle.calls.specs.Answers.{check_answer}
use Rattle.calls.specs.Results.{if_clear}
use Rattle.calls.proofs.Laws.{Refuses, if_within, covers, ascending, Sized, open_clear, open_sized, slot_sized, slot_parts, position_first, change_parts, change_slot, change_start, change_good}
use Rattle.sheets.specs.Types.{Saved, Saving}
use Rattle.sheets.specs.Blocks.{Bytes, Words, values_from, bytes_of, number_at, block, stack}
use Rattle.sheets.specs.Sheet.{blocks, leaf_or_zero, page, sheet, capacity_in, leaf_place, leaf_in, sheet_leaves, laid, Layout}
use Rattle.sheets.specs.Entries.{entry_blocks, entry_page, entry_bytes, entry_sheet, position_in, spelled, entries_laid}
use Rattle.sheets.specs.Forms.{Form, saving_answer, read_may, head_check, sheet_check, reading_check, saved_as, saved_answer_as, saved_output_as, loaded_as, loaded_answer_as, loaded_board_as}
use Rattle.sheets.specs.Results.{leaf_form, piece_form, save_may, save_pieces_may, save_check, saved, saved_answer, saved_output, read_check, loaded, loaded_answer, loaded_board}
use Rattle.sheets.specs.Promises.{Saves, Loads, SavesPieces, LoadsPieces}
use Rattle.sheets.specs.Conversions.{at_start, anywhere, converted, converted_output, ToPieces, ToLeaves, to_pieces_may, to_leaves_may}
use Rattle.sheets.proofs.Lists.{values_at}
use Rattle.sheets.proofs.Numbers.{number_small}
use Rattle.sheets.proofs.Layouts.{sheet_length, sheet_layout, sheet_leaves_lem, layout_sheet, laid_layout, layout_laid}
use Rattle.sheets.proofs.Stores.{leaves_length}
use Rattle.sheets.proofs.Checked.{good_check_lem, refused_block, save_change, save_room, clear_read}
use Rattle.sheets.proofs.Answers.{saves_unique, saves_refused, saves_answers, saves_may, loads_unique, loads_refused, loads_answers, loads_may, converts_unique, converts_refused, converts_may}
use Rattle.sheets.proofs.Trips.{Exact, saved_reads_back, saved_at, accepted_sized, accepted_good, only_such_sheets}
use Rattle.sheets.proofs.Restored.{entries_exact, entries_laid_parts}
use Rattle.sheets.proofs.Faults.{spelled_words}
use Rattle.sheets.proofs.Converting.{there_and_back}
-- The test of read of the piece form passes just the bytes without a fault of document 02's list, and what save writes has none.
pub use Rattle.sheets.proofs.Faults.{entries_laid_layout, layout_entries_laid, entry_sheet_layout}
-- The checks of save of each form, one part after the other, and what is known once the first of read's find nothing.
pub use Rattle.sheets.proofs.Checked.{save_parts, entry_parts, head_long, head_open}

-- what passes the checks of save
save_first : (C : ℕ) (B : List ℕ) (n : ℕ) → Sized C B → good C B ≡ true → 512 * blocks C ≤ n → save_check (drive_at C 1) B n ≡ Ok tt
save_first C B n s g room = save_parts (drive_at C 1) B n
    ∙ rw (change_parts (drive_at C 1) B, slot_parts (drive_at C 1) B, open_sized C B s, position_first C s.some, good_check_lem C B g, le-ltb n (512 * blocks C) room)

-- a sheet hangs on the leaves alone
sheet_taken : (C : ℕ) (B D : List ℕ) → take C B ≡ take C D → sheet C B ≡ sheet C D
unfolding sheet page leaf_or_zero
sheet_taken C B D e =
    ap (λ (L : List ℕ). bytes_of (stack (λ (b : ℕ). block b C (values_from (λ (i : ℕ). get_or L i 0) (253 * b) 253)) 0 (blocks C))) e

-- the capacity that a sheet gives
sheet_capacity : (C : ℕ) (s : List ℕ) → 0 < C → Layout C s → capacity_in s ≡ C
unfolding capacity_in blocks
sheet_capacity C s pos l = l.capacity 0 (omega arith)

sheet_first : (C : ℕ) (s : List ℕ) → 0 < C → Layout C s → number_at s 0 ≡ 0
unfolding blocks
sheet_first C s pos l = l.number 0 (omega arith)

-- C = 253 needs one block, C = 254 two, C = 4,095 seventeen.
pub blocks_worked : (blocks 253 ≡ 1) × (blocks 254 ≡ 2) × (blocks 4095 ≡ 17)
unfolding blocks
blocks_worked = (refl, refl, refl)

-- The test of read is that the bytes are the sheet of the leaves that they hold.
module _ (C : ℕ) (s : List ℕ) (bytes : Bytes s) where
  pub laid_sheet : laid C s ≡ true → s ≡ sheet C (sheet_leaves C s)
  laid_sheet h = layout_sheet C s bytes (laid_layout C s h)

  leaves_words : Words (sheet_leaves C s)
  unfolding sheet_leaves leaf_in
  leaves_words i = elim (dec_lt i C) [
    | yes h ↦ rw (values_at (leaf_in s) 0 C i h) (number_small s (leaf_place (0 + i)) bytes)
    | no h ↦
        let past : length (sheet_leaves C s) ≤ i = omega (arith, leaves_length C s) in
        rw (get_or-eq_default (sheet_leaves C s) 0 past) (omega arith)
  ]

  pub sheet_laid : C < 65536 → s ≡ sheet C (sheet_leaves C s) → laid C s ≡ true
  sheet_laid few e = subst (λ (q : List ℕ). laid C q ≡ true) (sym e) (layout_laid C (sheet C (sheet_leaves C s)) (sheet_layout C (sheet_leaves C s) few leaves_words))

-- The leaf form is exact, and saved at p = 1 alone.
pub leaves_exact : Exact leaf_form (λ C p. p ≡ 1)
unfolding blocks
leaves_exact = record {
  asks = λ d B n e. let k = save_change d B n e in (slot_sized d B (change_slot d B k), change_good d B k, change_start d B k, save_room d B n e);
  lets = λ C p B n s g at room. rw at (save_first C B n s g room);
  long = λ C p B. sheet_length C B;
  least = λ C B pos. omega arith;
  taken = λ C p B D. sheet_taken C B D;
  capacity = λ C p B s w at. sheet_capacity C (sheet C B) s.some (sheet_layout C B (omega (arith, s.few)) w);
  keeps = λ C p B s w at. layout_laid C (sheet C B) (sheet_layout C B (omega (arith, s.few)) w);
  position = λ C p B s w at. sym at;
  leaves = λ C p B s w at. sheet_leaves_lem C B (omega (arith, s.few)) w s.long;
  only = λ C s bytes h. laid_sheet C s bytes h;
  at = λ C s h. refl;
  spelled = λ C s. leaves_length C s;
}

-- Demand 2: what save writes reads back as the same board and capacity. B is the board saved, of u16 leaves, O the output and L the board lent to read.
module _ (d : Drive) (B O L : List ℕ) (n : ℕ) (words : Words B) (done : (saved d B O).answer ≡ Ok n) (room : d.capacity ≤ length L) where
  pub demand_2_saved_reads_back :
      (loaded (take n (saved_output d B O)) L ≡ record { drive = drive_at d.capacity 1; answer = (Ok tt) })
      × (loaded_board (take n (saved_output d B O)) L ≡ take d.capacity B ++ drop d.capacity L)
  demand_2_saved_reads_back =
      let e = saved_reads_back leaf_form (λ C p. p ≡ 1) leaves_exact d B O L n words done room in
      let at = saved_at leaf_form (λ C p. p ≡ 1) leaves_exact d B O L n words done room in
      (e.0 ∙ rw at refl, e.1)

-- What read accepts is a board that passes the checks: long enough, and good. L is the board lent to read.
module _ (s L : List ℕ) (accepted : read_check s L ≡ Ok tt) where
  pub read_sized : Sized (capacity_in s) (sheet_leaves (capacity_in s) s ++ drop (capacity_in s) L)
  read_sized = accepted_sized leaf_form (λ C p. p ≡ 1) leaves_exact s L accepted

  pub read_good : good (capacity_in s) (sheet_leaves (capacity_in s) s ++ drop (capacity_in s) L) ≡ true
  read_good = accepted_good leaf_form (λ C p. p ≡ 1) leaves_exact s L accepted

-- Demand 2: whatever bytes read accepts are the very bytes that save writes for the board that it sets. L is the board lent to read, O an output with room.
module _ (s L O : List ℕ) (bytes : Bytes s) (done : (loaded s L).answer ≡ Ok tt) (room : length s ≤ length O) where
  pub demand_2_only_such_sheets :
      (saved (loaded s L).drive (loaded_board s L) O ≡ record { drive = (loaded s L).drive; answer = Ok (length s) })
      × (saved_output (loaded s L).drive (loaded_board s L) O ≡ s ++ drop (length s) O)
  demand_2_only_such_sheets = only_such_sheets leaf_form (λ C p. p ≡ 1) leaves_exact s L O bytes done room

-- ---- the piece form

-- Demand 2: what save_pieces writes reads back as the same board, capacity and position.
module _ (d : Drive) (B O L : List ℕ) (n : ℕ) (words : Words B) (done : (saved_as piece_form d B O).answer ≡ Ok n) (room : d.capacity ≤ length L) where
  pub demand_2_pieces_read_back :
      (loaded_as piece_form (take n (saved_output_as piece_form d B O)) L ≡ record { drive = drive_at d.capacity d.position; answer = (Ok tt) })
      × (loaded_board_as piece_form (take n (saved_output_as piece_form d B O)) L ≡ take d.capacity B ++ drop d.capacity L)
  demand_2_pieces_read_back = saved_reads_back piece_form (λ C p. position_check C p ≡ Ok tt) entries_exact d B O L n words done room

-- Demand 2: whatever bytes read_pieces accepts are the very bytes that save_pieces writes for the board and the position that it sets.
module _ (s L O : List ℕ) (bytes : Bytes s) (done : (loaded_as piece_form s L).answer ≡ Ok tt) (room : length s ≤ length O) where
  pub demand_2_only_such_pieces :
      (saved_as piece_form (loaded_as piece_form s L).drive (loaded_board_as piece_form s L) O ≡ record { drive = (loaded_as piece_form s L).drive; answer = Ok (length s) })
      × (saved_output_as piece_form (loaded_as piece_form s L).drive (loaded_board_as piece_form s L) O ≡ s ++ drop (length s) O)
  demand_2_only_such_pieces = only_such_sheets piece_form (λ C p. position_check C p ≡ Ok tt) entries_exact s L O bytes done room

-- What read_pieces accepts is a board that passes the checks, at a position of it. L is the board lent to read.
module _ (s L : List ℕ) (accepted : reading_check piece_form s L ≡ Ok tt) where
  pub read_pieces_sized : Sized (capacity_in s) (spelled (capacity_in s) s ++ drop (capacity_in s) L)
  read_pieces_sized = accepted_sized piece_form (λ C p. position_check C p ≡ Ok tt) entries_exact s L accepted

  pub read_pieces_good : good (capacity_in s) (spelled (capacity_in s) s ++ drop (capacity_in s) L) ≡ true
  read_pieces_good = accepted_good piece_form (λ C p. position_check C p ≡ Ok tt) entries_exact s L accepted

  pub read_pieces_position : position_check (capacity_in s) (position_in s) ≡ Ok tt
  read_pieces_position = (entries_laid_parts (capacity_in s) s (clear_read piece_form s L accepted).keeps).0

-- ---- each reader and the other's sheets

-- What a reader answers to bytes that do not keep its layout: 12 after its earlier checks, and the board as it was.
module _ (F : Form) (s L : List ℕ) (other : 0 < capacity_in s → F.laid (capacity_in s) s ≡ false) where
  pub other_check : reading_check F s L ≡ and_then (head_check s L) (Err Block)
  unfolding reading_check
  other_check = by_check (head_check s L) refl
    where
      by_check : (k : Check) → head_check s L ≡ k → and_then k (sheet_check F (capacity_in s) s) ≡ and_then k (Err Block)
      by_check (Ok tt) e = rw (other (open_clear (capacity_in s) L (head_open s L e)).some, refused_block) refl
      by_check (Err r) e = refl

  pub other_board : loaded_board_as F s L ≡ L
  other_board = rw other_check (never (head_check s L))
    where
      never : (k : Check) → if_clear (and_then k (Err Block)) (F.leaves (capacity_in s) s ++ drop (capacity_in s) L) L ≡ L
      never (Ok tt) = refl
      never (Err r) = refl

-- block 0 of a sheet of pieces
entry_zero : (C p : ℕ) (B : List ℕ) → number_at (entry_sheet C p B) 0 ≡ 32768
unfolding entry_sheet entry_bytes entry_page entry_blocks stack block bytes_of number_at
entry_zero C p B =
    let e : (length (named_pieces C B) - 1) / 252 + 1 ≡ suc ((length (named_pieces C B) - 1) / 252) = omega arith in
    rw e refl

-- An old reader answers 12 to any sheet of pieces that gets past its earlier checks, and never shows a board.
pub old_reader : (C p : ℕ) (B L : List ℕ) → let s = entry_sheet C p B in
    (read_check s L ≡ and_then (head_check s L) (Err Block)) × (loaded_board s L ≡ L)
old_reader C p B L =
    let s = entry_sheet C p B in
    let other : 0 < capacity_in s → laid (capacity_in s) s ≡ false =
    λ h. never (laid (capacity_in s) s) (λ t. let z = sheet_first (capacity_in s) s h (laid_layout (capacity_in s) s t) in omega (arith, z, entry_zero C p B))
    in
    (other_check leaf_form s L other, other_board leaf_form s L other)

-- And the new reader the same to any sheet of leaves.
pub new_reader : (C : ℕ) (B L : List ℕ) → 0 < C → C < 65536 → Words B → let s = sheet C B in
    (reading_check piece_form s L ≡ and_then (head_check s L) (Err Block)) × (loaded_board_as piece_form s L ≡ L)
new_reader C B L some few words =
    let s = sheet C B in
    let first = sheet_first C s some (sheet_layout C B few words) in
    let other : 0 < capacity_in s → entries_laid (capacity_in s) s ≡ false =
    λ h. never (entries_laid (capacity_in s) s) (λ t.
    let e = (entries_laid_parts (capacity_in s) s t).1 in
    omega (arith, first, ap (λ (q : List ℕ). number_at q 0) e, entry_zero (capacity_in s) (position_in s) (spelled (capacity_in s) s)))
    in
    (other_check piece_form s L other, other_board piece_form s L other)

-- ---- conversions

-- A sheet of leaves that is written as one of pieces is written back as the very same sheet,
module _ (s O P : List ℕ) (n : ℕ) (bytes : Bytes s) (done : converted leaf_form piece_form anywhere s O ≡ Ok n) (room : length s ≤ length P) where
  pub leaves_there_and_back :
      (converted piece_form leaf_form at_start (take n (converted_output leaf_form piece_form anywhere s O)) P ≡ Ok (length s))
      × (converted_output piece_form leaf_form at_start (take n (converted_output leaf_form piece_form anywhere s O)) P ≡ s ++ drop (length s) P)
  leaves_there_and_back =
      there_and_back leaf_form piece_form (λ C p. p ≡ 1) (λ C p. position_check C p ≡ Ok tt) leaves_exact entries_exact anywhere at_start s O P n bytes
      (leaves_words (capacity_in s) s bytes) done (λ some at. position_first (capacity_in s) some) refl room

-- and so is one of pieces saved at p = 1 that is written as one of leaves.
module _ (s O P : List ℕ) (n : ℕ) (bytes : Bytes s) (first : position_in s ≡ 1) (done : converted piece_form leaf_form at_start s O ≡ Ok n) (room : length s ≤ length P) where
  pub pieces_there_and_back :
      (converted leaf_form piece_form anywhere (take n (converted_output piece_form leaf_form at_start s O)) P ≡ Ok (length s))
      × (converted_output leaf_form piece_form anywhere (take n (converted_output piece_form leaf_form at_start s O)) P ≡ s ++ drop (length s) P)
  pieces_there_and_back =
      there_and_back piece_form leaf_form (λ C p. position_check C p ≡ Ok tt) (λ C p. p ≡ 1) entries_exact leaves_exact at_start anywhere s O P n bytes
      (spelled_words (capacity_in s) s bytes) done (λ some at. first) refl room

-- ---- answers

-- The lists of save go up, so that the first refusal of one that applies is the lowest (`first_lowest` of calls).
pub save_ascending : ascending 0 save_may ≡ true
unfolding ascending
save_ascending = refl

pub save_pieces_ascending : ascending 0 save_pieces_may ≡ true
unfolding ascending
save_pieces_ascending = refl

-- No second answer fits, a refusal leaves everything as it was, and a call answers only what it may.
module _ (d : Drive) (B O : List ℕ) where
  pub save_unique : {r q : Saved} {E F : List ℕ} → Saves d B O r E → Saves d B O q F → (r ≡ q) × (E ≡ F)
  save_unique = saves_unique leaf_form d B O

  pub save_refused : {r : Saved} {E : List ℕ} → Saves d B O r E → Refuses (saving_answer r.answer)
      → (r.drive ≡ d) × ((saving_answer r.answer).values ≡ 0 ∷ []) × (E ≡ O)
  save_refused = saves_refused leaf_form d B O

  pub save_answers : among (saved_answer d B O).number save_may ≡ true
  save_answers = saves_answers leaf_form d B O

  pub save_may_lem : {r : Saved} {E : List ℕ} → Saves d B O r E → among (saving_answer r.answer).number save_may ≡ true
  save_may_lem = saves_may leaf_form d B O

  pub save_pieces_unique : {r q : Saved} {E F : List ℕ} → SavesPieces d B O r E → SavesPieces d B O q F → (r ≡ q) × (E ≡ F)
  save_pieces_unique = saves_unique piece_form d B O

  pub save_pieces_refused : {r : Saved} {E : List ℕ} → SavesPieces d B O r E → Refuses (saving_answer r.answer)
      → (r.drive ≡ d) × ((saving_answer r.answer).values ≡ 0 ∷ []) × (E ≡ O)
  save_pieces_refused = saves_refused piece_form d B O

  pub save_pieces_answers : among (saved_answer_as piece_form d B O).number save_pieces_may ≡ true
  save_pieces_answers = saves_answers piece_form d B O

  pub save_pieces_may_lem : {r : Saved} {E : List ℕ} → SavesPieces d B O r E → among (saving_answer r.answer).number save_pieces_may ≡ true
  save_pieces_may_lem = saves_may piece_form d B O

module _ (s B : List ℕ) where
  pub read_unique : {r q : Checked} {E F : List ℕ} → Loads s B r E → Loads s B q F → (r ≡ q) × (E ≡ F)
  read_unique = loads_unique leaf_form s B

  pub read_refused : {r : Checked} {E : List ℕ} → Loads s B r E → Refuses (check_answer r.answer) → (r.drive ≡ drive_at 0 0) × (E ≡ B)
  read_refused = loads_refused leaf_form s B

  pub read_answers : among (loaded_answer s B).number read_may ≡ true
  read_answers = loads_answers leaf_form s B

  pub read_may_lem : {r : Checked} {E : List ℕ} → Loads s B r E → among (check_answer r.answer).number read_may ≡ true
  read_may_lem = loads_may leaf_form s B

  pub read_pieces_unique : {r q : Checked} {E F : List ℕ} → LoadsPieces s B r E → LoadsPieces s B q F → (r ≡ q) × (E ≡ F)
  read_pieces_unique = loads_unique piece_form s B

  pub read_pieces_refused : {r : Checked} {E : List ℕ} → LoadsPieces s B r E → Refuses (check_answer r.answer) → (r.drive ≡ drive_at 0 0) × (E ≡ B)
  read_pieces_refused = loads_refused piece_form s B

  pub read_pieces_answers : among (loaded_answer_as piece_form s B).number read_may ≡ true
  read_pieces_answers = loads_answers piece_form s B

  pub read_pieces_may : {r : Checked} {E : List ℕ} → LoadsPieces s B r E → among (check_answer r.answer).number read_may ≡ true
  read_pieces_may = loads_may piece_form s B

-- So do conversions; they answer as their read without 2.
module _ (s O : List ℕ) where
  pub to_pieces_unique : {r q : Saving} {E F : List ℕ} → ToPieces s O r E → ToPieces s O q F → (r ≡ q) × (E ≡ F)
  to_pieces_unique = converts_unique leaf_form piece_form anywhere s O

  pub to_pieces_refused : {r : Saving} {E : List ℕ} → ToPieces s O r E → Refuses (saving_answer r) → ((saving_answer r).values ≡ 0 ∷ []) × (E ≡ O)
  to_pieces_refused = converts_refused leaf_form piece_form anywhere s O

  pub to_pieces_may_lem : {r : Saving} {E : List ℕ} → ToPieces s O r E → among (saving_answer r).number to_pieces_may ≡ true
  unfolding covers zero_or
  to_pieces_may_lem = converts_may leaf_form piece_form anywhere s O to_pieces_may refl refl

  pub to_leaves_unique : {r q : Saving} {E F : List ℕ} → ToLeaves s O r E → ToLeaves s O q F → (r ≡ q) × (E ≡ F)
  to_leaves_unique = converts_unique piece_form leaf_form at_start s O

  pub to_leaves_refused : {r : Saving} {E : List ℕ} → ToLeaves s O r E → Refuses (saving_answer r) → ((saving_answer r).values ≡ 0 ∷ []) × (E ≡ O)
  to_leaves_refused = converts_refused piece_form leaf_form at_start s O

  pub to_leaves_may_lem : {r : Saving} {E : List ℕ} → ToLeaves s O r E → among (saving_answer r).number to_leaves_may ≡ true
  unfolding covers zero_or
  to_leaves_may_lem = converts_may piece_form leaf_form at_start s O to_leaves_may refl (if_within (numbers to_leaves_may) (not (eqb (position_in s) 1)) Midround (Ok tt) refl refl)
