-- The laws of open, read and save of each form of sheet, round, report and the fresh layout with tables: no second answer fits; what a refusal leaves
-- as it was; that only the numbers of its list are answered; that what open, read and the fresh layout leave fits; and that all are the calls without
-- tables where the tables are zero. Assumes nothing.
use mathlib.Core.Path.{◌≡◌, refl, ap, ◌∙◌}
use mathlib.Core.Bool.{Bool, true, false, cond, not, ◌||◌}
use mathlib.Core.List.{List, [], ◌∷◌, ◌++◌}
use Prim.Native.Nat.{ℕ, ◌<◌}
use native.Mathlib.Omega.{arith}
use lib.Dec.{eqb, ltb}
use lib.ListN.{length, get_or, replicate, length-replicate, get_or-replicate, get_or-append, drop}
use borrow.Author.Tests.{ne_eqb}
use Rattle.general.proofs.Laws.{unique}
use Rattle.sequences.specs.Serving.{count_list}
use Rattle.pieces.specs.Board.{good}
use Rattle.pieces.proofs.Laws.{opened_good}
use Rattle.tables.specs.Turns.{round_serves, served_weight}
use Rattle.tables.proofs.Laws.{cleared_fits, rated_at, one_piece, round_serves_lem}
use Rattle.calls.specs.declared.Drive.{Drive}
use Rattle.calls.specs.declared.Refusal.TheVariants.{Short, Damaged, Name, Absent, Output}
use Rattle.calls.specs.Types.{Check, Checked, Reported}
use Rattle.std.specs.Prelude.{Ok, Err}
use Rattle.calls.specs.Records.{drive_at}
use Rattle.calls.specs.Refusals.{and_then, zero_or, numbers, among, asked, asked_open, asked_output, asked_name, open_may, round_may, report_may, change_may, open_check, round_check, held_check, good_check}
use Rattle.calls.specs.Answers.{Answer, report_answer, check_answer}
use Rattle.calls.specs.Results.{if_clear, idle_board}
use Rattle.calls.proofs.Laws.{Refuses, refuses, refusal, may, Within, within_among, first_within, then_within, if_within, covers, part_within, first_clear, then_clear, leaf_held}
use Rattle.sheets.specs.Sheet.{capacity_in}
use Rattle.sheets.specs.Forms.{Form, size_of, room_check, read_may, block_check, head_check}
use Rattle.sheets.specs.Forms as forms
use Rattle.sheets.specs.Results as sheets
use Rattle.sheets.specs.Results.{leaf_form, piece_form}
use Rattle.sheets.proofs.Laws.{read_good, read_pieces_good}
use Rattle.waiting.specs.Layout.{too_short}
use Rattle.drives.specs.Checks.{both_start}
use Rattle.share_boards.specs.Types.{ShareSaved}
use Rattle.shares.specs.States.{BoardTables, fitting}
use Rattle.shares.specs.Checks.{too_few, placed_check, look_check, Ready}
use Rattle.share_boards.specs.Opening.{lent_check, opening_check, reading_check_as, reading_check, opened_answer, opened_state, loaded_answer_as, loaded_state_as, loaded_answer, loaded_state, Opens, LoadsAs, Loads, LoadsPieces}
use Rattle.share_boards.specs.Looking.{rounding_check, reporting_check, rounding_may, rounded_answer, reported_weight, reported_pieces, reported_answer, Rounds, Reports}
use Rattle.share_boards.specs.Starting as starting
use Rattle.share_boards.specs.Starting.{saving_check_as, saving_check, saving_pieces_check, saving_answer, saved_answer_by, saved_answer_as, saved_answer, saved_pieces_answer, plain_kind, refreshed_answer, SavesAs, Saves, SavesPieces, Refreshes}
use Rattle.shares.proofs.Laws.{share_within, placed_within}
use Rattle.share_boards.proofs.Openings.{opening_ready}
use Rattle.share_boards.proofs.Looks.{ready_sized, ready_shared}
use Rattle.share_boards.proofs.Starts.{level_same}
-- ---- the checks: once they find nothing what is lent is long enough, the record is ready, and of a name that is reported on there is a leaf

pub use Rattle.share_boards.proofs.Openings.{lent_long}
pub use Rattle.share_boards.proofs.Looks.{ready_first, rounding_ready, Reportable, reporting_clear}
pub use Rattle.share_boards.proofs.Starts.{start_both_there, start_ready}
-- ---- without over-allocated streams the calls are those without tables, and leave the tables

pub use Rattle.share_boards.proofs.Agreeing.{Bare, open_agrees, read_agrees, read_pieces_agrees, Blank, look_same, start_same, level_agrees, round_agrees, report_agrees, save_agrees, save_pieces_agrees, fresh_agrees}
-- ---- the fresh layout: what it leaves, made again, and from another history

pub use Rattle.share_boards.proofs.Relaid.{fresh_fits, fresh_held, fresh_moves, fresh_keeps, fresh_twice, fresh_equal}

-- 2 for what is lent beside the board.
lent_within : (ns : List ℕ) (C : ℕ) (s : BoardTables) (n : ℕ) → zero_or 2 ns ≡ true → zero_or 0 ns ≡ true → Within ns (lent_check C s n)
unfolding lent_check
lent_within ns C s n two none = if_within ns (too_short n || too_few C s) Short (Ok tt) two none

-- ---- open

idle_leaf : (C : ℕ) (B : List ℕ) (i : ℕ) → i < C → get_or (idle_board C B) i 0 ≡ 0
unfolding idle_board
idle_leaf C B i h = get_or-append (replicate C 0) (drop C B) 0 i (omega (arith, length-replicate {A = ℕ} C 0)) ∙ get_or-replicate C i 0 0 h

module _ (C : ℕ) (s : BoardTables) (L : List ℕ) where
  pub open_unique : {r q : Checked} {t u : BoardTables} {F G : List ℕ} → Opens C s L r t F → Opens C s L q u G → (r ≡ q) × (t ≡ u) × (F ≡ G)
  open_unique p q = (unique p.0 q.0, unique p.2 q.2, unique p.3 q.3)

  pub open_refused : {r : Checked} {t : BoardTables} {F : List ℕ} → Opens C s L r t F → Refuses (check_answer r.answer) → (r.drive ≡ drive_at 0 0) × (t ≡ s) × (F ≡ L)
  open_refused p h = rw (p.0, p.2, p.3, (refusal (opening_check C s (length L)) (refuses p.1 h)).1) (refl, refl, refl)

  pub open_answers : among (opened_answer C s (length L)).number open_may ≡ true
  unfolding opening_check open_check zero_or
  open_answers =
      let ns = numbers open_may in
      within_among open_may (opening_check C s (length L))
      (then_within ns (open_check C s.board) (lent_check C s (length L)) (first_within open_may (asked_open C s.board)) (lent_within ns C s (length L) refl refl))

  pub open_may_lem : {r : Checked} {t : BoardTables} {F : List ℕ} → Opens C s L r t F → among (check_answer r.answer).number open_may ≡ true
  open_may_lem p = may open_may p.1 open_answers

  -- What it leaves fits.
  pub open_fits : opening_check C s (length L) ≡ Ok tt → fitting C (opened_state C s (length L)) ≡ true
  open_fits e =
      let few = (opening_ready C s (length L) e).0 in
      rw e (cleared_fits C (idle_board C s.board) s.rates (s.owed ∷ s.other ∷ []) (opened_good C (idle_board C s.board) few (idle_leaf C s.board)))

-- ---- read

block_within : (ns : List ℕ) (b : Bool) → zero_or 12 ns ≡ true → zero_or 0 ns ≡ true → Within ns (block_check b)
unfolding block_check
block_within ns true twelve none = twelve
block_within ns false twelve none = none

-- of any form of sheet
module _ (form : Form) (S : List ℕ) (s : BoardTables) (L : List ℕ) where
  loads_unique : {r q : Checked} {t u : BoardTables} {F G : List ℕ} → LoadsAs form S s L r t F → LoadsAs form S s L q u G → (r ≡ q) × (t ≡ u) × (F ≡ G)
  loads_unique p q = (unique p.0 q.0, unique p.2 q.2, unique p.3 q.3)

  loads_refused : {r : Checked} {t : BoardTables} {F : List ℕ} → LoadsAs form S s L r t F → Refuses (check_answer r.answer) → (r.drive ≡ drive_at 0 0) × (t ≡ s) × (F ≡ L)
  loads_refused p h = rw (p.0, p.2, p.3, (refusal (reading_check_as form S s (length L)) (refuses p.1 h)).1) (refl, refl, refl)

  loads_answers : among (loaded_answer_as form S s (length L)).number read_may ≡ true
  unfolding reading_check_as head_check open_check good_check zero_or covers
  loads_answers =
      let ns = numbers read_may in
      let C = capacity_in S in
      let held = forms.sheet_check form C S in
      within_among read_may (reading_check_as form S s (length L))
      (then_within ns (head_check S s.board) (and_then (lent_check C s (length L)) held)
      (then_within ns (block_check (ltb (length S) 512)) (open_check C s.board) (block_within ns (ltb (length S) 512) refl refl)
      (part_within ns (numbers open_may) (open_check C s.board) refl (first_within open_may (asked_open C s.board))))
      (then_within ns (lent_check C s (length L)) held (lent_within ns C s (length L) refl refl)
      (then_within ns (block_check (not (form.laid C S))) (good_check C (form.leaves C S)) (block_within ns (not (form.laid C S)) refl refl)
      (part_within ns (5 ∷ []) (good_check C (form.leaves C S)) refl (first_within (Damaged ∷ []) (asked (drive_at C 1) (form.leaves C S)))))))

  -- What is accepted is accepted without tables, and what is lent is long enough.
  pub loads_accepts : reading_check_as form S s (length L) ≡ Ok tt
      → (forms.reading_check form S s.board ≡ Ok tt) × (lent_check (capacity_in S) s (length L) ≡ Ok tt)
  unfolding reading_check_as forms.reading_check
  loads_accepts e =
      let C = capacity_in S in
      let held = forms.sheet_check form C S in
      let later = then_clear (head_check S s.board) (and_then (lent_check C s (length L)) held) e in (
        rw (first_clear (head_check S s.board) (and_then (lent_check C s (length L)) held) e) (then_clear (lent_check C s (length L)) held later),
        first_clear (lent_check C s (length L)) held later,
      )

  loads_fits : good (capacity_in S) (form.leaves (capacity_in S) S ++ drop (capacity_in S) s.board) ≡ true → reading_check_as form S s (length L) ≡ Ok tt
      → fitting (capacity_in S) (loaded_state_as form S s (length L)) ≡ true
  loads_fits g e = rw e (cleared_fits (capacity_in S) (form.leaves (capacity_in S) S ++ drop (capacity_in S) s.board) s.rates (s.owed ∷ s.other ∷ []) g)

module _ (S : List ℕ) (s : BoardTables) (L : List ℕ) where
  pub read_unique : {r q : Checked} {t u : BoardTables} {F G : List ℕ} → Loads S s L r t F → Loads S s L q u G → (r ≡ q) × (t ≡ u) × (F ≡ G)
  read_unique = loads_unique leaf_form S s L

  pub read_refused : {r : Checked} {t : BoardTables} {F : List ℕ} → Loads S s L r t F → Refuses (check_answer r.answer) → (r.drive ≡ drive_at 0 0) × (t ≡ s) × (F ≡ L)
  read_refused = loads_refused leaf_form S s L

  pub read_answers : among (loaded_answer S s (length L)).number read_may ≡ true
  read_answers = loads_answers leaf_form S s L

  pub read_may_lem : {r : Checked} {t : BoardTables} {F : List ℕ} → Loads S s L r t F → among (check_answer r.answer).number read_may ≡ true
  read_may_lem p = may read_may p.1 read_answers

  -- What is accepted is accepted without tables,
  pub read_accepts : reading_check S s (length L) ≡ Ok tt → sheets.read_check S s.board ≡ Ok tt
  read_accepts e = (loads_accepts leaf_form S s L e).0

  -- and what it leaves fits.
  pub read_fits : reading_check S s (length L) ≡ Ok tt → fitting (capacity_in S) (loaded_state S s (length L)) ≡ true
  read_fits e = loads_fits leaf_form S s L (read_good S s.board (read_accepts e)) e

-- ---- read of a sheet of pieces

module _ (S : List ℕ) (s : BoardTables) (L : List ℕ) where
  pub read_pieces_unique : {r q : Checked} {t u : BoardTables} {F G : List ℕ} → LoadsPieces S s L r t F → LoadsPieces S s L q u G → (r ≡ q) × (t ≡ u) × (F ≡ G)
  read_pieces_unique = loads_unique piece_form S s L

  pub read_pieces_refused : {r : Checked} {t : BoardTables} {F : List ℕ} → LoadsPieces S s L r t F → Refuses (check_answer r.answer) → (r.drive ≡ drive_at 0 0) × (t ≡ s) × (F ≡ L)
  read_pieces_refused = loads_refused piece_form S s L

  pub read_pieces_answers : among (loaded_answer_as piece_form S s (length L)).number read_may ≡ true
  read_pieces_answers = loads_answers piece_form S s L

  pub read_pieces_may : {r : Checked} {t : BoardTables} {F : List ℕ} → LoadsPieces S s L r t F → among (check_answer r.answer).number read_may ≡ true
  read_pieces_may p = may read_may p.1 read_pieces_answers

  -- What is accepted is accepted without tables,
  pub read_pieces_accepts : reading_check_as piece_form S s (length L) ≡ Ok tt → forms.reading_check piece_form S s.board ≡ Ok tt
  read_pieces_accepts e = (loads_accepts piece_form S s L e).0

  -- and what it leaves fits.
  pub read_pieces_fits : reading_check_as piece_form S s (length L) ≡ Ok tt → fitting (capacity_in S) (loaded_state_as piece_form S s (length L)) ≡ true
  read_pieces_fits e = loads_fits piece_form S s L (read_pieces_good S s.board (read_pieces_accepts e)) e

-- ---- round

module _ (a b : Drive) (s : BoardTables) (O : List ℕ) where
  pub round_unique : {r q : Checked} {E F : List ℕ} → Rounds a b s O r E → Rounds a b s O q F → (r ≡ q) × (E ≡ F)
  round_unique p q = (unique p.0 q.0, unique p.2 q.2)

  pub round_refused : {r : Checked} {E : List ℕ} → Rounds a b s O r E → Refuses (check_answer r.answer) → (r.drive ≡ a) × (E ≡ O)
  round_refused p h = rw (p.0, p.2, (refusal (rounding_check a b s (length O)) (refuses p.1 h)).1) (refl, refl)

  pub round_answers : among (rounded_answer a b s O).number rounding_may ≡ true
  unfolding rounding_check round_check covers zero_or
  round_answers =
      let ns = numbers rounding_may in
      within_among rounding_may (rounding_check a b s (length O))
      (then_within ns (look_check a b s) (round_check a s.board (length O)) (part_within ns (1 ∷ 2 ∷ 3 ∷ 5 ∷ []) (look_check a b s) refl (share_within a b s false))
      (part_within ns (numbers round_may) (round_check a s.board (length O)) refl (first_within round_may (asked_output a s.board (length O) a.capacity))))

  pub round_may_lem : {r : Checked} {E : List ℕ} → Rounds a b s O r E → among (check_answer r.answer).number rounding_may ≡ true
  round_may_lem p = may rounding_may p.1 round_answers

-- ---- report

module _ (a b : Drive) (s : BoardTables) (x : ℕ) where
  pub report_unique : {r q : Reported} → Reports a b s x r → Reports a b s x q → r ≡ q
  report_unique p q = unique p.0 q.0

  pub report_refused : {r : Reported} → Reports a b s x r → Refuses (report_answer r.answer) → (r.drive ≡ a) × ((report_answer r.answer).values ≡ 0 ∷ 0 ∷ 0 ∷ [])
  report_refused p h = rw (p.0, (refusal (reporting_check a b s x) (refuses p.1 h)).1) (refl, refl)

  pub report_answers : among (reported_answer a b s x).number report_may ≡ true
  unfolding reporting_check held_check covers zero_or
  report_answers =
      let ns = numbers report_may in
      within_among report_may (reporting_check a b s x)
      (then_within ns (look_check a b s) (held_check a.capacity s.board x) (part_within ns (1 ∷ 2 ∷ 3 ∷ 5 ∷ []) (look_check a b s) refl (share_within a b s false))
      (part_within ns (6 ∷ 9 ∷ []) (held_check a.capacity s.board x) refl (first_within (Name ∷ Absent ∷ []) (asked_name (drive_at a.capacity 1) s.board x))))

  pub report_may_lem : {r : Reported} → Reports a b s x r → among (report_answer r.answer).number report_may ≡ true
  report_may_lem p = may report_may p.1 report_answers

-- An over-allocated stream, one of whose leaves is the lowest, i, is reported with r and one piece, and the round serves it r times.
pub report_over : (a : Drive) (s : BoardTables) → Ready a s → (i : ℕ) → i < a.capacity → (get_or s.rates i 0 ≡ 0 → ⊥)
    → let x = get_or s.board i 0 in
    (reported_weight a s x ≡ get_or s.rates i 0) × (reported_pieces a s x ≡ 1) × (count_list (λ y. eqb y x) (round_serves a.capacity s.board s.rates) ≡ get_or s.rates i 0)
unfolding served_weight
report_over a s r i h some =
    let C = a.capacity in
    let B = s.board in
    let T = s.rates in
    let sh = ready_shared a s r in
    let is = rated_at C B T sh.fit i h some in
    let w : reported_weight a s (get_or B i 0) ≡ get_or T i 0 = rw (is.low, ne_eqb (get_or T i 0) 0 some) refl in
    let z = ready_sized a s r in
    let held = leaf_held C B (get_or B i 0) i h refl in
    (w, one_piece C B T i z.few sh.sound sh.fit h some, round_serves_lem C B T z.few z.some sh.fit (get_or B i 0) is.named held ∙ w)

-- ---- save

-- What is not done: a refusal, or 17.
not_saved : (k : Check) (none : Bool) (n : ℕ) (done was : List ℕ) → ((saved_answer_by k none n).number ≡ 0 → ⊥) → ((saved_answer_by k none n).values ≡ 0 ∷ []) × (if_clear k (cond none done was) was ≡ was)
not_saved (Ok tt) true n done was h = absurd (h refl)
not_saved (Ok tt) false n done was h = (refl, refl)
not_saved (Err r) none n done was h = (refl, refl)

kind_within : (ns : List ℕ) (k : Check) (none : Bool) (n : ℕ) → zero_or 17 ns ≡ true → Within ns k → zero_or (saved_answer_by k none n).number ns ≡ true
kind_within ns (Ok tt) true n kind m = m
kind_within ns (Ok tt) false n kind m = kind
kind_within ns (Err r) none n kind m = m

-- of any form of sheet, by what the check k finds
module _ (form : Form) (k : Check) (a : Drive) (s : BoardTables) (O : List ℕ) where
  saves_unique : {r q : ShareSaved} {E F : List ℕ} → SavesAs form k a s O r E → SavesAs form k a s O q F → (r ≡ q) × (E ≡ F)
  saves_unique p q = (unique p.0 q.0, unique p.2 q.2)

  saves_refused : {r : ShareSaved} {E : List ℕ} → SavesAs form k a s O r E → Refuses (saving_answer r.answer)
      → (r.drive ≡ a) × ((saving_answer r.answer).values ≡ 0 ∷ []) × (E ≡ O)
  saves_refused p h =
      let m = size_of form a s.board in
      let n = not_saved k (plain_kind a s) m (form.sheet a.capacity a.position s.board ++ drop m O) O (refuses p.1 h) in
      (ap (λ (r : ShareSaved). r.drive) p.0, ap (λ (x : Answer). x.values) p.1 ∙ n.0, p.2 ∙ n.1)

saves_answers : (form : Form) (there : Bool) (a b : Drive) (s : BoardTables) (n : ℕ)
    → zero_or (saved_answer_as form (saving_check_as form (placed_check there a b s false) a s n) a s).number (1 ∷ 2 ∷ 3 ∷ 4 ∷ 5 ∷ 11 ∷ 17 ∷ []) ≡ true
unfolding saving_check_as covers zero_or
saves_answers form there a b s n =
    let ns : List ℕ = 1 ∷ 2 ∷ 3 ∷ 4 ∷ 5 ∷ 11 ∷ 17 ∷ [] in
    let m = size_of form a s.board in
    kind_within ns (saving_check_as form (placed_check there a b s false) a s n) (plain_kind a s) m refl
    (then_within ns (placed_check there a b s false) (room_check n m) (part_within ns (1 ∷ 2 ∷ 3 ∷ 4 ∷ 5 ∷ []) (placed_check there a b s false) refl (placed_within a b s false there)) (if_within ns (ltb n m) Output (Ok tt) refl refl))

module _ (a b : Drive) (s : BoardTables) (O : List ℕ) where
  pub save_unique : {r q : ShareSaved} {E F : List ℕ} → Saves a b s O r E → Saves a b s O q F → (r ≡ q) × (E ≡ F)
  save_unique = saves_unique leaf_form (saving_check a b s (length O)) a s O

  pub save_refused : {r : ShareSaved} {E : List ℕ} → Saves a b s O r E → Refuses (saving_answer r.answer)
      → (r.drive ≡ a) × ((saving_answer r.answer).values ≡ 0 ∷ []) × (E ≡ O)
  save_refused = saves_refused leaf_form (saving_check a b s (length O)) a s O

  pub save_answers : zero_or (saved_answer a b s O).number (1 ∷ 2 ∷ 3 ∷ 4 ∷ 5 ∷ 11 ∷ 17 ∷ []) ≡ true
  save_answers = saves_answers leaf_form (both_start a b) a b s (length O)

  pub save_may_lem : {r : ShareSaved} {E : List ℕ} → Saves a b s O r E → zero_or (saving_answer r.answer).number (1 ∷ 2 ∷ 3 ∷ 4 ∷ 5 ∷ 11 ∷ 17 ∷ []) ≡ true
  save_may_lem p = rw p.1 save_answers

-- ---- save of a sheet of pieces: 4 where the drives are at different positions

module _ (a b : Drive) (s : BoardTables) (O : List ℕ) where
  pub save_pieces_unique : {r q : ShareSaved} {E F : List ℕ} → SavesPieces a b s O r E → SavesPieces a b s O q F → (r ≡ q) × (E ≡ F)
  save_pieces_unique = saves_unique piece_form (saving_pieces_check a b s (length O)) a s O

  pub save_pieces_refused : {r : ShareSaved} {E : List ℕ} → SavesPieces a b s O r E → Refuses (saving_answer r.answer)
      → (r.drive ≡ a) × ((saving_answer r.answer).values ≡ 0 ∷ []) × (E ≡ O)
  save_pieces_refused = saves_refused piece_form (saving_pieces_check a b s (length O)) a s O

  pub save_pieces_answers : zero_or (saved_pieces_answer a b s O).number (1 ∷ 2 ∷ 3 ∷ 4 ∷ 5 ∷ 11 ∷ 17 ∷ []) ≡ true
  save_pieces_answers = saves_answers piece_form (eqb a.position b.position) a b s (length O)

  pub save_pieces_may_lem : {r : ShareSaved} {E : List ℕ} → SavesPieces a b s O r E → zero_or (saving_answer r.answer).number (1 ∷ 2 ∷ 3 ∷ 4 ∷ 5 ∷ 11 ∷ 17 ∷ []) ≡ true
  save_pieces_may_lem p = rw p.1 save_pieces_answers

  -- Where it finds nothing both drives are at the position that is saved.
  pub save_pieces_level : saving_pieces_check a b s (length O) ≡ Ok tt → a.position ≡ b.position
  unfolding saving_check_as
  save_pieces_level e = level_same a b s (first_clear (starting.level_check a b s) (room_check (length O) (size_of piece_form a s.board)) e)

-- ---- the fresh layout

module _ (a b : Drive) (s : BoardTables) where
  pub fresh_unique : {r q : Checked} {t u : BoardTables} → Refreshes a b s r t → Refreshes a b s q u → (r ≡ q) × (t ≡ u)
  fresh_unique p q = (unique p.0 q.0, unique p.2 q.2)

  pub fresh_refused : {r : Checked} {t : BoardTables} → Refreshes a b s r t → Refuses (check_answer r.answer) → (r.drive ≡ a) × (t ≡ s)
  fresh_refused p h = rw (p.0, p.2, (refusal (starting.start_check a b s) (refuses p.1 h)).1) (refl, refl)

  pub fresh_answers : among (refreshed_answer a b s).number change_may ≡ true
  unfolding covers zero_or
  fresh_answers = within_among change_may (starting.start_check a b s) (placed_within a b s false (both_start a b))

  pub fresh_may : {r : Checked} {t : BoardTables} → Refreshes a b s r t → among (check_answer r.answer).number change_may ≡ true
  fresh_may p = may change_may p.1 fresh_answers
