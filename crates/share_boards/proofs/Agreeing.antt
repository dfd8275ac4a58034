-- Where the tables are long enough and zero, open, read and save of each form of sheet, round, report and the fresh layout with tables are those
-- without: they find, answer and leave the same, and the tables stay as they are. Assumes nothing.
use mathlib.Core.Path.{◌≡◌, refl, ◌∙◌}
use mathlib.Core.Bool.{true, false, not}
use mathlib.Core.List.{List, [], ◌∷◌, ◌++◌}
use Prim.Native.Nat.{ℕ, max}
use lib.ListN.{length, drop}
use Rattle.general.proofs.Laws.{or_false}
use Rattle.pieces.specs.Board.{good}
use Rattle.pieces.specs.Fresh.{fresh}
use Rattle.tables.proofs.Laws.{Zero, zero_intro, plain_fits, plain_cleared, plain_settled, plain_round, plain_weight}
use Rattle.calls.specs.declared.Drive.{Drive}
use Rattle.calls.specs.declared.Refusal.TheVariants.{Damaged, Name, Absent}
use Rattle.calls.specs.Types.{Check}
use Rattle.std.specs.Prelude.{Ok, Err}
use Rattle.calls.specs.Refusals.{refuse_if, and_then, asked_name, slot_may, slot_check, report_check, held_check, change_check}
use Rattle.calls.specs.Results.{if_clear, idle_board}
use Rattle.calls.proofs.Laws.{first_next, then_none}
use Rattle.sheets.specs.Sheet.{capacity_in}
use Rattle.sheets.specs.Forms as forms
use Rattle.sheets.specs.Forms.{Form, size_of, room_check}
use Rattle.sheets.specs.Results.{leaf_form, piece_form}
use Rattle.waiting.specs.Layout.{too_short}
use Rattle.orders.specs.Checks as single
use Rattle.orders.specs.Results as alone
use Rattle.drives.specs.Checks as pair
use Rattle.drives.specs.Checks.{pair_check}
use Rattle.drives.specs.Results as plain
use Rattle.drives.proofs.Laws.{start_both}
use Rattle.shares.specs.States.{BoardTables, lent, fitting}
use Rattle.shares.specs.Checks.{too_few, placed_check, share_check, look_check}
use Rattle.share_boards.specs.Opening as opening
use Rattle.share_boards.specs.Looking as looking
use Rattle.share_boards.specs.Starting as starting
use Rattle.shares.proofs.Laws.{share_ready, ready_change}
use Rattle.share_boards.proofs.Looks.{ready_position, rounding_ready, reporting_clear}
use Rattle.share_boards.proofs.Starts.{start_both_there, start_ready, save_rest, pieces_rest}

-- ---- open and read: C leaves, and tables whose first C entries are 0

pub record Bare (C : ℕ) (s : BoardTables) : Type 0 where
  pub long : too_few C s ≡ false
  pub rates : Zero C s.rates
  pub owed : Zero C s.owed
  pub other : Zero C s.other

cleared_bare : (C : ℕ) (s : BoardTables) → Bare C s → (D : List ℕ) → opening.cleared C D s ≡ lent D s.rates s.owed s.other
cleared_bare C s n D = simp (plain_cleared C s.rates n.rates, plain_cleared C s.owed n.owed, plain_cleared C s.other n.other)

either_lent : (k : Check) (D : List ℕ) (s : BoardTables) → if_clear k (lent D s.rates s.owed s.other) s ≡ lent (if_clear k D s.board) s.rates s.owed s.other
either_lent (Ok tt) D s = refl
either_lent (Err r) D s = refl

module _ (C : ℕ) (s : BoardTables) (L : List ℕ) (n : Bare C s) where
  opening_same : opening.opening_check C s (length L) ≡ single.lent_check C s.board (length L)
  unfolding opening.opening_check opening.lent_check single.lent_check
  opening_same = rw (n.long, or_false (too_short (length L))) refl

  pub open_agrees :
      (opening.opened C s (length L) ≡ alone.opened C s.board (length L))
      × (opening.opened_answer C s (length L) ≡ alone.opened_answer C s.board (length L))
      × (opening.opened_state C s (length L) ≡ lent (alone.opened_board C s.board (length L)) s.rates s.owed s.other)
      × (opening.opened_list C s L ≡ alone.opened_list C s.board L)
  open_agrees = (
    rw opening_same refl,
    rw opening_same refl,
    rw (opening_same, cleared_bare C s n (idle_board C s.board)) (either_lent (single.lent_check C s.board (length L)) (idle_board C s.board) s),
    rw opening_same refl,
  )

module _ (form : Form) (S : List ℕ) (s : BoardTables) (L : List ℕ) (n : Bare (capacity_in S) s) where
  reading_same : opening.reading_check_as form S s (length L) ≡ single.reading_check form S s.board (length L)
  unfolding opening.reading_check_as opening.lent_check single.reading_check
  reading_same = rw (n.long, or_false (too_short (length L))) refl

  reads_agree :
      (opening.loaded_as form S s (length L) ≡ alone.loaded_as form S s.board (length L))
      × (opening.loaded_answer_as form S s (length L) ≡ alone.loaded_answer_as form S s.board (length L))
      × (opening.loaded_state_as form S s (length L) ≡ lent (alone.loaded_board_as form S s.board (length L)) s.rates s.owed s.other)
      × (opening.loaded_list_as form S s L ≡ alone.loaded_list_as form S s.board L)
  reads_agree =
      let D = form.leaves (capacity_in S) S ++ drop (capacity_in S) s.board in (
        rw reading_same refl,
        rw reading_same refl,
        rw (reading_same, cleared_bare (capacity_in S) s n D) (either_lent (single.reading_check form S s.board (length L)) D s),
        rw reading_same refl,
      )

module _ (S : List ℕ) (s : BoardTables) (L : List ℕ) (n : Bare (capacity_in S) s) where
  pub read_agrees :
      (opening.loaded S s (length L) ≡ alone.loaded S s.board (length L))
      × (opening.loaded_answer S s (length L) ≡ alone.loaded_answer S s.board (length L))
      × (opening.loaded_state S s (length L) ≡ lent (alone.loaded_board S s.board (length L)) s.rates s.owed s.other)
      × (opening.loaded_list S s L ≡ alone.loaded_list S s.board L)
  read_agrees = reads_agree leaf_form S s L n

  pub read_pieces_agrees :
      (opening.loaded_as piece_form S s (length L) ≡ alone.loaded_as piece_form S s.board (length L))
      × (opening.loaded_answer_as piece_form S s (length L) ≡ alone.loaded_answer_as piece_form S s.board (length L))
      × (opening.loaded_state_as piece_form S s (length L) ≡ lent (alone.loaded_board_as piece_form S s.board (length L)) s.rates s.owed s.other)
      × (opening.loaded_list_as piece_form S s L ≡ alone.loaded_list_as piece_form S s.board L)
  read_pieces_agrees = reads_agree piece_form S s L n

-- ---- two drives: a good board, and tables whose first C entries are 0

pub record Blank (a b : Drive) (s : BoardTables) : Type 0 where
  pub long : too_few (max a.capacity b.capacity) s ≡ false
  pub sound : good a.capacity s.board ≡ true
  pub rates : Zero a.capacity s.rates
  pub owed : Zero a.capacity s.owed
  pub other : Zero a.capacity s.other

module _ (a b : Drive) (s : BoardTables) (n : Blank a b s) where
  blank_fit : fitting a.capacity s ≡ true
  blank_fit = plain_fits a.capacity s.board s.rates s.owed s.other n.rates n.owed n.other ∙ n.sound

  pub look_same : look_check a b s ≡ pair.look_check a b s.board
  unfolding share_check
  look_same = rw (n.long, blank_fit) (then_none (pair_check a b s.board false))

  pub start_same : starting.start_check a b s ≡ pair.start_check a b s.board
  unfolding placed_check pair.start_check
  start_same = rw (n.long, blank_fit) refl

  pub level_agrees : starting.level_check a b s ≡ pair.level_check a b s.board
  unfolding placed_check pair.level_check
  level_agrees = rw (n.long, blank_fit) refl

  -- ---- round

  rounding_same : (m : ℕ) → looking.rounding_check a b s m ≡ pair.pair_round_check a b s.board m
  unfolding looking.rounding_check pair.pair_round_check
  rounding_same m = rw look_same refl

  pub round_agrees : (O : List ℕ)
      → (looking.rounded a b s O ≡ plain.rounded a b s.board O) × (looking.rounded_answer a b s O ≡ plain.rounded_answer a b s.board O)
      × (looking.rounded_output a b s O ≡ plain.rounded_output a b s.board O)
  round_agrees O =
      let same = rounding_same (length O) in
      (rw same refl, rw same refl, written (looking.rounding_check a b s (length O)) refl)
    where
      written : (k : Check) → looking.rounding_check a b s (length O) ≡ k → looking.rounded_output a b s O ≡ plain.rounded_output a b s.board O
      written (Err r) e = rw (← rounding_same (length O), e) refl
      written (Ok tt) e =
          rw (← rounding_same (length O), e, plain_round a.capacity s.rates n.rates s.board (ready_position a s (rounding_ready a b s (length O) e))) refl

  -- ---- report

  report_parts : (x : ℕ) → report_check a s.board x ≡ and_then (slot_check a s.board) (refuse_if (not (good a.capacity s.board)) Damaged (held_check a.capacity s.board x))
  unfolding report_check slot_check held_check
  report_parts x = first_next slot_may (Damaged ∷ Name ∷ Absent ∷ []) (asked_name a s.board x)

  reporting_same : (x : ℕ) → looking.reporting_check a b s x ≡ pair.pair_report_check a b s.board x
  unfolding looking.reporting_check pair.pair_report_check
  reporting_same x = go (look_check a b s) refl
    where
      go : (k : Check) → look_check a b s ≡ k → and_then (look_check a b s) (held_check a.capacity s.board x) ≡ and_then (pair.look_check a b s.board) (report_check a s.board x)
      go (Err r) e = rw (← look_same, e) refl
      go (Ok tt) e = rw (← look_same, e, report_parts x, (share_ready a b s false e).clear, n.sound) refl

  pub report_agrees : (x : ℕ) → (looking.reported a b s x ≡ plain.reported a b s.board x) × (looking.reported_answer a b s x ≡ plain.reported_answer a b s.board x)
  report_agrees x = go (looking.reporting_check a b s x) refl
    where
      go : (k : Check) → looking.reporting_check a b s x ≡ k
          → (looking.reported a b s x ≡ plain.reported a b s.board x) × (looking.reported_answer a b s x ≡ plain.reported_answer a b s.board x)
      go (Err r) e = rw (← reporting_same x, e) (refl, refl)
      go (Ok tt) e =
          let q = reporting_clear a b s x e in
          rw (← reporting_same x, e, plain_weight a.capacity s.rates n.rates s.board x q.held, plain_round a.capacity s.rates n.rates s.board (ready_position a s q.ready))
          (refl, refl)

  -- ---- save

  -- A form of sheet, by equal checks before 11.
  room_same : (F : Form) (m : ℕ) (j k : Check) → j ≡ k → (j ≡ Ok tt → forms.saving_check F a s.board m ≡ room_check m (size_of F a s.board))
      → starting.saving_check_as F j a s m ≡ and_then k (forms.saving_check F a s.board m)
  unfolding starting.saving_check_as
  room_same F m (Ok tt) k e rest = rw (← e, rest refl) refl
  room_same F m (Err r) k e rest = rw (← e) refl

  saves_agree : (F : Form) (O : List ℕ) (j k : Check) → j ≡ k
      → (starting.saved_answer_as F j a s ≡ plain.saved_answer_by F k a s.board) × (starting.saved_output_as F j a s O ≡ plain.saved_output_by F k a s.board O)
  saves_agree F O (Ok tt) k e = rw (← e, zero_intro s.rates a.capacity n.rates) (refl, refl)
  saves_agree F O (Err r) k e = rw (← e) (refl, refl)

  saving_same : (m : ℕ) → starting.saving_check a b s m ≡ pair.pair_save_check a b s.board m
  unfolding pair.pair_save_check
  saving_same m = room_same leaf_form m (starting.start_check a b s) (pair.start_check a b s.board) start_same (save_rest a b s m)

  saving_pieces_same : (m : ℕ) → starting.saving_pieces_check a b s m ≡ pair.pair_pieces_check a b s.board m
  unfolding pair.pair_pieces_check
  saving_pieces_same m = room_same piece_form m (starting.level_check a b s) (pair.level_check a b s.board) level_agrees (pieces_rest a b s m)

  -- The answers are of another type, and are compared in numbers.
  pub save_agrees : (O : List ℕ)
      → (starting.saved_answer a b s O ≡ plain.saved_answer a b s.board O) × (starting.saved_output a b s O ≡ plain.saved_output a b s.board O)
  save_agrees O = saves_agree leaf_form O (starting.saving_check a b s (length O)) (pair.pair_save_check a b s.board (length O)) (saving_same (length O))

  pub save_pieces_agrees : (O : List ℕ)
      → (starting.saved_pieces_answer a b s O ≡ plain.saved_pieces_answer a b s.board O) × (starting.saved_pieces_output a b s O ≡ plain.saved_pieces_output a b s.board O)
  save_pieces_agrees O =
      saves_agree piece_form O (starting.saving_pieces_check a b s (length O)) (pair.pair_pieces_check a b s.board (length O)) (saving_pieces_same (length O))

  -- ---- the fresh layout

  fresh_same : starting.start_check a b s ≡ pair.pair_fresh_check a b s.board
  unfolding pair.pair_fresh_check
  fresh_same = go (starting.start_check a b s) refl
    where
      go : (k : Check) → starting.start_check a b s ≡ k → starting.start_check a b s ≡ and_then (pair.start_check a b s.board) (change_check a s.board)
      go (Err r) e = rw (← start_same, e) refl
      go (Ok tt) e =
          let at = (start_both a b (start_both_there a b s e)).0 in
          rw (← start_same, ← ready_change a s (start_ready a b s e) at, e) refl

  afresh_blank : starting.afresh a.capacity s ≡ lent (fresh a.capacity s.board) s.rates s.owed s.other
  unfolding starting.afresh
  afresh_blank =
      let C = a.capacity in
      let B = s.board in
      rw (plain_settled C s.rates n.rates B (fresh C B), plain_settled C s.owed n.owed B (fresh C B), plain_settled C s.other n.other B (fresh C B)) refl

  pub fresh_agrees :
      (starting.refreshed a b s ≡ plain.refreshed a b s.board) × (starting.refreshed_answer a b s ≡ plain.refreshed_answer a b s.board)
      × (starting.refreshed_state a b s ≡ lent (plain.refreshed_board a b s.board) s.rates s.owed s.other)
  fresh_agrees = (
    rw fresh_same refl,
    rw fresh_same refl,
    rw (← fresh_same, afresh_blank) (either_lent (starting.start_check a b s) (fresh a.capacity s.board) s),
  )
