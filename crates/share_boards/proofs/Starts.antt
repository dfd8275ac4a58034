-- What the code of save and of the fresh layout needs: what is known once their checks find nothing, and what is then answered and left.
-- Assumes nothing.
use mathlib.Core.Path.{◌≡◌, refl, ◌∙◌}
use mathlib.Core.Bool.{Bool, true, false}
use mathlib.Core.List.{List}
use Prim.Native.Nat.{ℕ, ◌≤◌}
use lib.Dec.{eqb}
use lib.ListN.{length}
use borrow.Author.Tests.{eqb-true}
use Rattle.pieces.specs.Fresh.{fresh}
use Rattle.tables.specs.Settling.{settled_table, Alike}
use Rattle.tables.proofs.Laws.{settled_told}
use Rattle.calls.specs.declared.Drive.{Drive}
use Rattle.calls.specs.declared.Refusal.{Refusal}
use Rattle.calls.specs.Types.{Check}
use Rattle.std.specs.Prelude.{Ok, Err}
use Rattle.calls.specs.Refusals.{good_check}
use Rattle.calls.specs.Results.{if_clear}
use Rattle.sheets.specs.Types.{Saving}
use Rattle.sheets.specs.Forms as forms
use Rattle.sheets.specs.Forms.{Form, size_of, room_check}
use Rattle.sheets.specs.Results.{save_check, leaf_form, piece_form}
use Rattle.sheets.proofs.Laws.{save_parts, entry_parts}
use Rattle.drives.specs.Checks.{both_start}
use Rattle.drives.proofs.Laws.{start_both}
use Rattle.shares.specs.States.{BoardTables, lent}
use Rattle.shares.specs.Checks.{placed_check, Ready}
use Rattle.share_boards.specs.Types.{ShareSaving}
use Rattle.share_boards.specs.declared.starting.Unsaved.TheVariants as unsaved
use Rattle.share_boards.specs.Starting.{start_check, level_check, saving_check_as, plain_kind, saving_answer, saving_by, plainly, saved_answer_by, SavesAs, afresh, Refreshes}
use Rattle.shares.proofs.Laws.{placed_there, placed_look, share_ready, ready_change}
use Rattle.share_boards.proofs.Looks.{ready_sized, ready_shared}

-- ---- what is known once 1 to 5 find nothing

module _ (there : Bool) (a b : Drive) (s : BoardTables) (e : placed_check there a b s false ≡ Ok tt) where
  pub placed_ready : Ready a s
  placed_ready = share_ready a b s false (placed_look there a b s false e)

  -- what putting the sheet asks
  pub placed_board : (a.capacity ≤ length s.board) × (a.capacity ≤ 4095)
  placed_board = let z = ready_sized a s placed_ready in (z.long, z.few)

  -- what the test for KIND asks
  pub placed_rates : (a.capacity ≤ length s.rates) × (a.capacity ≤ 4095)
  placed_rates = (placed_ready.rates, placed_board.1)

module _ (a b : Drive) (s : BoardTables) (e : start_check a b s ≡ Ok tt) where
  pub start_both_there : both_start a b ≡ true
  start_both_there = placed_there (both_start a b) a b s false e

  pub start_ready : Ready a s
  start_ready = placed_ready (both_start a b) a b s e

-- Both drives are at the position that a sheet of pieces is saved with.
pub level_same : (a b : Drive) (s : BoardTables) → level_check a b s ≡ Ok tt → a.position ≡ b.position
level_same a b s e = eqb-true a.position b.position (placed_there (eqb a.position b.position) a b s false e)

-- ---- save

-- Once 1 to 5 find nothing there is 11 left of the checks of each save without tables.
pub save_rest : (a b : Drive) (s : BoardTables) (n : ℕ) → start_check a b s ≡ Ok tt → save_check a s.board n ≡ room_check n (size_of leaf_form a s.board)
save_rest a b s n e =
    let at = (start_both a b (start_both_there a b s e)).0 in
    save_parts a s.board n ∙ rw (← ready_change a s (start_ready a b s e) at) refl

pub pieces_rest : (a b : Drive) (s : BoardTables) (n : ℕ) → level_check a b s ≡ Ok tt
    → forms.saving_check piece_form a s.board n ≡ room_check n (size_of piece_form a s.board)
unfolding good_check
pieces_rest a b s n e =
    let r = placed_ready (eqb a.position b.position) a b s e in
    entry_parts a s.board n ∙ rw (r.clear, (ready_shared a s r).sound) refl

-- what a save answers by what room finds, where no over-allocated stream is held, and where one is
plainly_told : (k : Check) (n : ℕ) → (plainly (forms.saving_by k n) ≡ saving_by k true n) × (saving_answer (saving_by k true n) ≡ saved_answer_by k true n)
plainly_told (Ok tt) n = (refl, refl)
plainly_told (Err r) n = (refl, refl)

kind_told : (k : Check) (n : ℕ) (O : List ℕ) → (saving_answer (saving_by k false n) ≡ saved_answer_by k false n) × (O ≡ if_clear k O O)
kind_told (Ok tt) n O = (refl, refl)
kind_told (Err r) n O = (refl, refl)

-- A form of sheet, and the check k before 11.
module _ (F : Form) (k : Check) (a : Drive) (s : BoardTables) (O : List ℕ) where
  abbrev bytes : ℕ
  bytes = size_of F a s.board

  pub save_refused : (r : Refusal) → k ≡ Err r
      → SavesAs F (saving_check_as F k a s (length O)) a s O (record { drive = a; answer = Err (unsaved.Refused r) }) O
  unfolding saving_check_as
  save_refused r e = rw e (refl, refl, refl)

  module _ (e : k ≡ Ok tt) where
    -- x is what putting the sheet answers
    pub save_puts : plain_kind a s ≡ true → (x : Saving) (y : ShareSaving) (E : List ℕ) → forms.Puts F a.capacity a.position s.board O x E → y ≡ plainly x
        → SavesAs F (saving_check_as F k a s (length O)) a s O (record { drive = a; answer = y }) E
    unfolding saving_check_as
    save_puts none x y E p is =
        let t = plainly_told (room_check (length O) bytes) bytes in
        rw (e, none, is, p.0, t.0) (refl, t.1, p.1)

    pub save_kind : plain_kind a s ≡ false → (n : ℕ) (y : ShareSaving) → n ≡ size_of F a s.board → y ≡ saving_by (room_check (length O) n) false n
        → SavesAs F (saving_check_as F k a s (length O)) a s O (record { drive = a; answer = y }) O
    unfolding saving_check_as
    save_kind some n y m is =
        let t = kind_told (room_check (length O) bytes) bytes O in
        rw (e, some, is, m) (refl, t.0, t.1)

-- ---- the fresh layout

pub fresh_done : (a b : Drive) (B T E F : List ℕ) → start_check a b (lent B T E F) ≡ Ok tt → (D : List ℕ) {B'' T' E' F' : List ℕ} → Alike a.capacity B D → B'' ≡ fresh a.capacity B
    → T' ≡ settled_table a.capacity D B'' T → E' ≡ settled_table a.capacity D B'' E → F' ≡ settled_table a.capacity D B'' F
    → Refreshes a b (lent B T E F) (record { drive = a; answer = (Ok tt) }) (lent B'' T' E' F')
unfolding afresh
fresh_done a b B T E F e D {B''} {T'} {E'} {F'} same h t u v =
    let x = settled_told a.capacity B D (fresh a.capacity B) B'' T T' same h t in
    let y = settled_told a.capacity B D (fresh a.capacity B) B'' E E' same h u in
    let z = settled_told a.capacity B D (fresh a.capacity B) B'' F F' same h v in
    rw (e, x, y, z, h) (refl, refl, refl)
