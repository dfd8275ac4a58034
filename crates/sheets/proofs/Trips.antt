-- Demand 2's round trip, for any form of sheet: what save writes reads back, and whatever read accepts is what save writes. Each form has only to
-- show that it is exact. Assumes nothing.
use mathlib.Core.Path.{◌≡◌, refl, sym, ap, ◌∙◌}
use mathlib.Core.Bool.{true}
use mathlib.Core.List.{List, ◌++◌}
use Prim.Native.Nat.{ℕ, ◌≤◌, ◌<◌}
use native.Mathlib.Omega.{arith}
use lib.ListN.{length, take, drop, length-append, get_or-append}
use lib.Seq.{get_or-take, take_at, take_all}
use Rattle.pieces.specs.Board.{good}
use Rattle.pieces.proofs.Laws.{good_same}
use Rattle.calls.specs.Records.{drive_at}
use Rattle.calls.specs.declared.Drive.{Drive}
use Rattle.calls.specs.Types.{Check}
use Rattle.std.specs.Prelude.{Ok, Err}
use Rattle.calls.proofs.Laws.{Sized, open_clear, open_sized}
use Rattle.sheets.specs.Blocks.{Bytes, Words}
use Rattle.sheets.specs.Sheet.{capacity_in}
use Rattle.sheets.specs.Forms.{Form, size_of, saving_by, saving_check, saved_as, saved_output_as, reading_check, loaded_as, loaded_board_as}
use Rattle.sheets.proofs.Checked.{good_check_lem, check_good, Readable, read_clear, clear_read}

-- A form is exact, and is saved at the positions At: its checks of save ask just for a board, a position and room; it spells what it is given; and
-- what keeps its layout is the sheet of what it spells.
pub record Exact (F : Form) (At : ℕ → ℕ → Type 0) : Type 0 where
  pub asks : (d : Drive) (B : List ℕ) (n : ℕ) → saving_check F d B n ≡ Ok tt
      → Sized d.capacity B × (good d.capacity B ≡ true) × At d.capacity d.position × (size_of F d B ≤ n)
  pub lets : (C p : ℕ) (B : List ℕ) (n : ℕ) → Sized C B → good C B ≡ true → At C p → F.size C B ≤ n → saving_check F (drive_at C p) B n ≡ Ok tt
  pub long : (C p : ℕ) (B : List ℕ) → length (F.sheet C p B) ≡ F.size C B
  pub least : (C : ℕ) (B : List ℕ) → 0 < C → 512 ≤ F.size C B
  pub taken : (C p : ℕ) (B D : List ℕ) → take C B ≡ take C D → F.sheet C p B ≡ F.sheet C p D
  pub capacity : (C p : ℕ) (B : List ℕ) → Sized C B → Words B → At C p → capacity_in (F.sheet C p B) ≡ C
  pub keeps : (C p : ℕ) (B : List ℕ) → Sized C B → Words B → At C p → F.laid C (F.sheet C p B) ≡ true
  pub position : (C p : ℕ) (B : List ℕ) → Sized C B → Words B → At C p → F.position (F.sheet C p B) ≡ p
  pub leaves : (C p : ℕ) (B : List ℕ) → Sized C B → Words B → At C p → F.leaves C (F.sheet C p B) ≡ take C B
  pub only : (C : ℕ) (s : List ℕ) → Bytes s → F.laid C s ≡ true → s ≡ F.sheet C (F.position s) (F.leaves C s)
  pub at : (C : ℕ) (s : List ℕ) → F.laid C s ≡ true → At C (F.position s)
  pub spelled : (C : ℕ) (s : List ℕ) → length (F.leaves C s) ≡ C

pub saving_done : (k : Check) (m n : ℕ) → saving_by k m ≡ Ok n → (k ≡ Ok tt) × (m ≡ n)
saving_done (Ok tt) m n e = (refl, cc)
saving_done (Err r) m n e = absurd (let z : ◌≡◌ {A = ℕ} 0 1 = cc in omega arith)

module _ (F : Form) (At : ℕ → ℕ → Type 0) (x : Exact F At) where
  -- a sheet of a good board, lent a board with room
  module _ (C p : ℕ) (B L : List ℕ) (words : Words B) (sized : Sized C B) (sound : good C B ≡ true) (at : At C p) (room : C ≤ length L) where
    pub trip_readable : Readable F (F.sheet C p B) L
    trip_readable =
        let q = x.capacity C p B sized words at in
        let leaves = x.leaves C p B sized words at in
        record {
          long = omega (arith, x.long C p B, x.least C B sized.some);
          fitting = rw q (open_sized C L (record { some = sized.some; few = sized.few; long = room }));
          keeps = rw q (x.keeps C p B sized words at);
          good = rw (q, leaves) (good_check_lem C (take C B) (good_same C B (take C B) (λ i h. sym (get_or-take C B i 0 h)) sound));
        }

    pub sheet_reads : (loaded_as F (F.sheet C p B) L ≡ record { drive = drive_at C p; answer = (Ok tt) }) × (loaded_board_as F (F.sheet C p B) L ≡ take C B ++ drop C L)
    sheet_reads =
        rw (read_clear F (F.sheet C p B) L trip_readable, x.capacity C p B sized words at) (rw (x.position C p B sized words at) refl, rw (x.leaves C p B sized words at) refl)

  -- What save writes reads back as the same board, capacity and position. B is the board saved, of u16 leaves, O the output and L the board lent to read.
  module _ (d : Drive) (B O L : List ℕ) (n : ℕ) (words : Words B) (done : (saved_as F d B O).answer ≡ Ok n) (room : d.capacity ≤ length L) where
    pub saved_reads_back :
        (loaded_as F (take n (saved_output_as F d B O)) L ≡ record { drive = drive_at d.capacity d.position; answer = (Ok tt) })
        × (loaded_board_as F (take n (saved_output_as F d B O)) L ≡ take d.capacity B ++ drop d.capacity L)
    saved_reads_back =
        let C = d.capacity in
        let p = d.position in
        let both = saving_done (saving_check F d B (length O)) (size_of F d B) n done in
        let asked = x.asks d B (length O) both.0 in
        let written : take n (saved_output_as F d B O) ≡ F.sheet C p B =
        rw both.0 (take_at (F.sheet C p B) (drop (size_of F d B) O) n (x.long C p B ∙ both.1))
        in
        rw written (sheet_reads C p B L words asked.0 asked.1 asked.2 room)

    pub saved_at : At d.capacity d.position
    saved_at = (x.asks d B (length O) (saving_done (saving_check F d B (length O)) (size_of F d B) n done).0).2

  -- What read accepts is a board that passes the checks: long enough, and good. L is the board lent to read.
  module _ (s L : List ℕ) (accepted : reading_check F s L ≡ Ok tt) where
    pub accepted_sized : Sized (capacity_in s) (F.leaves (capacity_in s) s ++ drop (capacity_in s) L)
    accepted_sized =
        let lent = open_clear (capacity_in s) L (clear_read F s L accepted).fitting in
        record {
          some = lent.some;
          few = lent.few;
          long = rw (length-append (F.leaves (capacity_in s) s) (drop (capacity_in s) L), x.spelled (capacity_in s) s) (omega arith);
        }

    pub accepted_good : good (capacity_in s) (F.leaves (capacity_in s) s ++ drop (capacity_in s) L) ≡ true
    accepted_good =
        let C = capacity_in s in
        let leaves = F.leaves C s in
        good_same C leaves (leaves ++ drop C L) (λ i h. sym (get_or-append leaves (drop C L) 0 i (omega (arith, x.spelled C s))))
        (check_good C leaves (clear_read F s L accepted).good)

  -- Whatever bytes read accepts are the very bytes that save writes for the board and position that it sets. O is an output with room.
  module _ (s L O : List ℕ) (bytes : Bytes s) (done : (loaded_as F s L).answer ≡ Ok tt) (room : length s ≤ length O) where
    pub only_such_sheets :
        (saved_as F (loaded_as F s L).drive (loaded_board_as F s L) O ≡ record { drive = (loaded_as F s L).drive; answer = Ok (length s) })
        × (saved_output_as F (loaded_as F s L).drive (loaded_board_as F s L) O ≡ s ++ drop (length s) O)
    only_such_sheets =
        let r = clear_read F s L done in
        let C = capacity_in s in
        let p = F.position s in
        let leaves = F.leaves C s in
        let board = leaves ++ drop C L in
        let size = x.spelled C s in
        let same : F.sheet C p board ≡ s =
        x.taken C p board leaves (take_at leaves (drop C L) C size ∙ sym (take_all C leaves (omega arith))) ∙ sym (x.only C s bytes r.keeps)
        in
        let length_is : F.size C board ≡ length s = sym (x.long C p board) ∙ ap length same in
        let saves : saving_check F (drive_at C p) board (length O) ≡ (Ok tt) =
        x.lets C p board (length O) (accepted_sized s L done) (accepted_good s L done) (x.at C s r.keeps) (omega arith)
        in
        rw (done, saves, same, length_is) (refl, refl)
