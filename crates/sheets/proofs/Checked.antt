-- What the checks of save of each form and of read of any form find, part by part, and what is known once they find nothing. Assumes nothing.
use mathlib.Core.Path.{◌≡◌, refl, sym, ap, ◌∙◌}
use mathlib.Core.Bool.{Bool, true, false, not}
use mathlib.Core.List.{List, [], ◌∷◌, ◌++◌}
use Prim.Native.Nat.{ℕ, ◌*◌, ◌≤◌, ◌<◌}
use native.Mathlib.Omega.{arith}
use lib.Dec.{ltb}
use lib.ListN.{length, drop}
use borrow.Author.Tests.{lt-ltb, le-ltb, ltb-false, not-false}
use Rattle.pieces.specs.Board.{good}
use Rattle.calls.specs.Refusals.{applies, refuse_if, asked_output, slot_may, change_may, open_check, slot_check, good_check, change_check, and_then}
use Rattle.calls.specs.Answers.{answered}
use Rattle.calls.specs.Results.{if_clear}
use Rattle.calls.specs.declared.Drive.{Drive}
use Rattle.calls.specs.declared.Refusal.{Refusal}
use Rattle.calls.specs.declared.Refusal.TheVariants.{Capacity, Short, Position, Damaged, Output, Block}
use Rattle.calls.specs.Types.{Check}
use Rattle.std.specs.Prelude.{Ok, Err}
use Rattle.calls.proofs.Laws.{first_next, first_clear, then_clear, refuse_clear, Passed, passed}
use Rattle.sheets.specs.Sheet.{blocks, capacity_in}
use Rattle.sheets.specs.Forms.{Form, saving_by, saving_answer, size_of, room_check, saving_check, block_check, head_check, sheet_check, reading_check, loaded_board_as}
use Rattle.sheets.specs.Results.{save_check, piece_form, save_pieces_may}

pub block_clear : (b : Bool) → block_check b ≡ Ok tt → b ≡ false
unfolding block_check
block_clear true e = let z : ◌≡◌ {A = ℕ} 0 1 = cc in absurd (omega arith)
block_clear false e = refl

pub clear_block : block_check false ≡ Ok tt
unfolding block_check
clear_block = refl

pub refused_block : block_check true ≡ Err Block
unfolding block_check
refused_block = refl

-- an answer by what the checks find, in number and values
pub saving_told : (k : Check) (n : ℕ) → saving_answer (saving_by k n) ≡ answered k (n ∷ [])
saving_told (Ok tt) n = refl
saving_told (Err r) n = refl

-- the test that a board is good, as a check
module _ (C : ℕ) (B : List ℕ) where
  pub good_check_lem : good C B ≡ true → good_check C B ≡ Ok tt
  unfolding good_check
  good_check_lem g = rw g

  pub bad_check : good C B ≡ false → good_check C B ≡ Err Damaged
  unfolding good_check
  bad_check g = rw g

  pub check_good : good_check C B ≡ Ok tt → good C B ≡ true
  unfolding good_check
  check_good e = sound (good C B) e
    where
      sound : (b : Bool) → refuse_if (not b) Damaged (Ok tt) ≡ Ok tt → b ≡ true
      sound true e = refl
      sound false e = let z : ◌≡◌ {A = ℕ} 0 1 = cc in absurd (omega arith)

-- save is what every change asks, and then room
module _ (d : Drive) (B : List ℕ) (n : ℕ) where
  pub save_parts : save_check d B n ≡ and_then (change_check d B) (room_check n (512 * blocks d.capacity))
  unfolding saving_check change_check
  save_parts = first_next change_may (Output ∷ []) (asked_output d B n (512 * blocks d.capacity))

  -- what is known once save's checks find nothing
  pub save_change : save_check d B n ≡ Ok tt → change_check d B ≡ Ok tt
  save_change e = first_clear (change_check d B) (room_check n (512 * blocks d.capacity)) (sym save_parts ∙ e)

  pub save_room : save_check d B n ≡ Ok tt → 512 * blocks d.capacity ≤ n
  save_room e =
      let room = then_clear (change_check d B) (room_check n (512 * blocks d.capacity)) (sym save_parts ∙ e) in
      ltb-false n (512 * blocks d.capacity) (refuse_clear (ltb n (512 * blocks d.capacity)) Output (Ok tt) room).0

-- save of the piece form, one part after the other
module _ (d : Drive) (B : List ℕ) (n : ℕ) where
  pub entry_parts : saving_check piece_form d B n ≡ and_then (and_then (slot_check d B) (good_check d.capacity B)) (room_check n (size_of piece_form d B))
  unfolding saving_check slot_check good_check
  entry_parts = first_next (Capacity ∷ Short ∷ Position ∷ Damaged ∷ []) (Output ∷ []) (asked_output d B n (size_of piece_form d B))
      ∙ ap (λ (k : Check). and_then k (room_check n (size_of piece_form d B)))
      (first_next slot_may (Damaged ∷ []) (asked_output d B n (size_of piece_form d B)))

  pub entry_slot : saving_check piece_form d B n ≡ Ok tt → slot_check d B ≡ Ok tt
  entry_slot e = first_clear (slot_check d B) (good_check d.capacity B) (first_clear (and_then (slot_check d B) (good_check d.capacity B)) _ (sym entry_parts ∙ e))

  pub entry_good : saving_check piece_form d B n ≡ Ok tt → good d.capacity B ≡ true
  unfolding saving_check Passed applies
  entry_good e = not-false (good d.capacity B) (passed save_pieces_may (asked_output d B n (size_of piece_form d B)) e).1.1.1.0

  pub entry_room : saving_check piece_form d B n ≡ Ok tt → size_of piece_form d B ≤ n
  unfolding saving_check Passed applies
  entry_room e = ltb-false n (size_of piece_form d B) (passed save_pieces_may (asked_output d B n (size_of piece_form d B)) e).1.1.1.1.0

-- a sheet that read accepts
pub record Readable (F : Form) (s B : List ℕ) : Type 0 where
  pub long : 512 ≤ length s
  pub fitting : open_check (capacity_in s) B ≡ Ok tt
  pub keeps : F.laid (capacity_in s) s ≡ true
  pub good : good_check (capacity_in s) (F.leaves (capacity_in s) s) ≡ Ok tt

module _ (s B : List ℕ) where
  pub head_long : head_check s B ≡ Ok tt → 512 ≤ length s
  unfolding head_check
  head_long e = ltb-false (length s) 512 (block_clear (ltb (length s) 512) (first_clear (block_check (ltb (length s) 512)) (open_check (capacity_in s) B) e))

  pub head_open : head_check s B ≡ Ok tt → open_check (capacity_in s) B ≡ Ok tt
  unfolding head_check
  head_open e = then_clear (block_check (ltb (length s) 512)) (open_check (capacity_in s) B) e

  -- the first checks, one after the other
  pub head_short : length s < 512 → Err Block ≡ head_check s B
  unfolding head_check
  head_short h = rw (lt-ltb (length s) 512 h, refused_block)

  pub head_next : 512 ≤ length s → head_check s B ≡ open_check (capacity_in s) B
  unfolding head_check
  head_next h = rw (le-ltb (length s) 512 h, clear_block)

module _ (F : Form) (s B : List ℕ) where
  pub clear_read : reading_check F s B ≡ Ok tt → Readable F s B
  unfolding reading_check
  clear_read e =
      let C = capacity_in s in
      let last = good_check C (F.leaves C s) in
      let later = and_then (block_check (not (F.laid C s))) last in
      let head = first_clear (head_check s B) later e in
      let rest = then_clear (head_check s B) later e in
      record {
        long = head_long s B head;
        fitting = head_open s B head;
        keeps = not-false (F.laid C s) (block_clear (not (F.laid C s)) (first_clear (block_check (not (F.laid C s))) last rest));
        good = then_clear (block_check (not (F.laid C s))) last rest;
      }

  pub read_clear : Readable F s B → reading_check F s B ≡ Ok tt
  unfolding reading_check
  read_clear r = rw (head_next s B r.long, r.fitting, r.keeps, clear_block) r.good

  -- read, one check after the other
  module _ (r : Check) (head : r ≡ head_check s B) where
    pub read_unfit : (x : Refusal) → r ≡ Err x → Err x ≡ reading_check F s B
    unfolding reading_check
    read_unfit x e = rw (← head, e)

    -- what the sheet holds is looked at next
    pub read_rest : (g : Check) (c : ℕ) → r ≡ Ok tt → c ≡ capacity_in s → g ≡ sheet_check F c s → g ≡ reading_check F s B
    unfolding reading_check
    read_rest g c clear is h = rw (← head, clear, ← is) h

  -- and what is then in the lent board
  pub read_kept : (x : Refusal) → Err x ≡ reading_check F s B → (Err x ≡ reading_check F s B) × (B ≡ loaded_board_as F s B)
  read_kept x e = (e, rw (← e) refl)

  pub read_set : (c : ℕ) (g : Check) (E : List ℕ) → c ≡ capacity_in s → g ≡ reading_check F s B → E ≡ if_clear g (F.leaves c s ++ drop c B) B
      → (g ≡ reading_check F s B) × (E ≡ loaded_board_as F s B)
  read_set c g E is h e = (h, rw (← is, ← h) e)
