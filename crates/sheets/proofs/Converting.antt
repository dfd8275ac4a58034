-- What a conversion makes of the sheet that it reads, and that there and back gives the same sheet. Assumes nothing.
use mathlib.Core.Path.{◌≡◌, refl, sym, ap, ◌∙◌}
use mathlib.Core.Bool.{true}
use mathlib.Core.List.{List, ◌++◌}
use Prim.Native.Nat.{ℕ, ◌≤◌, ◌<◌}
use native.Mathlib.Omega.{arith}
use lib.ListN.{length, take, drop, replicate}
use lib.Seq.{take_at, take_all}
use borrow.Author.Tests.{le-ltb, eq-eqb}
use Rattle.pieces.specs.Board.{good}
use Rattle.calls.specs.Refusals.{and_then}
use Rattle.calls.specs.Results.{if_clear}
use Rattle.calls.specs.declared.Refusal.{Refusal}
use Rattle.calls.specs.Types.{Check}
use Rattle.std.specs.Prelude.{Ok, Err}
use Rattle.calls.proofs.Laws.{Sized, first_clear, open_clear}
use Rattle.sheets.specs.Types.{Saving}
use Rattle.sheets.specs.Blocks.{Bytes, Words}
use Rattle.sheets.specs.Sheet.{capacity_in}
use Rattle.sheets.specs.Forms.{Form, Puts, room_check, saving_by, saving_answer, reading_check, loaded_board_as}
use Rattle.sheets.specs.Conversions.{spare, at_start, board_from, size_from, convert_check, converted, converted_output, Converts}
use Rattle.sheets.proofs.Checked.{saving_told, Readable, clear_read, read_clear, check_good}
use Rattle.sheets.proofs.Trips.{Exact, saving_done, trip_readable}

-- the position at which the leaf form is written
pub at_start_lem : (p q : ℕ) → p ≡ q → p ≡ 1 → at_start q ≡ Ok tt
at_start_lem p q e h = rw (← e, eq-eqb p 1 h) refl

-- what was read to idle entries l, by what its checks found
module _ (F : Form) (s l : List ℕ) (k : Check) (idle : l ≡ replicate 4095 0) (found : k ≡ reading_check F s l) where
  spare_check : reading_check F s spare ≡ k
  unfolding spare
  spare_check = sym (found ∙ ap (reading_check F s) idle)

  spare_board : board_from F s ≡ loaded_board_as F s l
  unfolding spare
  spare_board = ap (loaded_board_as F s) (sym idle)

  pub converts_not : (G : Form) (at : ℕ → Check) (O : List ℕ) (x : Refusal) → k ≡ Err x → Converts F G at s O (Err x) O
  unfolding convert_check
  converts_not G at O x e = rw (spare_check ∙ e) (refl, refl, refl)

  module _ (clear : k ≡ Ok tt) where
    pub read_sized : Readable F s l × Sized (capacity_in s) l
    read_sized = let r = clear_read F s l (sym found ∙ clear) in (r, open_clear (capacity_in s) l r.fitting)

    pub converts_away : (G : Form) (at : ℕ → Check) (O : List ℕ) (x : Refusal) → at (F.position s) ≡ Err x → Converts F G at s O (Err x) O
    unfolding convert_check
    converts_away G at O x e = rw (spare_check ∙ clear, e) (refl, refl, refl)

    pub converts_all : (G : Form) (at : ℕ → Check) (O : List ℕ) (c p : ℕ) (D : List ℕ) (a : Saving) (E : List ℕ) → c ≡ capacity_in s → p ≡ F.position s → D ≡ loaded_board_as F s l
        → at (F.position s) ≡ Ok tt → Puts G c p D O a E → Converts F G at s O a E
    unfolding convert_check
    converts_all G at O c p D a E is_c is_p is_d e w =
        let board : board_from F s ≡ D = spare_board ∙ sym is_d in
        let check : convert_check F G at s (length O) ≡ room_check (length O) (G.size c D) =
        rw (spare_check ∙ clear, e) (ap (λ (m : ℕ). room_check (length O) m) size)
        in
        let is : a ≡ converted F G at s O = w.0 ∙ sym (ap (λ (q : Check). saving_by q (size_from F G s)) check ∙ ap (saving_by (room_check (length O) (G.size c D))) size) in (
          is,
          ap saving_answer is ∙ saving_told (convert_check F G at s (length O)) (size_from F G s),
          w.1 ∙ sym (ap (λ (q : Check). if_clear q (G.sheet (capacity_in s) (F.position s) (board_from F s) ++ drop (size_from F G s) O) O) check
              ∙ ap (λ (q : List ℕ). if_clear (room_check (length O) (G.size c D)) q O) (
              ap (λ (n : ℕ). G.sheet n (F.position s) (board_from F s) ++ drop (G.size n (board_from F s)) O) (sym is_c)
              ∙ ap (λ (n : ℕ). G.sheet c n (board_from F s) ++ drop (G.size c (board_from F s)) O) (sym is_p)
              ∙ ap (λ (M : List ℕ). G.sheet c p M ++ drop (G.size c M) O) board)),
        )
      where
        size : size_from F G s ≡ G.size c D
        size = ap (λ (n : ℕ). G.size n (board_from F s)) (sym is_c) ∙ ap (G.size c) (spare_board ∙ sym is_d)

-- ---- there and back

-- A sheet that converts converts back to the very same bytes, where its own form is written at its position: so the board, C and p are the same.
module _ (F G : Form) (At Bt : ℕ → ℕ → Type 0) (x : Exact F At) (y : Exact G Bt) (at bt : ℕ → Check) where
  module _ (s O P : List ℕ) (n : ℕ) (bytes : Bytes s) (words : Words (F.leaves (capacity_in s) s)) (done : converted F G at s O ≡ Ok n)
      (onward : 0 < capacity_in s → At (capacity_in s) (F.position s) → Bt (capacity_in s) (F.position s)) (start : bt (F.position s) ≡ Ok tt) (room : length s ≤ length P) where
    conversion_clear : convert_check F G at s (length O) ≡ Ok tt
    conversion_clear = (saving_done (convert_check F G at s (length O)) (size_from F G s) n done).0

    was_read : reading_check F s spare ≡ Ok tt
    unfolding convert_check
    was_read = first_clear (reading_check F s spare) (and_then (at (F.position s)) (room_check (length O) (size_from F G s))) conversion_clear

    readable : Readable F s spare
    readable = clear_read F s spare was_read

    lent : Sized (capacity_in s) spare
    lent = open_clear (capacity_in s) spare readable.fitting

    leaves_sized : Sized (capacity_in s) (F.leaves (capacity_in s) s)
    leaves_sized = record { some = lent.some; few = lent.few; long = omega (arith, x.spelled (capacity_in s) s) }

    -- what is written is the other form's sheet of the leaves read
    over : List ℕ
    over = G.sheet (capacity_in s) (F.position s) (F.leaves (capacity_in s) s)

    written : take n (converted_output F G at s O) ≡ over
    unfolding over
    written =
        let C = capacity_in s in
        let p = F.position s in
        let L = F.leaves C s in
        let board = board_from F s in
        let is : board ≡ L ++ drop C spare = rw was_read refl in
        let same : G.sheet C p board ≡ G.sheet C p L =
        y.taken C p board L (ap (take C) is ∙ take_at L (drop C spare) C (x.spelled C s) ∙ sym (take_all C L (omega (arith, x.spelled C s))))
        in
        let size = (saving_done (convert_check F G at s (length O)) (size_from F G s) n done).1 in
        rw conversion_clear (take_at (G.sheet C p board) (drop (size_from F G s) O) n (y.long C p board ∙ size) ∙ same)

    bound : Bt (capacity_in s) (F.position s)
    bound = onward lent.some (x.at (capacity_in s) s readable.keeps)

    sound : good (capacity_in s) (F.leaves (capacity_in s) s) ≡ true
    sound = check_good (capacity_in s) (F.leaves (capacity_in s) s) readable.good

    over_read : reading_check G over spare ≡ Ok tt
    unfolding over
    over_read = read_clear G over spare (trip_readable G Bt y (capacity_in s) (F.position s) (F.leaves (capacity_in s) s) spare words leaves_sized sound bound lent.long)

    over_capacity : capacity_in over ≡ capacity_in s
    unfolding over
    over_capacity = y.capacity (capacity_in s) (F.position s) (F.leaves (capacity_in s) s) leaves_sized words bound

    over_position : G.position over ≡ F.position s
    unfolding over
    over_position = y.position (capacity_in s) (F.position s) (F.leaves (capacity_in s) s) leaves_sized words bound

    over_board : board_from G over ≡ take (capacity_in s) (F.leaves (capacity_in s) s) ++ drop (capacity_in s) spare
    unfolding over
    over_board = rw (over_read, over_capacity, y.leaves (capacity_in s) (F.position s) (F.leaves (capacity_in s) s) leaves_sized words bound) refl

    again : F.sheet (capacity_in s) (F.position s) (board_from G over) ≡ s
    again =
        let C = capacity_in s in
        let p = F.position s in
        let L = F.leaves C s in
        let whole : take C L ≡ L = take_all C L (omega (arith, x.spelled C s)) in
        x.taken C p (board_from G over) L (ap (take C) over_board ∙ take_at (take C L) (drop C spare) C (ap length whole ∙ x.spelled C s))
        ∙ sym (x.only C s bytes readable.keeps)

    again_size : size_from G F over ≡ length s
    again_size =
        ap (λ (c : ℕ). F.size c (board_from G over)) over_capacity ∙ sym (x.long (capacity_in s) (F.position s) (board_from G over)) ∙ ap length again

    again_clear : convert_check G F bt over (length P) ≡ Ok tt
    unfolding convert_check
    again_clear = rw (over_read, over_position, start) (ap (λ (m : ℕ). room_check (length P) m) again_size ∙ rw (le-ltb (length P) (length s) room) refl)

    pub there_and_back :
        (converted G F bt (take n (converted_output F G at s O)) P ≡ Ok (length s))
        × (converted_output G F bt (take n (converted_output F G at s O)) P ≡ s ++ drop (length s) P)
    there_and_back = rw (written, again_clear) (
      ap (saving_by (Ok tt)) again_size,
      ap (λ (c : ℕ). F.sheet c (G.position over) (board_from G over) ++ drop (F.size c (board_from G over)) P) over_capacity
          ∙ ap (λ (p : ℕ). F.sheet (capacity_in s) p (board_from G over) ++ drop (F.size (capacity_in s) (board_from G over)) P) over_position
          ∙ ap (λ (q : List ℕ). q ++ drop (F.size (capacity_in s) (board_from G over)) P) again
          ∙ ap (λ (m : ℕ). s ++ drop m P) (sym (x.long (capacity_in s) (F.position s) (board_from G over)) ∙ ap length again),
    )
