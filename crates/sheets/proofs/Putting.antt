-- A board's sheet put into an output, and what save makes of it. Assumes nothing.
use mathlib.Core.Path.{◌≡◌, refl, sym, ap, ◌∙◌}
use mathlib.Core.Bool.{Bool, true, false}
use mathlib.Core.List.{List, ◌++◌}
use Prim.Native.Nat.{ℕ, ◌*◌, ◌≤◌}
use lib.ListN.{length, get_or, take, drop, replicate, length-replicate}
use lib.Seq.{sets, take-length, length-take-le}
use Rattle.pieces.specs.Board.{good}
use Rattle.pieces.specs.Listing.{named_pieces}
use Rattle.calls.specs.Refusals.{good_check}
use Rattle.calls.specs.Results.{if_clear}
use Rattle.calls.specs.declared.Refusal.TheVariants.{Damaged, Block}
use Rattle.calls.specs.Types.{Check}
use Rattle.std.specs.Prelude.{Ok, Err}
use Rattle.sheets.specs.Types.{Saving}
use Rattle.sheets.specs.Blocks.{bytes_of, block, stack}
use Rattle.sheets.specs.Sheet.{blocks, leaf_or_zero, page, sheet}
use Rattle.sheets.specs.Entries.{entry_blocks, entry_bytes, entry_sheet}
use Rattle.sheets.specs.Forms.{Form, Puts, Holds, saving_by, room_check, sheet_check}
use Rattle.sheets.specs.Results.{leaf_form, piece_form}
use Rattle.sheets.specs.Lawful.{leaves_held}
use Rattle.sheets.proofs.Spelling.{listed_taken}
use Rattle.sheets.proofs.Checked.{good_check_lem, bad_check, clear_block, refused_block}

lent_leaf : (C : ℕ) (B : List ℕ) → leaf_or_zero (length (take C B)) (take C B) ≡ leaf_or_zero C B
unfolding leaf_or_zero
lent_leaf C B = ap {B = ℕ → ℕ} (λ (L : List ℕ). λ (i : ℕ). get_or L i 0) (take-length (take C B))

-- the sheet of a board's leaves, and of a list that starts with its pieces, as they are put
pub leaves_put : (C : ℕ) (B O : List ℕ) → C ≤ length B → (r : Saving) (E : List ℕ) → let n = length (take C B) in r ≡ saving_by (room_check (length O) (512 * blocks n)) (512 * blocks n)
    → E ≡ if_clear (room_check (length O) (512 * blocks n)) (bytes_of (stack (λ (b : ℕ). block b C (leaves_held 1 (take C B) b)) 0 (blocks n)) ++ drop (512 * blocks n) O) O
    → Puts leaf_form C 1 B O r E
unfolding sheet page
leaves_put C B O h r E a w =
    let n : length (take C B) ≡ C = length-take-le C B h in
    (rw n at a, w ∙ rw (lent_leaf C B, n) refl)

pub pieces_put : (C p n : ℕ) (B O l L : List ℕ) → n ≡ length (named_pieces C B) → l ≡ replicate 12288 0 → n ≤ 12288 → L ≡ sets l 0 (named_pieces C B)
    → (r : Saving) (E : List ℕ) → let m = entry_blocks (length (take n L)) in r ≡ saving_by (room_check (length O) (512 * m)) (512 * m)
    → E ≡ if_clear (room_check (length O) (512 * m)) (entry_bytes C p (length (take n L)) (take n L) ++ drop (512 * m) O) O → Puts piece_form C p B O r E
unfolding entry_sheet
pieces_put C p n B O l L list_is z few e r E a w =
    let listed : take n L ≡ named_pieces C B = listed_taken l L (named_pieces C B) n list_is (rw (z, length-replicate {A = ℕ} 12288 0) few) e in
    (rw listed at a, w ∙ rw listed refl)

-- ---- what a sheet holds, D, read and tested, of which the lent board B is made E

module _ (F : Form) (C : ℕ) (s B : List ℕ) (k : Bool) (layout : k ≡ F.laid C s) where
  pub holds_broken : k ≡ false → Holds F C s B (Err Block) B
  holds_broken e = (rw (← layout, e, refused_block) refl, refl)

  module _ (D : List ℕ) (kept : k ≡ true) (leaves : k ≡ true → D ≡ F.leaves C s) where
    tested : (g : Check) → good_check C D ≡ g → g ≡ sheet_check F C s
    tested g e = rw (← layout, kept, clear_block, ← leaves kept) (sym e)

    pub holds_bad : good C D ≡ false → Holds F C s B (Err Damaged) B
    holds_bad e = (tested (Err Damaged) (bad_check C D e), refl)

    pub holds_good : good C D ≡ true → (E : List ℕ) → E ≡ D ++ drop C B → Holds F C s B (Ok tt) E
    holds_good e E w = (tested (Ok tt) (good_check_lem C D e), w ∙ rw (leaves kept) refl)
