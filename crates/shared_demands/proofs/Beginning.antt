-- What an open and a read of either form of sheet with tables leave, once they are done, is what a history may begin with: both drives are given the record
-- that they return. Assumes nothing.
use mathlib.Core.Path.{◌≡◌, refl, ◌∙◌}
use mathlib.Core.Bool.{true}
use mathlib.Core.List.{List, [], ◌∷◌, ◌++◌}
use Prim.Native.Nat.{ℕ}
use native.Mathlib.Omega.{arith}
use lib.ListN.{length, drop}
use Rattle.pieces.specs.Board.{good}
use Rattle.std.specs.Prelude.{Ok}
use Rattle.calls.specs.Records.{drive_at}
use Rattle.calls.specs.Refusals.{open_check, slot_check}
use Rattle.calls.specs.Results.{idle_board}
use Rattle.calls.proofs.Laws.{first_clear, then_clear, open_clear, open_sized, slot_parts, slot_first}
use Rattle.sheets.specs.Sheet.{capacity_in, sheet_leaves}
use Rattle.sheets.specs.Entries.{position_in, spelled}
use Rattle.sheets.specs.Results.{leaf_form, piece_form}
use Rattle.sheets.proofs.Laws.{read_sized, read_good, read_pieces_sized, read_pieces_good, read_pieces_position}
use Rattle.tables.proofs.Laws.{zero_intro, cleared_length, cleared_zero, cleared_fits}
use Rattle.demands.proofs.Laws.{opened}
use Rattle.waiting.specs.Layout.{emptied}
use Rattle.waiting.proofs.Laws.{empty_length}
use Rattle.shares.specs.States.{BoardTables}
use Rattle.share_boards.specs.Opening.{lent_check, opening_check, reading_check_as, reading_check, cleared, opened_state, opened_list, loaded_state, loaded_list}
use Rattle.share_boards.specs.Opening as opening
use Rattle.share_boards.proofs.Laws.{lent_long, loads_accepts}
use Rattle.shared_demands.specs.Holding.{Ready}
use Rattle.shared_demands.proofs.Checking.{lent_share}

-- a good board D of C leaves, both drives at p, the tables cleared and the list emptied
begun : (C p : ℕ) (D : List ℕ) (t : BoardTables) (L : List ℕ) → slot_check (drive_at C p) D ≡ Ok tt → good C D ≡ true → lent_check C t (length L) ≡ Ok tt
    → Ready (record { own = drive_at C p; other = drive_at C p; state = cleared C D t; list = emptied L })
begun C p D t L slot fine e =
    let long = lent_long C t (length L) e in
    record {
      clear = lent_share (drive_at C p) (drive_at C p) (cleared C D t) (length (emptied L)) (record {
        own = slot;
        other = slot;
        same = refl;
        long = let n = empty_length L in let l = long.0 in omega arith;
        rates = let n = cleared_length C t.rates in let l = long.1 in omega arith;
        owed = let n = cleared_length C t.owed in let l = long.2 in omega arith;
        others = let n = cleared_length C t.other in let l = long.3 in omega arith;
        fit = cleared_fits C D t.rates (t.owed ∷ t.other ∷ []) fine;
      });
      none = zero_intro (cleared C D t).rates C (cleared_zero C t.rates);
    }

-- a slot at the start of a round
module _ (t : BoardTables) (L : List ℕ) where
  pub open_ready : (C : ℕ) → opening_check C t (length L) ≡ Ok tt
      → Ready (record { own = (opening.opened C t (length L)).drive; other = (opening.opened C t (length L)).drive; state = opened_state C t (length L); list = opened_list C t L })
  unfolding opening_check
  open_ready C e =
      let z = open_clear C t.board (first_clear (open_check C t.board) (lent_check C t (length L)) e) in
      let o = opened C t.board (record { some = z.some; few = z.few; long = z.long }) in
      let long = then_clear (open_check C t.board) (lent_check C t (length L)) e in
      let D = idle_board C t.board in
      rw e (begun C 1 D t L (slot_first C D (record { some = z.some; few = z.few; long = o.valid.long })) o.fine long)

  pub read_ready : (S : List ℕ) → reading_check S t (length L) ≡ Ok tt
      → Ready (record { own = (opening.loaded S t (length L)).drive; other = (opening.loaded S t (length L)).drive; state = loaded_state S t (length L); list = loaded_list S t L })
  read_ready S e =
      let C = capacity_in S in
      let D = sheet_leaves C S ++ drop C t.board in
      let a = loads_accepts leaf_form S t L e in
      rw e (begun C 1 D t L (slot_first C D (read_sized S t.board a.0)) (read_good S t.board a.0) a.1)

  -- with the position that the sheet has
  pub read_pieces_ready : (S : List ℕ) → reading_check_as piece_form S t (length L) ≡ Ok tt
      → Ready (record { own = (opening.loaded_as piece_form S t (length L)).drive; other = (opening.loaded_as piece_form S t (length L)).drive; state = opening.loaded_state_as piece_form S t (length L); list = opening.loaded_list_as piece_form S t L })
  read_pieces_ready S e =
      let C = capacity_in S in
      let D = spelled C S ++ drop C t.board in
      let a = loads_accepts piece_form S t L e in
      let slot : slot_check (drive_at C (position_in S)) D ≡ (Ok tt) =
      slot_parts (drive_at C (position_in S)) D ∙ rw (open_sized C D (read_pieces_sized S t.board a.0)) (read_pieces_position S t.board a.0) in
      rw e (begun C (position_in S) D t L slot (read_pieces_good S t.board a.0) a.1)
