-- What is held stands on the board, whatever calls are made: after any calls, opens and reads among them, the board is good and has on it what is held.
-- Assumes nothing.
use mathlib.Core.Path.{◌≡◌, refl, sym, subst, ◌∙◌}
use mathlib.Core.Bool.{Bool, true, false}
use mathlib.Core.List.{List, ◌++◌}
use Prim.Native.Nat.{ℕ, zero, suc, ◌+◌, ◌≤◌}
use native.Mathlib.Omega.{arith}
use lib.Dec.{eqb}
use lib.ListN.{length, get_or, drop}
use borrow.Author.Tests.{ne_eqb, eqb-true}
use Rattle.general.proofs.Laws.{by_bool}
use Rattle.pieces.specs.Board.{weight}
use Rattle.calls.specs.declared.Drive.{Drive}
use Rattle.std.specs.Prelude.{Ok, Err}
use Rattle.calls.specs.Records.{drive_at}
use Rattle.calls.specs.Results.{idle_board}
use Rattle.calls.proofs.Laws.{is_clear_lem, open_clear, open_sized, slot_parts, either_length, slot_first}
use Rattle.sheets.specs.Sheet.{capacity_in, sheet_leaves}
use Rattle.sheets.specs.Entries.{position_in, spelled}
use Rattle.sheets.proofs.Laws.{read_sized, read_good, read_pieces_sized, read_pieces_good, read_pieces_position}
use Rattle.demands.specs.Histories.{State, log}
use Rattle.pieces.specs.Streams.{Stream, held_of, total}
use Rattle.demands.specs.Holdings.{held_from}
use Rattle.demands.proofs.Laws.{state_at, Sound, opened, reached, slot_clear, clear_valid}
use Rattle.waiting.specs.declared.Order.{Order}
use Rattle.waiting.specs.Layout.{waiting, taken_list, emptied}
use Rattle.waiting.specs.Carrying.{outcomes}
use Rattle.waiting.proofs.Laws.{take_length, run_length, fetch_length, empty_length}
use Rattle.orders.specs.Types.{Way}
use Rattle.orders.specs.declared.Moment.TheVariants as moment
use Rattle.orders.specs.Results.{add_order, remove_order, doing, saying, list_by, ran_list, list_if, list_then}
use Rattle.orders.proofs.Laws.{lent_open, read_accepts, read_pieces_accepts}
use Rattle.amended.specs.Deeds.{Sheets, Leaves, Pieces, Deed, Opens, Reads, Adds, Removes, Slots, Rounds, Reports, Saves, Fetches, Refreshes, Desk, open_checks, read_checks, first_checks, way_at, leaves, leaves_all, list_after, restarts, stands_for}
use Rattle.amended.specs.Holding.{on_leaves, on_board, held_next, held_through, Ready}
use Rattle.amended.proofs.Projection.{projected_one}
use Rattle.amended.proofs.Projecting as projecting

-- ---- the streams of a board, leaf by leaf

module _ (B : List ℕ) where
  leaves_of : (x n : ℕ) → (x ≡ 0 → ⊥) → held_of x (on_leaves B n) ≡ weight n B x
  unfolding held_of on_leaves weight
  leaves_of x zero named = refl
  leaves_of x (suc n) named =
      let ih = leaves_of x n named in
      by_bool (eqb (get_or B n 0) 0)
      (λ t. let z : get_or B n 0 ≡ 0 = eqb-true (get_or B n 0) 0 t in rw (z, ne_eqb 0 x (λ e. named (sym e))) (omega arith))
      (λ f. rw f (by_bool (eqb (get_or B n 0) x) (λ t. rw t (omega arith)) (λ g. rw g (omega arith))))

  leaves_idle : (n : ℕ) → weight n B 0 + total (on_leaves B n) ≡ n
  unfolding total on_leaves weight
  leaves_idle zero = refl
  leaves_idle (suc n) =
      let ih = leaves_idle n in
      by_bool (eqb (get_or B n 0) 0) (λ t. rw t (omega arith)) (λ f. rw f (omega arith))

  leaves_nameless : (n : ℕ) → held_of 0 (on_leaves B n) ≡ 0
  unfolding held_of on_leaves
  leaves_nameless zero = refl
  leaves_nameless (suc n) =
      let ih = leaves_nameless n in
      by_bool (eqb (get_or B n 0) 0) (λ t. rw t ih) (λ f. rw (f, f) (omega arith))

-- A desk to begin with has on its board what is on it.
pub ready_sound : (s : Desk) → Ready s → Sound s.state (on_board s.state)
ready_sound s is = record {
  valid = clear_valid s.state is.clear;
  fine = is.fine;
  idle = leaves_idle s.state.board s.state.drive.capacity;
  names = λ x named. sym (leaves_of s.state.board x s.state.drive.capacity named);
  nameless = leaves_nameless s.state.board s.state.drive.capacity;
}

-- ---- the list keeps its length

pub by_way : (L : List ℕ) (o : Order) (k : Way) → length (list_by k (taken_list L o) L) ≡ length L
by_way L o (Err r) = refl
by_way L o (Ok moment.Later) = take_length L o
by_way L o (Ok moment.Now) = refl

pub if_length : (begins : Bool) (d : Drive) (B L : List ℕ) → length (list_if begins d B L) ≡ length L
unfolding ran_list
if_length true d B L = run_length L (outcomes (doing d) (saying d) B (waiting L))
if_length false d B L = refl

pub list_length : (a : Deed) (s : Desk) → length (list_after a s) ≡ length s.list
unfolding list_then
list_length (Opens C) s = either_length (open_checks s C) (emptied s.list) s.list (empty_length s.list)
list_length (Reads form S) s = either_length (read_checks s form S) (emptied s.list) s.list (empty_length s.list)
list_length (Adds x w) s = by_way s.list (add_order x w) (way_at (add_order x w) s)
list_length (Removes x) s = by_way s.list (remove_order x) (way_at (remove_order x) s)
list_length Slots s = either_length (first_checks s) (list_then s.state.drive s.state.board s.list) s.list (if_length (eqb s.state.drive.position 1) s.state.drive s.state.board s.list)
list_length (Rounds O) s = refl
list_length (Reports x) s = refl
list_length (Saves form O) s = refl
list_length Refreshes s = refl
list_length (Fetches t) s = fetch_length s.list t

-- ---- an open or a read that is done leaves a desk to begin with

opened_ready : (s : Desk) (C : ℕ) → 259 ≤ length s.list → open_checks s C ≡ Ok tt → Ready (leaves (Opens C) s)
opened_ready s C l e =
    let z = open_clear C s.state.board (lent_open C s.state.board (length s.list) e) in
    let o = opened C s.state.board (record { some = z.some; few = z.few; long = z.long }) in
    record {
      clear = rw e (slot_clear (state_at (drive_at C 1) (idle_board C s.state.board)) o.valid);
      fine = rw e o.fine;
      long = let n = list_length (Opens C) s in omega arith;
    }

read_ready : (s : Desk) (form : Sheets) (S : List ℕ) → 259 ≤ length s.list → read_checks s form S ≡ Ok tt → Ready (leaves (Reads form S) s)
read_ready s Leaves S l e =
    let a = (read_accepts S s.state.board s.list e).1 in
    record {
      clear = rw e (slot_first (capacity_in S) (sheet_leaves (capacity_in S) S ++ drop (capacity_in S) s.state.board) (read_sized S s.state.board a));
      fine = rw e (read_good S s.state.board a);
      long = let n = list_length (Reads Leaves S) s in omega arith;
    }
read_ready s Pieces S l e =
    let a = (read_pieces_accepts S s.state.board s.list e).1 in
    let C = capacity_in S in
    let B = spelled C S ++ drop C s.state.board in
    record {
      clear = rw e (slot_parts (drive_at C (position_in S)) B ∙ rw (open_sized C B (read_pieces_sized S s.state.board a)) (read_pieces_position S s.state.board a));
      fine = rw e (read_pieces_good S s.state.board a);
      long = let n = list_length (Reads Pieces S) s in omega arith;
    }

pub restart_ready : (a : Deed) (s : Desk) → 259 ≤ length s.list → restarts a s ≡ true → Ready (leaves a s)
restart_ready (Opens C) s l e = opened_ready s C l (is_clear_lem (open_checks s C) e)
restart_ready (Reads form S) s l e = read_ready s form S l (is_clear_lem (read_checks s form S) e)
restart_ready (Adds x w) s l e = cc
restart_ready (Removes x) s l e = cc
restart_ready Slots s l e = cc
restart_ready (Rounds O) s l e = cc
restart_ready (Reports x) s l e = cc
restart_ready Refreshes s l e = cc
restart_ready (Saves form O) s l e = cc
restart_ready (Fetches t) s l e = cc

-- ---- any calls

-- The list is long enough, and what is held stands on the board.
pub record Standing (hs : List Stream) (s : Desk) : Type 0 where
  pub sound : Sound s.state hs
  pub long : 259 ≤ length s.list

pub standing_next : (hs : List Stream) (a : Deed) (s : Desk) → Standing hs s → Standing (held_next hs a s) (leaves a s)
standing_next hs a s is =
    let l = is.long in
    record {
      sound = by_bool (restarts a s)
          (λ t. rw t (ready_sound (leaves a s) (restart_ready a s l t)))
          (λ f. rw f (subst (λ (t : State). Sound t (held_from hs (log s.state (stands_for a s)))) (sym (projected_one a s f)) (reached s.state hs is.sound (stands_for a s))));
      long = let n = list_length a s in omega arith;
    }

pub standing : (s : Desk) → Ready s → (deeds : List Deed) → Standing (held_through (on_board s.state) s deeds) (leaves_all s deeds)
standing s is deeds = projecting.ever leaves held_next Standing standing_next (on_board s.state) s (record { sound = ready_sound s is; long = is.long }) deeds
