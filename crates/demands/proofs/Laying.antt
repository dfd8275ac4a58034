-- Streams laid on idle leaves are adds to an opened board, every one of them done; a fresh layout is such, and hangs on what is held alone.
-- Assumes nothing.
use mathlib.Core.Path.{◌≡◌, refl, sym, ap, subst, ◌∙◌}
use mathlib.Core.List.{List, [], ◌∷◌}
use Prim.Native.Nat.{ℕ, ◌<◌}
use lib.ListN.{get_or}
use Rattle.pieces.specs.Board.{weight}
use Rattle.pieces.specs.Placing.{placed}
use Rattle.pieces.specs.Fresh.{all_placed, Placeables, idle, streams, fresh}
use Rattle.pieces.proofs.Laws.{fresh_placeable}
use Rattle.calls.specs.declared.Drive.{Drive}
use Rattle.std.specs.Prelude.{Ok}
use Rattle.calls.specs.Records.{drive_at}
use Rattle.calls.specs.Refusals.{change_check}
use Rattle.calls.specs.Results.{idle_board, round_names}
use Rattle.calls.proofs.Laws.{add_passes, add_keeps, idle_opened}
use Rattle.calls.proofs.Laws as calls
use Rattle.demands.specs.Histories.{Add, Fresh, State, Openable, does, opens, after, reach, log}
use Rattle.pieces.specs.Streams.{Stream, held_of}
use Rattle.demands.specs.Layouts.{adds_of, stream_adds, AllDone}
use Rattle.demands.proofs.Valid.{state_at}
use Rattle.demands.proofs.Reached.{Sound, opened, opened_clear}
use Rattle.demands.proofs.Standing.{fresh_passes}

-- ---- adds one after the other

adds_laid : (d : Drive) (ss : List Stream) (D : List ℕ) → change_check d D ≡ Ok tt → Placeables d.capacity D ss
    → (after (state_at d D) (adds_of ss) ≡ state_at d (all_placed d.capacity D ss)) × AllDone (log (state_at d D) (adds_of ss))
unfolding adds_of after log AllDone all_placed Placeables
adds_laid d [] D e p = (refl, tt)
adds_laid d (s ∷ ss) D e p =
    let k = add_passes d D s.name s.weight e p.0 p.1 in
    let f : change_check d (placed d.capacity D s.name s.weight) ≡ (Ok tt) = rw k at (add_keeps d D s.name s.weight ∙ e) in
    let r = adds_laid d ss (placed d.capacity D s.name s.weight) f p.2 in
    let m : does (Add s.name s.weight) (state_at d D) ≡ state_at d (placed d.capacity D s.name s.weight) = rw k refl in
    (ap (λ (u : State). after u (adds_of ss)) m ∙ r.0, (rw k refl, subst (λ (u : State). AllDone (log u (adds_of ss))) (sym m) r.1))

-- Streams that can be added to idle leaves one after the other make the board of an open and of an add for each of them, every one of them done.
pub opened_adds : (C : ℕ) (B : List ℕ) → Openable C B → (ss : List Stream) → Placeables C (idle C B) ss
    → (reach C B (adds_of ss) ≡ state_at (drive_at C 1) (all_placed C (idle C B) ss)) × AllDone (log (opens C B) (adds_of ss))
opened_adds C B may ss p =
    let d = drive_at C 1 in
    let o = opened C B may in
    let e : idle C B ≡ idle_board C B = idle_opened C B may.long in
    let clear = fresh_passes (state_at d (idle_board C B)) [] o refl in
    rw (opened_clear C B may, ← e) (adds_laid d ss (idle C B) (rw (← e) at clear) p)

-- The board that a fresh layout leaves is that of an open and of an add for each stream, by falling weight, then rising name, every one of them done.
pub fresh_adds : (C : ℕ) (B : List ℕ) → Openable C B
    → (reach C B (stream_adds C B) ≡ state_at (drive_at C 1) (fresh C B)) × AllDone (log (opens C B) (stream_adds C B))
fresh_adds C B may = opened_adds C B may (streams C B) (fresh_placeable C B may.few may.long)

-- ---- two states that hold the same

module _ (s s' : State) (hs hs' : List Stream) (is : Sound s hs) (is' : Sound s' hs') (size : s.drive.capacity ≡ s'.drive.capacity)
    (start : s.drive.position ≡ 1) (start' : s'.drive.position ≡ 1) (held : (x : ℕ) → (x ≡ 0 → ⊥) → held_of x hs ≡ held_of x hs') where
  same : (x : ℕ) → (x ≡ 0 → ⊥) → weight s.drive.capacity s.board x ≡ weight s.drive.capacity s'.board x
  same x n = is.names x n ∙ held x n ∙ sym (rw (← size) at (is'.names x n))

  pub fresh_equal : (i : ℕ) → i < s.drive.capacity → get_or (does Fresh s).board i 0 ≡ get_or (does Fresh s').board i 0
  fresh_equal = calls.fresh_equal s.drive s'.drive s.board s'.board size (fresh_passes s hs is start) (fresh_passes s' hs' is' start') same

  pub fresh_rounds : round_names s.drive.capacity (does Fresh s).board ≡ round_names s.drive.capacity (does Fresh s').board
  fresh_rounds = calls.fresh_rounds s.drive s'.drive s.board s'.board size (fresh_passes s hs is start) (fresh_passes s' hs' is' start') same
