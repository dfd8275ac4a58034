-- What the code of round and report needs once their checks find nothing. Assumes nothing.
use mathlib.Core.Path.{◌≡◌, refl, ◌∙◌}
use mathlib.Core.Bool.{false}
use mathlib.Core.List.{[], ◌∷◌}
use Prim.Native.Nat.{ℕ, ◌≤◌, ◌<◌}
use native.Mathlib.Omega.{arith}
use lib.Count.{ones}
use lib.Dec.{eqb}
use lib.ListN.{get_or}
use borrow.Author.Tests.{eqb-false}
use Rattle.general.proofs.Laws.{by_bool}
use Rattle.sequences.specs.SlotOrder.{Position}
use Rattle.sequences.proofs.Laws.{first_position}
use Rattle.pieces.specs.Board.{weight, piece_count}
use Rattle.pieces.proofs.Laws.{weight_le, pieces_ones}
use Rattle.tables.specs.Sharing.{lowest}
use Rattle.tables.specs.Turns.{Shared, served_weight, round_serves}
use Rattle.tables.proofs.Laws.{held_above, lowest_held, rated_at, fits_shared, spacing_most}
use Rattle.calls.specs.declared.Drive.{Drive}
use Rattle.std.specs.Prelude.{Ok}
use Rattle.calls.specs.Records.{drive_at}
use Rattle.calls.specs.Spacing.{spacing_in}
use Rattle.calls.specs.Refusals.{remove_check, round_check, held_check}
use Rattle.calls.proofs.Laws.{Sized, first_clear, then_clear, slot_sized, remove_parts, remove_clear, remove_held, round_room, slot_first}
use Rattle.shares.specs.States.{BoardTables}
use Rattle.shares.specs.Checks.{look_check, Ready}
use Rattle.share_boards.specs.Looking.{rounding_check, reporting_check}
use Rattle.shares.proofs.Laws.{share_ready, ready_change}

-- ---- a record at the start of a round

module _ (a : Drive) (s : BoardTables) (r : Ready a s) where
  pub ready_sized : Sized a.capacity s.board
  ready_sized = slot_sized a s.board r.clear

  pub ready_position : Position a.capacity 1
  ready_position = first_position a.capacity ready_sized.some (omega (arith, ready_sized.few))

  pub ready_shared : Shared a.capacity s.board s.rates
  ready_shared = fits_shared a.capacity s.board s.rates (s.owed ∷ s.other ∷ []) ready_sized.few ready_sized.long r.rates r.fit

  -- The same board is ready for a record at the start of a round,
  pub ready_first : Ready (drive_at a.capacity 1) s
  ready_first = record {
    clear = slot_first a.capacity s.board ready_sized;
    rates = r.rates;
    owed = r.owed;
    other = r.other;
    fit = r.fit;
  }

  -- where remove finds nothing but 6 and 9.
  pub ready_held : (x : ℕ) → remove_check (drive_at a.capacity 1) s.board x ≡ held_check a.capacity s.board x
  ready_held x = remove_parts (drive_at a.capacity 1) s.board x ∙ rw (← ready_change (drive_at a.capacity 1) s ready_first refl) refl

-- ---- round

module _ (a b : Drive) (s : BoardTables) (n : ℕ) (e : rounding_check a b s n ≡ Ok tt) where
  pub rounding_ready : Ready a s
  unfolding rounding_check
  rounding_ready = share_ready a b s false (first_clear (look_check a b s) (round_check a s.board n) e)

  -- what writing the round asks
  pub rounding_done : (Position a.capacity 1) × (a.capacity ≤ n) × Shared a.capacity s.board s.rates
  unfolding rounding_check
  rounding_done =
      (ready_position a s rounding_ready, round_room a s.board n (then_clear (look_check a b s) (round_check a s.board n) e), ready_shared a s rounding_ready)

-- ---- report

-- What is known of the name.
pub record Reportable (a : Drive) (s : BoardTables) (x : ℕ) : Type 0 where
  pub ready : Ready a s
  pub named : x ≡ 0 → ⊥
  pub held : 0 < weight a.capacity s.board x

pub reporting_clear : (a b : Drive) (s : BoardTables) (x : ℕ) → reporting_check a b s x ≡ Ok tt → Reportable a s x
unfolding reporting_check
reporting_clear a b s x e =
    let r = share_ready a b s false (first_clear (look_check a b s) (held_check a.capacity s.board x) e) in
    let k = ready_held a s r x ∙ then_clear (look_check a b s) (held_check a.capacity s.board x) e in
    let h = remove_held (drive_at a.capacity 1) s.board x k in
    record { ready = r; named = (remove_clear (drive_at a.capacity 1) s.board x k).named; held = omega arith }

-- A stream is served at most once at each of its leaves.
pub served_le : (a : Drive) (s : BoardTables) (x : ℕ) → Reportable a s x → served_weight a.capacity s.board s.rates x ≤ a.capacity
unfolding served_weight
served_le a s x q =
    let sh = ready_shared a s q.ready in
    let l = lowest a.capacity s.board x in
    by_bool (eqb (get_or s.rates l 0) 0)
    (λ t. rw t (weight_le a.capacity s.board x))
    (λ f.
    let h = lowest_held s.board x a.capacity q.held in
    let r = rated_at a.capacity s.board s.rates sh.fit l h (eqb-false (get_or s.rates l 0) 0 f) in
    let w = weight_le a.capacity s.board (get_or s.board l 0) in
    rw f (omega (arith, r.holds, w, held_above (get_or s.rates l 0))))

-- Nor are there more leaves or a wider spacing than the capacity.
pub spaced_le : (a : Drive) (s : BoardTables) (x : ℕ) → Reportable a s x → spacing_in x (round_serves a.capacity s.board s.rates) ≤ a.capacity
spaced_le a s x q =
    let z = ready_sized a s q.ready in
    spacing_most a.capacity s.board s.rates z.few z.some (ready_shared a s q.ready).fit x q.named q.held

-- The pieces are told by the leaves.
pub pieces_told : (a : Drive) (s : BoardTables) (x : ℕ) → Reportable a s x → piece_count a.capacity s.board x ≡ ones (weight a.capacity s.board x)
pieces_told a s x q = pieces_ones a.capacity s.board x (ready_sized a s q.ready).few (ready_shared a s q.ready).sound
