-- The fresh layout with tables: what it leaves fits, each stream keeps its weight, its r and its deficits; made again it changes nothing; and where two boards hold
-- the same names with the same weights it leaves one board. Assumes nothing.
use mathlib.Core.Path.{◌≡◌, refl, sym, ap, ◌∙◌}
use mathlib.Core.Bool.{Bool, true}
use mathlib.Core.List.{List, [], ◌∷◌}
use Prim.Native.Nat.{ℕ, max, ◌≤◌, ◌<◌}
use native.Mathlib.Omega.{arith}
use native.Mathlib.Decide.{dec_lt, ℕ_discrete}
use lib.ListN.{length, get_or}
use lib.Seq.{ext_get_or}
use Rattle.general.proofs.Laws.{by_bool, clash}
use Rattle.pieces.specs.Board.{weight}
use Rattle.pieces.specs.Fresh.{fresh}
use Rattle.pieces.proofs.Laws.{fresh_length, fresh_good, fresh_weights, fresh_again, fresh_same}
use Rattle.tables.specs.Sharing.{lowest, leads}
use Rattle.tables.specs.Settling.{settled_table}
use Rattle.tables.proofs.Laws.{settled_length, settled_beyond, settled_from, settled_some, settled_fits, settled_moves, leads_name}
use Rattle.calls.specs.declared.Drive.{Drive}
use Rattle.calls.specs.Types.{Check}
use Rattle.std.specs.Prelude.{Ok, Err}
use Rattle.calls.specs.Refusals.{applies}
use Rattle.calls.specs.Results.{if_clear}
use Rattle.drives.specs.Checks.{pair_check, size_check}
use Rattle.shares.specs.States.{BoardTables, fitting}
use Rattle.shares.specs.Checks.{too_few, placed_check}
use Rattle.share_boards.specs.Starting.{start_check, afresh, refreshed_state}
use Rattle.share_boards.proofs.Looks.{ready_sized}
use Rattle.share_boards.proofs.Starts.{start_ready}

-- ---- what it leaves

module _ (a b : Drive) (s : BoardTables) (e : start_check a b s ≡ Ok tt) where
  -- What it leaves fits,
  pub fresh_fits : fitting a.capacity (refreshed_state a b s) ≡ true
  unfolding afresh
  fresh_fits =
      let r = start_ready a b s e in
      let z = ready_sized a s r in
      rw e
      (settled_fits a.capacity s.board s.rates (s.owed ∷ s.other ∷ []) r.fit r.rates (fresh a.capacity s.board) (fresh_good a.capacity s.board z.few z.long)
      (λ y n h. fresh_weights a.capacity s.board z.few z.long y))

  -- each stream keeps its weight,
  pub fresh_held : (x : ℕ) → weight a.capacity (refreshed_state a b s).board x ≡ weight a.capacity s.board x
  unfolding afresh
  fresh_held x = let z = ready_sized a s (start_ready a b s e) in rw e (fresh_weights a.capacity s.board z.few z.long x)

  -- and r and the deficits of both drives go with it to its new lowest leaf.
  pub fresh_moves : (x : ℕ) → (x ≡ 0 → ⊥) → 0 < weight a.capacity s.board x
      → let t = refreshed_state a b s in
      let l = lowest a.capacity s.board x in
      let m = lowest a.capacity t.board x in
      (get_or t.rates m 0 ≡ get_or s.rates l 0) × (get_or t.owed m 0 ≡ get_or s.owed l 0) × (get_or t.other m 0 ≡ get_or s.other l 0)
  unfolding afresh
  fresh_moves x named held =
      let C = a.capacity in
      let B = s.board in
      let r = start_ready a b s e in
      let z = ready_sized a s r in
      let is = fresh_weights a.capacity s.board z.few z.long x in
      let there : 0 < weight a.capacity (fresh a.capacity s.board) x = omega arith in
      rw e (
        settled_moves C B (fresh C B) s.rates x r.rates named held there,
        settled_moves C B (fresh C B) s.owed x r.owed named held there,
        settled_moves C B (fresh C B) s.other x r.other named held there,
      )

-- ---- a table that has entries at lowest leaves alone is settled on its own board

module _ (C : ℕ) (B T : List ℕ) (only : (i : ℕ) → i < C → (get_or T i 0 ≡ 0 → ⊥) → leads C B i ≡ true) where
  still_at : (i : ℕ) → i < C → i < length T → get_or (settled_table C B B T) i 0 ≡ get_or T i 0
  still_at i h l = by_bool (leads C B i)
      (λ t.
      let low = (leads_name C B i t).1 in
      settled_from C B B T i h l t (omega arith) ∙ ap (λ (k : ℕ). get_or T k 0) low)
      (λ f.
      let was : get_or T i 0 ≡ 0 = elim (ℕ_discrete (get_or T i 0) 0) [
        | yes z ↦ z
        | no n ↦ clash (only i h n) f
      ] in
      elim (ℕ_discrete (get_or (settled_table C B B T) i 0) 0) [
        | yes z ↦ z ∙ sym was
        | no n ↦ clash (settled_some C B B T i h n).1 f
      ])

  settled_still : settled_table C B B T ≡ T
  settled_still = ext_get_or 0 (settled_table C B B T) T (settled_length C B B T) (λ i l.
      elim (dec_lt i C) [
        | yes h ↦ still_at i h (omega (arith, settled_length C B B T))
        | no h ↦ settled_beyond C B B T i (omega arith)
      ])

-- A table that was settled is such a one.
settled_twice : (C : ℕ) (B B'' T : List ℕ) → settled_table C B'' B'' (settled_table C B B'' T) ≡ settled_table C B B'' T
settled_twice C B B'' T = settled_still C B'' (settled_table C B B'' T) (λ i h n. (settled_some C B B'' T i h n).1)

-- ---- made again

afresh_again : (C : ℕ) (s : BoardTables) → C ≤ 4095 → C ≤ length s.board → afresh C (afresh C s) ≡ afresh C s
unfolding afresh
afresh_again C s few long =
    let B = s.board in
    rw (fresh_again C s.board few long, settled_twice C B (fresh C B) s.rates, settled_twice C B (fresh C B) s.owed, settled_twice C B (fresh C B) s.other) refl

-- The checks look at lengths, and at what fits.
pair_length : (a b : Drive) (B D : List ℕ) (t : Bool) → length D ≡ length B → pair_check a b D t ≡ pair_check a b B t
unfolding pair_check size_check applies
pair_length a b B D t e = rw e refl

few_length : (m C : ℕ) (s : BoardTables) → too_few m (afresh C s) ≡ too_few m s
unfolding too_few afresh
few_length m C s =
    let B = s.board in
    rw (settled_length C B (fresh C B) s.rates, settled_length C B (fresh C B) s.owed, settled_length C B (fresh C B) s.other) refl

board_length : (C : ℕ) (s : BoardTables) → C ≤ 4095 → C ≤ length s.board → length (afresh C s).board ≡ length s.board
unfolding afresh
board_length C s few long = fresh_length C s.board few long

module _ (a b : Drive) (s : BoardTables) where
  again_clear : start_check a b s ≡ Ok tt → start_check a b (afresh a.capacity s) ≡ start_check a b s
  unfolding placed_check
  again_clear e =
      let r = start_ready a b s e in
      let z = ready_sized a s r in
      let f : fitting a.capacity (afresh a.capacity s) ≡ true = rw e at (fresh_fits a b s e) in
      rw (
        f,
        r.fit,
        few_length (max a.capacity b.capacity) a.capacity s,
        pair_length a b s.board (afresh a.capacity s).board (too_few (max a.capacity b.capacity) s) (board_length a.capacity s z.few z.long),
      ) refl

  -- What it finds stays,
  pub fresh_keeps : start_check a b (refreshed_state a b s) ≡ start_check a b s
  fresh_keeps = go (start_check a b s) refl
    where
      go : (k : Check) → start_check a b s ≡ k → start_check a b (if_clear k (afresh a.capacity s) s) ≡ start_check a b s
      go (Err r) e = refl
      go (Ok tt) e = again_clear e

  -- and doing it again changes nothing.
  pub fresh_twice : refreshed_state a b (refreshed_state a b s) ≡ refreshed_state a b s
  fresh_twice = rw fresh_keeps (go (start_check a b s) refl)
    where
      go : (k : Check) → start_check a b s ≡ k → if_clear k (afresh a.capacity (if_clear k (afresh a.capacity s) s)) (if_clear k (afresh a.capacity s) s) ≡ if_clear k (afresh a.capacity s) s
      go (Err r) e = refl
      go (Ok tt) e = let z = ready_sized a s (start_ready a b s e) in afresh_again a.capacity s z.few z.long

-- ---- equal streams and weights give equal boards, whatever the histories

module _ (a b : Drive) (s : BoardTables) (e : start_check a b s ≡ Ok tt) (a' b' : Drive) (s' : BoardTables) (e' : start_check a' b' s' ≡ Ok tt) (size : a.capacity ≡ a'.capacity)
    (same : (x : ℕ) → (x ≡ 0 → ⊥) → weight a.capacity s.board x ≡ weight a.capacity s'.board x) where
  pub fresh_equal : (i : ℕ) → i < a.capacity → get_or (refreshed_state a b s).board i 0 ≡ get_or (refreshed_state a' b' s').board i 0
  unfolding afresh
  fresh_equal =
      let z = ready_sized a s (start_ready a b s e) in
      let z' = ready_sized a' s' (start_ready a' b' s' e') in
      rw (e, e', ← size) (fresh_same a.capacity s.board s'.board z.long (rw (← size) at z'.long) same)
