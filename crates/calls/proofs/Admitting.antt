-- What add answers and leaves, by what its checks before room find and by what admitting says. Assumes nothing.
use mathlib.Core.Path.{◌≡◌, refl, sym, ap, ◌∙◌}
use mathlib.Core.Bool.{false}
use mathlib.Core.List.{List}
use Prim.Native.Nat.{ℕ, ◌≤◌}
use native.Mathlib.Omega.{arith}
use lib.Dec.{eqb, ltb}
use borrow.Author.Tests.{eq-eqb}
use Rattle.general.proofs.Laws.{by_bool}
use Rattle.pieces.specs.Board.{weight}
use Rattle.pieces.specs.Placing.{placed, admitted, admission}
use Rattle.std.specs.Prelude.{Ok, Err}
use Rattle.pieces.specs.Types.{Admission}
use Rattle.pieces.proofs.Laws.{weight_le}
use Rattle.calls.specs.declared.Drive.{Drive}
use Rattle.calls.specs.Types.{Change, Check}
use Rattle.calls.specs.declared.Unchanged.TheVariants as unchanged
use Rattle.calls.specs.declared.Refusal.{Refusal}
use Rattle.calls.specs.declared.Refusal.TheVariants.{Room}
use Rattle.calls.specs.Refusals.{number_of, asked_add, admit_may, numbers, zero_or, admit_check, add_check}
use Rattle.calls.specs.Answers.{number_by, change_answer}
use Rattle.calls.specs.Results.{added, added_answer, added_board}
use Rattle.calls.proofs.Checking.{add_parts}
use Rattle.calls.proofs.Calling.{first_within, other_number}

-- what admitting counts is at most C, whatever the weight
pub placed_few : (C : ℕ) (B : List ℕ) (x w n : ℕ) → Ok n ≡ admission C B x w → n ≤ C
placed_few C B x w n e = by_bool (ltb (weight C B 0) w)
    (λ t. let f = rw t at e in let z : ◌≡◌ {A = ℕ} 0 1 = cc in absurd (omega arith))
    (λ t.
    let f = rw t at e in
    let i : n ≡ weight C (placed C B x w) 0 = cc in
    omega (arith, weight_le C (placed C B x w) 0))

-- the idle leaves that an admission speaks of
abbrev idle_in : Admission → ℕ
idle_in (Ok left) = left
idle_in (Err full) = full.idle

module _ (d : Drive) (B : List ℕ) (x w : ℕ) where
  -- what an answer and a board are to be
  abbrev Is : Change → List ℕ → Type 0
  Is a E = (record { drive = d; answer = a } ≡ added d B x w) × (change_answer a ≡ added_answer d B x w) × (E ≡ added_board d B x w)

  -- the checks before room give no ROOM
  before_room : (r : Refusal) → admit_check d B x w ≡ Err r → eqb (number_of r) 10 ≡ false
  unfolding admit_check zero_or
  before_room r e = rw e at (other_number (numbers admit_may) (number_by (admit_check d B x w)) 10 (first_within admit_may (asked_add d B x w)) refl)

  early : (r : Refusal) → admit_check d B x w ≡ Err r → add_check d B x w ≡ Err r
  early r e = add_parts d B x w ∙ rw e refl

  pub add_early : (r : Refusal) → admit_check d B x w ≡ Err r → Is (Err (unchanged.Refused r)) B
  add_early r e = rw (early r e, before_room r e) (refl, refl, refl)

  -- so an add that is refused for ROOM passed them
  pub add_full : (added_answer d B x w).number ≡ 10 → admit_check d B x w ≡ Ok tt
  add_full h = go (admit_check d B x w) refl
    where
      go : (k : Check) → admit_check d B x w ≡ k → admit_check d B x w ≡ Ok tt
      go (Ok tt) e = e
      go (Err r) e =
          let t = eq-eqb (number_of r) 10 (sym (ap number_by (early r e)) ∙ h) in
          let f = before_room r e in
          let z : ◌≡◌ {A = ℕ} 0 1 = cc in
          absurd (omega arith)

  module _ (clear : admit_check d B x w ≡ Ok tt) (n : ℕ) (E : List ℕ) (left : E ≡ admitted d.capacity B x w) where
    pub add_placed : Ok n ≡ admission d.capacity B x w → Is (Ok n) E
    add_placed e = by_bool (ltb (weight d.capacity B 0) w)
        (λ t. let f = rw t at e in let z : ◌≡◌ {A = ℕ} 0 1 = cc in absurd (omega arith))
        (λ t.
        let k : add_check d B x w ≡ (Ok tt) = add_parts d B x w ∙ rw (clear, t) refl in
        let f = rw t at e in
        let i : n ≡ weight d.capacity (placed d.capacity B x w) 0 = cc in
        rw (k, ← i) (refl, refl, rw t at left))

    pub add_room : Err (record { idle = n }) ≡ admission d.capacity B x w → Is (Err (unchanged.Room n)) E
    add_room e = by_bool (ltb (weight d.capacity B 0) w)
        (λ t.
        let k : add_check d B x w ≡ Err Room = add_parts d B x w ∙ rw (clear, t) refl in
        let f = rw t at e in
        let i : n ≡ weight d.capacity B 0 = ap idle_in f in
        rw (k, ← i) (refl, refl, rw t at left))
        (λ t. let f = rw t at e in let z : ◌≡◌ {A = ℕ} 0 1 = cc in absurd (omega arith))
