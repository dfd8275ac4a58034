-- The names of a round: what the lent room for them holds once a round is done. Assumes nothing.
use mathlib.Core.Path.{◌≡◌, refl, sym, ap, ◌∙◌}
use mathlib.Core.Bool.{Bool, true, false, ◌||◌}
use mathlib.Core.List.{List, ◌++◌}
use Prim.Native.Nat.{ℕ, ◌≤◌}
use native.Mathlib.Omega.{arith}
use lib.Dec.{eqb, ltb}
use lib.ListN.{length, take, drop, length-append, length-drop}
use lib.Seq.{take_at}
use borrow.Author.Tests.{ltb-false}
use Rattle.calls.specs.declared.Drive.{Drive}
use Rattle.calls.specs.Types.{Check, Checked}
use Rattle.std.specs.Prelude.{Ok}
use Rattle.calls.specs.declared.Refusal.TheVariants.{Capacity}
use Rattle.calls.specs.Refusals.{refuse_if, first_of, applies, round_check}
use Rattle.calls.specs.Results.{round_names, rounded, rounded_output}
use Rattle.general.specs.Lists.{blank}
use Rattle.general.proofs.Laws.{blank_length}

within : (a b : Bool) (others : Check) → refuse_if (a || b) Capacity others ≡ Ok tt → b ≡ false
within true b others e = let z : ◌≡◌ {A = ℕ} 0 1 = cc in absurd (omega arith)
within false true others e = let z : ◌≡◌ {A = ℕ} 0 1 = cc in absurd (omega arith)
within false false others e = refl

-- no round is done of more than 4,095 slots
clear_fits : (d : Drive) (B : List ℕ) (n : ℕ) → round_check d B n ≡ Ok tt → d.capacity ≤ 4095
unfolding round_check first_of applies
clear_fits d B n e = ltb-false 4095 d.capacity (within (eqb d.capacity 0) (ltb 4095 d.capacity) _ e)

-- what is known after a round into blank room for 4,095 names, and more where it is done
pub record Named (d : Drive) (B O' : List ℕ) : Type 0 where
  pub done : round_check d B 4095 ≡ Ok tt
  pub fit : d.capacity ≤ 4095
  pub within : d.capacity ≤ length O'
  pub names : take d.capacity O' ≡ round_names d.capacity B

module _ (d : Drive) (B O O' : List ℕ) (R : Checked) (o : O ≡ blank 4095) (r : R ≡ rounded d B O) where
  room_length : length O ≡ 4095
  room_length = rw o (blank_length 4095)

  pub answer_is : R.answer ≡ round_check d B 4095
  answer_is = rw (r, room_length) refl

  module _ (w : O' ≡ rounded_output d B O) (kept : length O' ≡ length O) (done : R.answer ≡ Ok tt) where
    clear : round_check d B 4095 ≡ Ok tt
    clear = sym answer_is ∙ done

    written : O' ≡ round_names d.capacity B ++ drop d.capacity O
    written = w ∙ rw (room_length, clear) refl

    pub named : Named d B O'
    named =
        let fit = clear_fits d B 4095 clear in
        let long : length (round_names d.capacity B) ≡ d.capacity =
        omega (arith, room_length, simp (length-append, length-drop) at (ap length written)) in
        record {
          done = clear;
          fit = fit;
          within = omega (arith, room_length);
          names = rw written (take_at (round_names d.capacity B) (drop d.capacity O) d.capacity long);
        }
