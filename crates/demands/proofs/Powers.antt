-- How often a stream is served in slots in a row over any number of rounds of one board, from any position: for a capacity that is a power of two, and for every
-- capacity. Assumes nothing.
use mathlib.Core.Path.{◌≡◌, sym, ap, subst, ◌∙◌}
use mathlib.Core.Bool.{true}
use mathlib.Core.List.{List}
use Prim.Native.Nat.{ℕ, zero, suc, ◌+◌, ◌-◌, ◌*◌, ◌/◌, ◌%◌, ◌^◌, ◌≤◌, ◌<◌}
use native.Mathlib.Nat.{mod-lt, div-add-mod'}
use native.Mathlib.Omega.{arith}
use native.Mathlib.Decide.{dec_le}
use Rattle.sequences.specs.SlotOrder.{next_from, Position}
use Rattle.sequences.specs.Serving.{in_run, leaves_from, after_slots, count_list}
use Rattle.sequences.proofs.Laws.{round_ends, power_window}
use Rattle.pieces.specs.Board.{good, weight, piece_count}
use Rattle.demands.specs.Rounds.{Near, bound, power_bound}
use Rattle.demands.specs.Stretches.{PowerOfTwo}
-- A history of three rounds and a half is computed before anything is proved, so that a wrong bound falls on it first.
pub use Rattle.demands.proofs.Examples.{stretch}
use Rattle.demands.proofs.Windows.{of_round}
use Rattle.demands.proofs.Streams.{holds, stream_near, stream_fair, stream_round}

-- ---- C a power of two: the share of each run, summed over the pieces

power_runs : (C p t : ℕ) → Position C p → PowerOfTwo C → (a l : ℕ) → a % 2 ^ l ≡ 0 → a + 2 ^ l ≤ C
    → (C * count_list (in_run a l) (leaves_from C p t) < 2 ^ l * t + C) × (2 ^ l * t < C * count_list (in_run a l) (leaves_from C p t) + C)
power_runs C p t at power a l multiple =
    let P : ℕ → Type 0 = λ c. Position c p → a + 2 ^ l ≤ c
    → (c * count_list (in_run a l) (leaves_from c p t) < 2 ^ l * t + c) × (2 ^ l * t < c * count_list (in_run a l) (leaves_from c p t) + c) in
    subst P (sym power.1) (λ here fits. power_window power.0 a l p t here multiple fits) at

pub stream_power : (C : ℕ) (B : List ℕ) (x p t : ℕ) → Position C p → PowerOfTwo C → zero < weight C B x
    → Near (C * count_list (holds B x) (leaves_from C p t)) (weight C B x * t) (power_bound C (piece_count C B x))
stream_power C B x p t at power held = stream_near C B x p t at C t at.some (power_runs C p t at power) held

-- ---- every C: in a whole round a stream is served just its weight, so that slots over several rounds are as far from its share as slots within one

-- Whole rounds take nothing from a difference: a of them and i slots, with f serves in the i, then t slots with s serves; and in all b rounds and j slots, with g.
apart : (C w a b i j f g s t D : ℕ) → b * C + j ≡ a * C + i + t → b * w + g ≡ a * w + f + s → Near (C * g + w * i) (C * f + w * j) D → Near (C * s) (w * t) D
apart C w a b i j f g s t D e h near =
    let c = ap (λ (y : ℕ). w * y) e in
    let d = ap (λ (y : ℕ). C * y) h in
    (omega arith, omega arith)

module _ (C : ℕ) (B : List ℕ) (x : ℕ) (some : zero < C) (few : C < 4096) where
  -- how often x is served in n slots from p on
  abbrev serves : ℕ → ℕ → ℕ
  serves p n = count_list (holds B x) (leaves_from C p n)

  abbrev w : ℕ
  w = weight C B x

  serves_more : (i p n : ℕ) → serves p (i + n) ≡ serves p i + serves (after_slots C p i) n
  unfolding leaves_from after_slots count_list
  serves_more zero p n = ap (serves p) (let e : 0 + n ≡ n = omega arith in e) ∙ omega arith
  serves_more (suc i) p n =
      let ih = serves_more i (next_from C p) n in
      ap (serves p) (let e : suc i + n ≡ suc (i + n) = omega arith in e) ∙ omega arith

  -- q rounds and r slots more
  serves_rounds : (q r : ℕ) → serves 1 (q * C + r) ≡ q * w + serves 1 r
  serves_rounds zero r = ap (serves 1) (let e : 0 * C + r ≡ r = omega arith in e) ∙ omega arith
  serves_rounds (suc q) r =
      let e : suc q * C + r ≡ C + (q * C + r) = omega arith in
      let m = rw (round_ends C some few) at (serves_more C 1 (q * C + r)) in
      let s = stream_round C B x some few in
      let ih = serves_rounds q r in
      ap (serves 1) e ∙ omega arith

  module _ (fine : good C B ≡ true) (held : zero < weight C B x) where
    -- from slot i to slot j of one round
    within : (i j : ℕ) → i ≤ j → j ≤ C → Near (C * serves 1 j + w * i) (C * serves 1 i + w * j) (bound C w)
    within i j up most =
        let n = j - i in
        let e : i + n ≡ j = omega arith in
        let f = stream_fair C B x some few i n (omega arith) fine held in
        let c = ap (λ (y : ℕ). C * y) (rw e at (serves_more i 1 n)) in
        let d = ap (λ (y : ℕ). w * y) e in
        omega arith

    -- in whichever order the two stand
    between : (i j : ℕ) → i < C → j < C → Near (C * serves 1 j + w * i) (C * serves 1 i + w * j) (bound C w)
    between i j a b =
        elim (dec_le i j) [
          | yes h ↦ within i j h (omega arith)
          | no h ↦ let f = within j i (omega arith) (omega arith) in (f.1, f.0)
        ]

    -- t slots from slot i on, over any number of rounds, are as far from the stream's share as the places of their ends in one round
    across : (i t : ℕ) → Near (C * serves (after_slots C 1 i) t) (w * t) (bound C w)
    across i t =
        let j = i + t in
        let a : i / C * C + i % C ≡ i = div-add-mod' i C in
        let b : j / C * C + j % C ≡ j = div-add-mod' j C in
        let f : serves 1 i ≡ i / C * w + serves 1 (i % C) = ap (serves 1) (sym a) ∙ serves_rounds (i / C) (i % C) in
        let g : serves 1 j ≡ j / C * w + serves 1 (j % C) = ap (serves 1) (sym b) ∙ serves_rounds (j / C) (j % C) in
        apart C w (i / C) (j / C) (i % C) (j % C) (serves 1 (i % C)) (serves 1 (j % C)) (serves (after_slots C 1 i) t) t (bound C w)
        (omega arith) (let m = serves_more i 1 t in omega arith) (between (i % C) (j % C) (mod-lt i some) (mod-lt j some))

    -- and so are t slots from any position
    pub stream_still : (p t : ℕ) → Position C p → Near (C * count_list (holds B x) (leaves_from C p t)) (weight C B x * t) (bound C (weight C B x))
    stream_still p t at = let r = of_round C p at in rw (r.1 t) (across r.0 t)
