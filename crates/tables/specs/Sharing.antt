-- Over-allocated streams, and when their tables fit a board: document 02, request No. 7; source document 000, figure 3 and its hardware section. B is the board, of
-- which the first C entries are leaves. T (rates) has r at the lowest leaf of each over-allocated stream; E (owed), of which each drive has one, has there how
-- far the stream's deficit is below 0, so that an entry v is the deficit -v.
-- Assumes nothing.
use Rattle.std.specs.Prelude.{Bool, true, not, ◌&&◌, ◌||◌, List, [], ◌∷◌, ℕ, zero, suc, ◌^◌, eqb, ltb, get_or}
use Rattle.general.specs.Tests.{every}
use Rattle.sequences.specs.SlotOrder.{digits}
use Rattle.pieces.specs.Board.{weight, good}
use Rattle.pieces.specs.Placing.{first}

-- R: how many leaves a stream of weight r holds, the smallest power of two not below r; none for 0. That it is the smallest: proofs/Laws, `held_least`.
unfoldable pub held_for : ℕ → ℕ
unfolding digits
held_for zero = 0
held_for (suc n) = 2 ^ digits n

-- The lowest leaf of the name x; C where no leaf holds it.
unfoldable pub lowest : ℕ → List ℕ → ℕ → ℕ
unfolding first
lowest C B x = first (λ i. eqb (get_or B i 0) x) 0 C

-- Leaf i is the lowest leaf of a stream.
unfoldable pub leads : ℕ → List ℕ → ℕ → Bool
unfolding lowest
leads C B i = not (eqb (get_or B i 0) 0) && eqb (lowest C B (get_or B i 0)) i

-- The first n entries of a table are 0. Of rates: no over-allocated stream is held.
unfoldable pub all_zero : ℕ → List ℕ → Bool
unfolding every
all_zero n T = every (λ i. eqb (get_or T i 0) 0) n

-- The entry of r at leaf i: 0, or that of a stream of R leaves at its lowest leaf. On a good board such a stream has one piece (proofs/Laws, `one_piece`).
unfoldable pub rate_fits : ℕ → List ℕ → List ℕ → ℕ → Bool
unfolding leads held_for
rate_fits C B T i = eqb (get_or T i 0) 0 || (leads C B i && eqb (weight C B (get_or B i 0)) (held_for (get_or T i 0)))

unfoldable pub rates_fit : ℕ → List ℕ → List ℕ → Bool
unfolding every rate_fits
rates_fit C B T = every (λ i. rate_fits C B T i) C

-- The entry of a deficit at leaf i: 0, or above -R. Where r is 0, R is 0 too.
unfoldable pub owed_fits : List ℕ → List ℕ → ℕ → Bool
unfolding held_for
owed_fits T E i = eqb (get_or E i 0) 0 || ltb (get_or E i 0) (held_for (get_or T i 0))

unfoldable pub owed_fit : ℕ → List ℕ → List ℕ → Bool
unfolding every owed_fits
owed_fit C T E = every (λ i. owed_fits T E i) C

-- Those of every drive.
unfoldable pub all_owed_fit : ℕ → List ℕ → List (List ℕ) → Bool
unfolding owed_fit
all_owed_fit C T [] = true
all_owed_fit C T (E ∷ Es) = owed_fit C T E && all_owed_fit C T Es

-- The one condition: where this does not hold, the answer is 5.
unfoldable pub fits : ℕ → List ℕ → List ℕ → List (List ℕ) → Bool
unfolding rates_fit all_owed_fit
fits C B T Es = good C B && (rates_fit C B T && all_owed_fit C T Es)
