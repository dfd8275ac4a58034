-- The two sequences of source document 001 (G-3), as lists and by its own recursions, and the reversal of a number's binary digits.
-- Assumes nothing.
use Rattle.std.specs.Prelude.{List, [], ◌∷◌, ◌++◌, map, ℕ, zero, suc, ◌+◌, ◌*◌, ◌/◌, ◌%◌, ◌^◌}

-- The weight spread sequence of order k (equations 6 and 7): order k + 1 is order k, then k + 1, then order k again.
-- Order 0 is empty, which makes order 1 the one term 1.
unfoldable pub wss : ℕ → List ℕ
wss zero = []
wss (suc k) = wss k ++ (suc k ∷ wss k)

-- The time-slot sequence of order n (equations 15 and 16): order 0 is 0; order n + 1 is twice each term of order n, then twice each term and one more.
unfoldable pub tss : ℕ → List ℕ
tss zero = zero ∷ []
tss (suc n) = map (λ b. 2 * b) (tss n) ++ map (λ b. 2 * b + 1) (tss n)

-- RB(i, j) (equation 17): i reversed as a number of j binary digits. i's lowest digit comes highest; RB(i, 0) is 0.
unfoldable pub rb : ℕ → ℕ → ℕ
rb i zero = zero
rb i (suc j) = i % 2 * 2 ^ j + rb (i / 2) j
