-- What the console prints: document 01, "Console". Bytes are ASCII; a number is printed by its decimal digits, with no zeros in front.
-- Assumes nothing.
use Rattle.std.specs.Prelude.{cond, List, [], ◌∷◌, ◌++◌, ℕ, zero, suc, ◌+◌, ◌/◌, ◌%◌, ltb}

-- the digits of n in at most f + 1 steps: its last digit, after those of n / 10 where n has more than one
unfoldable pub decimal_in : ℕ → ℕ → List ℕ
decimal_in zero n = (48 + n) ∷ []
decimal_in (suc f) n = let more = decimal_in f (n / 10) ++ ((48 + n % 10) ∷ []) in cond (ltb n 10) ((48 + n) ∷ []) more

-- the digits of n
unfoldable pub decimal : ℕ → List ℕ
unfolding decimal_in
decimal n = decimal_in n n

-- a value: a space, and its digits
unfoldable pub field : ℕ → List ℕ
unfolding decimal
field n = 32 ∷ decimal n

-- values, one after the other
unfoldable pub fields : List ℕ → List ℕ
unfolding field
fields [] = []
fields (n ∷ ns) = field n ++ fields ns

-- a line of output: the answer number, the values, a line feed
unfoldable pub line : ℕ → List ℕ → List ℕ
unfolding decimal fields
line n vs = decimal n ++ (fields vs ++ (10 ∷ []))

-- the line for what is not understood: `?`
unfoldable pub unknown_line : List ℕ
unknown_line = 63 ∷ 10 ∷ []
