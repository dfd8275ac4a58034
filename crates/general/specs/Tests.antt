-- Tests as numbers, a test of many numbers, and whether two lists are the same. Assumes nothing.
use Rattle.std.specs.Prelude.{Bool, true, false, ◌&&◌, List, [], ◌∷◌, ℕ, zero, suc, ◌+◌, eqb}

-- 1 for a test that holds, 0 for one that does not.
abbrev pub one : Bool → ℕ
one true = 1
one false = 0

-- f holds at every number below n.
unfoldable pub every : (ℕ → Bool) → ℕ → Bool
every f zero = true
every f (suc n) = every f n && f n

-- How many numbers below n pass the test f.
unfoldable pub passing : (ℕ → Bool) → ℕ → ℕ
passing f zero = 0
passing f (suc n) = passing f n + one (f n)

-- Two lists are the same.
unfoldable pub same : List ℕ → List ℕ → Bool
same [] [] = true
same [] (b ∷ t) = false
same (a ∷ s) [] = false
same (a ∷ s) (b ∷ t) = eqb a b && same s t
