-- What positions and slots in a row serve, and how often: by positions (a window of numbers P to P + T - 1) and by slots (n of them from p on).
-- Assumes nothing.
use Rattle.std.specs.Prelude.{◌≡◌, Bool, cond, ◌&&◌, List, [], ◌∷◌, ℕ, zero, suc, ◌+◌, ◌-◌, ◌^◌, ◌≤◌, ◌<◌, eqb, leb, ltb}
use Rattle.general.specs.Tests.{one}
use Rattle.sequences.specs.SlotOrder.{digits, bit, column, leaf_at, served_from, next_from}

-- How many of the numbers P to P + T - 1 pass the test f.
unfoldable pub count_in : (ℕ → Bool) → ℕ → ℕ → ℕ
count_in f P zero = zero
count_in f P (suc T) = one (f P) + count_in f (suc P) T

-- How many elements of a list pass the test f.
unfoldable pub count_list : (ℕ → Bool) → List ℕ → ℕ
count_list f [] = zero
count_list f (x ∷ xs) = one (f x) + count_list f xs

-- The term at p is not passed over.
abbrev pub serves : ℕ → ℕ → Bool
serves C p = eqb (bit C (column C p)) 1

-- The term at p serves a leaf that passes the test f.
abbrev pub serves_of : ℕ → (ℕ → Bool) → ℕ → Bool
serves_of C f p = serves C p && f (leaf_at C p)

-- Leaf x is one of the 2 ^ l leaves from a on.
abbrev pub in_run : ℕ → ℕ → ℕ → Bool
in_run a l x = leb a x && ltb x (a + 2 ^ l)

-- The term at p serves one of them.
abbrev pub serves_run : ℕ → ℕ → ℕ → ℕ → Bool
serves_run C a l = serves_of C (in_run a l)

-- How many positions from p to the end of the round serve.
abbrev pub left : ℕ → ℕ → ℕ
left C p = count_in (serves C) p (2 ^ digits C - p)

-- The leaves that the positions P to P + T - 1 serve, in their order.
unfoldable pub leaves_in : ℕ → ℕ → ℕ → List ℕ
leaves_in C P zero = []
leaves_in C P (suc T) = cond (serves C P) (leaf_at C P ∷ leaves_in C (suc P) T) (leaves_in C (suc P) T)

-- The leaves that n slots in a row serve, from position p on.
unfoldable pub leaves_from : ℕ → ℕ → ℕ → List ℕ
leaves_from C p zero = []
leaves_from C p (suc n) = leaf_at C (served_from C p) ∷ leaves_from C (next_from C p) n

-- The position after n slots in a row from p.
unfoldable pub after_slots : ℕ → ℕ → ℕ → ℕ
after_slots C p zero = p
after_slots C p (suc n) = after_slots C (next_from C p) n

-- n slots from p within a round are the serving ones among the positions p to p + over - 1: their number, their leaves, and where they end.
pub record Walked (C p n : ℕ) : Type 0 where
  pub over : ℕ
  pub within : p + over ≤ 2 ^ digits C
  pub slots : count_in (serves C) p over ≡ n
  pub listed : leaves_from C p n ≡ leaves_in C p over
  pub leaves : (f : ℕ → Bool) → count_list f (leaves_from C p n) ≡ count_in (serves_of C f) p over
  pub goes_on : p + over < 2 ^ digits C → after_slots C p n ≡ p + over
  pub ends : p + over ≡ 2 ^ digits C → after_slots C p n ≡ 1
