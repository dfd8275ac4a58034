-- The sheet of a board: document 01, "The sheet". The board is its list of leaves B, of which the first C count. Assumes nothing.
use Rattle.std.specs.Prelude.{◌≡◌, Bool, true, ◌&&◌, List, [], ◌∷◌, ℕ, ◌+◌, ◌-◌, ◌*◌, ◌/◌, ◌%◌, ◌≤◌, ◌<◌, eqb, length, get_or, take}
use Rattle.general.specs.Tests.{every}
use Rattle.sheets.specs.Blocks.{values_from, sum_of, bytes_of, number_at, block, stack, sealed}

-- C/253, rounded up
unfoldable pub blocks : ℕ → ℕ
blocks C = (C + 252) / 253

-- leaf i, and 0 after the last
unfoldable pub leaf_or_zero : ℕ → List ℕ → ℕ → ℕ
leaf_or_zero C B i = get_or (take C B) i 0

-- block b: its number, C, and the 253 leaves from 253 b on
unfoldable pub page : ℕ → List ℕ → ℕ → List ℕ
page C B b = block b C (values_from (leaf_or_zero C B) (253 * b) 253)

-- the bytes that save writes
unfoldable pub sheet : ℕ → List ℕ → List ℕ
sheet C B = bytes_of (stack (page C B) 0 (blocks C))

-- which number of a sheet leaf i is: in block i / 253, after the block number and C
unfoldable pub leaf_place : ℕ → ℕ
leaf_place i = 256 * (i / 253) + (2 + i % 253)

-- leaf i of a sheet
unfoldable pub leaf_in : List ℕ → ℕ → ℕ
leaf_in s i = number_at s (leaf_place i)

-- C of block 0
unfoldable pub capacity_in : List ℕ → ℕ
capacity_in s = number_at s 1

-- the C leaves
unfoldable pub sheet_leaves : ℕ → List ℕ → List ℕ
sheet_leaves C s = values_from (leaf_in s) 0 C

-- what stands after the last leaf, to the end of the last block's 253 numbers
unfoldable pub rest_in : ℕ → List ℕ → List ℕ
rest_in C s = values_from (leaf_in s) C (253 * blocks C - C)

-- block b has its own number, C and a right sum
unfoldable pub numbered : List ℕ → ℕ → ℕ → Bool
numbered s C b = sealed s b b C

-- each number is 0
unfoldable pub each_zero : List ℕ → Bool
each_zero [] = true
each_zero (n ∷ ns) = eqb n 0 && each_zero ns

-- the test of read: the length is that of the blocks needed, no block has a wrong number, C or sum, and the rest is zero
unfoldable pub laid : ℕ → List ℕ → Bool
laid C s = eqb (length s) (512 * blocks C) && (every (numbered s C) (blocks C) && each_zero (rest_in C s))

-- the same in the words of document 01, block by block
pub record Layout (C : ℕ) (s : List ℕ) : Type 0 where
  pub long : length s ≡ 512 * blocks C
  pub number : (b : ℕ) → b < blocks C → number_at s (256 * b) ≡ b
  pub capacity : (b : ℕ) → b < blocks C → number_at s (256 * b + 1) ≡ C
  pub sum : (b : ℕ) → b < blocks C → sum_of (values_from (number_at s) (256 * b) 256) % 65536 ≡ 0
  pub rest : (b i : ℕ) → b < blocks C → i < 253 → C ≤ 253 * b + i → number_at s (256 * b + (2 + i)) ≡ 0
