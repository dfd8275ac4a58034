-- The nodes of a subtree: node j is e levels below node i where 2 ^ e (i + 1) ≤ j + 1 < 2 ^ e (i + 2). Assumes nothing.
use mathlib.Core.Path.{◌≡◌}
use Prim.Native.Nat.{ℕ, zero, suc, ◌+◌, ◌*◌, ◌^◌, ◌≤◌, ◌<◌}
use native.Mathlib.Nat.{mul-le-mul_right, pow-suc}
use native.Mathlib.Decide.{dec_lt, ℕ_discrete}
use native.Mathlib.Omega.{arith}
use lib.Pow.{pow_pos, pow_mono}
use borrow.Author.Tests.{eq-eqb, ne_eqb}
use Rattle.tree.specs.Marks.{below}

-- twice a power
pub dbl : (e x : ℕ) → 2 ^ suc e * x ≡ 2 * (2 ^ e * x)
dbl e x = rw (pow-suc 2 e) (omega arith)

-- node j is node i or below it, less than d levels down
pub record Below (d i j : ℕ) : Type 0 where
  pub down : ℕ
  pub within : down < d
  pub from : 2 ^ down * suc i ≤ suc j
  pub to : suc j < 2 ^ down * suc (suc i)

pub itself : (d i : ℕ) → Below (suc d) i i
itself d i = record { down = 0; within = omega arith; from = omega arith; to = omega arith }

-- what is below one of a node's own two is below the node
module _ (d i j : ℕ) where
  pub through_left : Below d (2 * i + 1) j → Below (suc d) i j
  through_left b =
      let w = b.within in
      let f = b.from in
      let t = b.to in
      let y = dbl b.down (suc i) in
      let z = dbl b.down (suc (suc i)) in
      record { down = suc b.down; within = omega arith; from = omega arith; to = omega arith }

  pub through_right : Below d (2 * i + 2) j → Below (suc d) i j
  through_right b =
      let w = b.within in
      let f = b.from in
      let t = b.to in
      let y = dbl b.down (suc i) in
      let z = dbl b.down (suc (suc i)) in
      record { down = suc b.down; within = omega arith; from = omega arith; to = omega arith }

  pub through : (m : ℕ) → Below d (below m i) j → Below (suc d) i j
  through m b = elim (ℕ_discrete m 0) [
    | yes e ↦ through_left (rw (eq-eqb m 0 e) at b)
    | no e ↦ through_right (rw (ne_eqb m 0 e) at b)
  ]

-- what is below a node does not stand before it
pub after : (d i j : ℕ) → Below d i j → i ≤ j
after d i j b = let f = b.from in let l : 1 * suc i ≤ 2 ^ b.down * suc i = mul-le-mul_right (suc i) (pow_pos b.down) in omega arith

-- no node is below both of a node's own two
pub apart : (d i j : ℕ) → Below d (2 * i + 1) j → Below d (2 * i + 2) j → ⊥
apart d i j b c = go (dec_lt c.down b.down)
  where
    go : Dec (c.down < b.down) → ⊥
    go (yes l) =
        let f = b.from in
        let t = c.to in
        let m = pow_mono {i = suc c.down} {j = b.down} l in
        let z = dbl c.down (suc (suc i)) in
        let n : 2 ^ suc c.down * suc (suc i) ≤ 2 ^ b.down * suc (suc i) = mul-le-mul_right (suc (suc i)) m in
        omega arith
    go (no l) =
        let f = c.from in
        let t = b.to in
        let g : b.down ≤ c.down = omega arith in
        let m = pow_mono {i = b.down} {j = c.down} g in
        let n : 2 ^ b.down * suc (2 * i + 2) ≤ 2 ^ c.down * suc (2 * i + 2) = mul-le-mul_right (suc (2 * i + 2)) m in
        omega arith

-- The inner nodes of a tree of 2 ^ k leaves are the first 2 ^ k - 1.
pub inner : (k j : ℕ) → Below k 0 j → suc j < 2 ^ k
inner k j b = let t = b.to in let m = pow_mono {i = suc b.down} {j = k} b.within in omega arith

pub below_root : (k j : ℕ) → suc j < 2 ^ k → Below k 0 j
below_root zero j h = absurd (omega arith)
below_root (suc k) j h = elim (dec_lt (suc j) (2 ^ k)) [
  | yes l ↦ let b = below_root k j l in record { down = b.down; within = omega (arith, b.within); from = b.from; to = b.to }
  | no l ↦ record { down = k; within = omega arith; from = omega arith; to = omega arith }
]
