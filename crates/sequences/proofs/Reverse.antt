-- Laws of RB, the reversal of binary digits. Assumes nothing.
use mathlib.Core.Path.{◌≡◌, refl, sym, ap, ap₂, ◌∙◌}
use Prim.Native.Nat.{ℕ, zero, suc, ◌+◌, ◌-◌, ◌*◌, ◌/◌, ◌%◌, ◌^◌, ◌≤◌, ◌<◌}
use native.Mathlib.Nat.{zero-add, mod-lt, div-one, suc-add, mod-one, mod-mod, mod-eq_of_lt}
use native.Mathlib.Numerals.{add-one, one-add}
use native.Mathlib.Omega.{arith}
use lib.Arith.{digits_lt}
use lib.Bits.{block_half, block_odd}
use lib.Pow.{pow-add, high, mod-pow-add, shr-shr, split}
use Rattle.sequences.specs.Sequences.{rb}

pub rb_lt : (i j : ℕ) → rb i j < 2 ^ j
unfolding rb
rb_lt i zero = omega arith
rb_lt i (suc j) =
    let h : i % 2 * 2 ^ j + rb (i / 2) j < 2 * 2 ^ j = digits_lt (mod-lt i (omega arith)) (rb_lt (i / 2) j) in
    omega arith

-- Only the j lowest digits count.
pub rb_block : (a j r : ℕ) → rb (a * 2 ^ j + r) j ≡ rb r j
unfolding rb
rb_block a zero r = refl
rb_block a (suc j) r = ap₂ (λ (x y : ℕ). x * 2 ^ j + rb y j) (block_odd a j r) (block_half a j r)
    ∙ ap (λ (y : ℕ). r % 2 * 2 ^ j + y) (rb_block a j (r / 2))

pub rb_mod : (i j : ℕ) → rb (i % 2 ^ j) j ≡ rb i j
rb_mod i j = sym (rb_block (i / 2 ^ j) j (i % 2 ^ j)) ∙ ap (λ (x : ℕ). rb x j) (split i j)

-- Reversed as a number of j + d digits, the j lowest come above and the next d below.
pub rb_split : (i j d : ℕ) → rb i (j + d) ≡ rb i j * 2 ^ d + rb (i / 2 ^ j) d
unfolding rb
rb_split i zero d = rw (zero-add d, div-one i) (omega arith)
rb_split i (suc j) d = rw (suc-add j d)
    (let ih = rb_split (i / 2) j d in
    let e : i / 2 / 2 ^ j ≡ i / 2 ^ suc j = shr-shr i 1 j ∙ ap (λ (x : ℕ). i / 2 ^ x) (one-add j) in
    let q : 2 ^ (j + d) ≡ 2 ^ j * 2 ^ d = pow-add 2 j d in
    rw (q, ih, e) (omega arith))

-- Dropping the lowest digits of the reversal drops the highest of the number.
pub rb_high : (i j d : ℕ) → rb i (j + d) / 2 ^ d ≡ rb i j
rb_high i j d = rw (rb_split i j d) (high (rb i j) d (rb_lt (i / 2 ^ j) d))

-- So the reversal as a number of n digits gives that of j digits.
pub rb_from : (i n j : ℕ) → j ≤ n → rb i n / 2 ^ (n - j) ≡ rb i j
rb_from i n j h =
    let e : n ≡ j + (n - j) = omega arith in
    ap (λ (x : ℕ). rb i x / 2 ^ (n - j)) e ∙ rb_high i j (n - j)

pub rb_of_zero : (j : ℕ) → rb zero j ≡ zero
unfolding rb
rb_of_zero zero = refl
rb_of_zero (suc j) = rw (rb_of_zero j) (omega arith)

pub rb_one : (i : ℕ) → rb i 1 ≡ i % 2
unfolding rb
rb_one i = omega arith

-- Reversed twice: the j lowest digits.
rb_twice : (i j : ℕ) → rb (rb i j) j ≡ i % 2 ^ j
unfolding rb
rb_twice i zero = sym (mod-one i)
rb_twice i (suc j) =
    let x = i % 2 * 2 ^ j + rb (i / 2) j in
    let s : rb x (j + 1) ≡ rb x j * 2 ^ 1 + rb (x / 2 ^ j) 1 = rb_split x j 1 in
    let lowest : rb x j ≡ i / 2 % 2 ^ j = rb_block (i % 2) j (rb (i / 2) j) ∙ rb_twice (i / 2) j in
    let highest : rb (x / 2 ^ j) 1 ≡ i % 2 = rb_one (x / 2 ^ j) ∙ ap (λ (y : ℕ). y % 2) (high (i % 2) j (rb_lt (i / 2) j)) ∙ mod-mod i 2 in
    let m : i % 2 ^ (j + 1) ≡ i / 2 % 2 ^ j * 2 + i % 2 = mod-pow-add i j 1 in
    let n : j + 1 ≡ suc j = add-one j in
    ap (rb x) (sym n) ∙ s ∙ ap₂ (λ (y z : ℕ). y * 2 + z) lowest highest ∙ sym m ∙ ap (λ (y : ℕ). i % 2 ^ y) n

-- The reversal of i is q just where the j lowest digits of i are the reversal of q.
pub rb_to : (i j q : ℕ) → rb i j ≡ q → i % 2 ^ j ≡ rb q j
rb_to i j q e = sym (rb_twice i j) ∙ ap (λ (x : ℕ). rb x j) e

pub rb_back : (i j q : ℕ) → q < 2 ^ j → i % 2 ^ j ≡ rb q j → rb i j ≡ q
rb_back i j q h e = sym (rb_mod i j) ∙ ap (λ (x : ℕ). rb x j) e ∙ rb_twice q j ∙ mod-eq_of_lt h
