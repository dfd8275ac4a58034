-- Fairness within a round: how often a run is served in a window of positions, and the arithmetic that turns positions into slots. Assumes nothing.
use mathlib.Core.Path.{◌≡◌}
use Prim.Native.Nat.{ℕ, zero, ◌+◌, ◌*◌, ◌%◌, ◌^◌, ◌≤◌, ◌<◌}
use native.Mathlib.Nat.{mul-le-mul_left, mul-lt-mul_of_pos_left, lt_of_mul-lt-mul_left, le_of_lt}
use native.Mathlib.Omega.{arith}
use lib.Count.{ones}
use Rattle.sequences.specs.SlotOrder.{digits, Position}
use Rattle.sequences.specs.Serving.{count_in, count_list, in_run, serves_run, left, leaves_from}
use Rattle.sequences.proofs.Trees.{run_spread}
use Rattle.sequences.proofs.Runs.{run_tree}
use Rattle.sequences.proofs.Rounds.{slots_spread}
use Rattle.sequences.proofs.Walk.{walk}

-- K * s is w * T up to less than m * K, and K * t is C * T up to less than h * K: then C * s is w * t up to less than m * C + w * h.
pub combine : (K C T s w m t h : ℕ) → zero < C → K * s < w * T + m * K → w * T < K * s + m * K → K * t < C * T + h * K → C * T < K * t + h * K
    → (C * s < w * t + (m * C + w * h)) × (w * t < C * s + (m * C + w * h))
combine K C T s w m t h some a b c d =
    let a' : C * (K * s) < C * (w * T + m * K) = mul-lt-mul_of_pos_left a some in
    let b' : C * (w * T) < C * (K * s + m * K) = mul-lt-mul_of_pos_left b some in
    let c' : w * (K * t) ≤ w * (C * T + h * K) = mul-le-mul_left w (le_of_lt c) in
    let d' : w * (C * T) ≤ w * (K * t + h * K) = mul-le-mul_left w (le_of_lt d) in
    let x : K * (C * s) < K * (w * t + (m * C + w * h)) = omega arith in
    let y : K * (w * t) < K * (C * s + (m * C + w * h)) = omega arith in
    (lt_of_mul-lt-mul_left K x, lt_of_mul-lt-mul_left K y)

-- Among T positions in a row a run of 2 ^ l leaves is served 2 ^ l * T / 2 ^ k times, up to less than one.
pub run_window : (C a l P T : ℕ) → zero < C → C < 4096 → a % 2 ^ l ≡ 0 → a + 2 ^ l ≤ C → zero < P → P + T ≤ 2 ^ digits C
    → (2 ^ digits C * count_in (serves_run C a l) P T < 2 ^ l * T + 2 ^ digits C)
    × (2 ^ l * T < 2 ^ digits C * count_in (serves_run C a l) P T + 2 ^ digits C)
run_window C a l P T some few multiple fits first last =
    let i = run_tree C a l multiple fits in
    rw i.place (run_spread C i.t i.m l i.q P T i.order some few i.set i.within first last)

-- Among n slots in a row it is served 2 ^ l * n / C times, up to less than 1 + 2 ^ l * h / C, with h the ones of C.
pub run_fair : (C a l p n : ℕ) → Position C p → a % 2 ^ l ≡ 0 → a + 2 ^ l ≤ C → n ≤ left C p
    → (C * count_list (in_run a l) (leaves_from C p n) < 2 ^ l * n + (1 * C + 2 ^ l * ones C))
    × (2 ^ l * n < C * count_list (in_run a l) (leaves_from C p n) + (1 * C + 2 ^ l * ones C))
run_fair C a l p n at multiple fits h =
    let w = walk C n p at h in
    let T = w.over in
    let r = run_window C a l p T at.some at.few multiple fits at.first w.within in
    let s = slots_spread C p T at.some at.few at.first w.within in
    let e : count_list (in_run a l) (leaves_from C p n) ≡ count_in (serves_run C a l) p T = w.leaves (in_run a l) in
    let f = w.slots in
    rw e
    (combine (2 ^ digits C) C T (count_in (serves_run C a l) p T) (2 ^ l) 1 n (ones C) at.some (omega arith) (omega arith) (rw f at s.0) (rw f at s.1))
