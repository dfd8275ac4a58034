-- The laws that upper crates cite, each under a name that says what holds. Nothing else of proofs/ is meant for them.
-- Throughout, C is the capacity, 1 to 4,095, k = digits C, and p a position; Position C p says that both are in range. Assumes nothing.
use mathlib.Core.Path.{◌≡◌}
use mathlib.Core.Bool.{Bool, true, false}
use mathlib.Core.List.{List, [], ◌∷◌, ◌++◌, map}
use Prim.Native.Nat.{ℕ, zero, suc, ◌+◌, ◌-◌, ◌*◌, ◌/◌, ◌%◌, ◌^◌, ◌≤◌, ◌<◌}
use lib.Count.{ones}
use lib.Dec.{eqb}
use lib.ListN.{length, get_or, replicate}
use Rattle.general.specs.Tests.{one}
use Rattle.sequences.specs.Sequences.{wss, tss, rb}
use Rattle.sequences.specs.SlotOrder.{digits, term, start, leaf_at, passed_from, served_from, next_from, Position}
use Rattle.sequences.specs.Serving.{count_in, count_list, serves, in_run, serves_run, left, leaves_from, after_slots, Walked}
use Rattle.sequences.specs.Scanning.{round_leaves}
use Rattle.sequences.proofs.Reverse as reverse
use Rattle.sequences.proofs.Places as places
use Rattle.sequences.proofs.Lists as lists
use Rattle.sequences.proofs.Stepping as stepping
use Rattle.sequences.proofs.Successive as successive
use Rattle.sequences.proofs.Counting as counting
use Rattle.sequences.proofs.Rounds as rounds
use Rattle.sequences.proofs.Walk as walks
use Rattle.sequences.proofs.Scan as scans
use Rattle.sequences.proofs.Halves as halves
use Rattle.sequences.proofs.Fair as fair
use Rattle.sequences.proofs.Powers as powers

-- C is below 2 ^ k.
pub digits_lt : (C : ℕ) → C < 2 ^ digits C
digits_lt = places.digits_lt

-- C is at least half of 2 ^ k.
pub digits_le : (C : ℕ) → zero < C → 2 ^ digits C ≤ 2 * C
digits_le = places.digits_le

-- k is at least 1.
pub digits_pos : (C : ℕ) → zero < C → zero < digits C
digits_pos = places.digits_pos

-- k is at most 12.
pub digits_small : (C : ℕ) → zero < C → C < 4096 → digits C ≤ 12
digits_small = stepping.digits_small

-- C has at most w digits if it is below 2 ^ w.
pub digits_width : (C w : ℕ) → zero < C → C < 2 ^ w → digits C ≤ w
digits_width = places.digits_width

-- A position is below 4,096.
pub position_small : (C p : ℕ) → Position C p → p < 4096
position_small = stepping.position_small

-- 1 shifted by k is 2 ^ k in 64 digits: how code has 2 ^ k.
pub shift_exact : (k : ℕ) → k < 64 → 1 * 2 ^ k % 2 ^ 64 ≡ 2 ^ k
shift_exact = places.shift_exact

-- p = 1, where a round starts, is a position.
pub first_position : (C : ℕ) → zero < C → C < 4096 → Position C 1
first_position = walks.first_position

-- A slot passes over at most one term.
pub passed_one : (C p : ℕ) → Position C p → passed_from C p ≤ 1
passed_one C p at = (stepping.served C p at).passed

-- The terms that it passes over, from its position to the one that it serves, are clear.
pub passed_clear : (C p x : ℕ) → Position C p → p ≤ x → x < served_from C p → serves C x ≡ false
passed_clear = stepping.passed_clear

-- The position that it serves is one of the round.
pub served_position : (C p : ℕ) → Position C p → Position C (served_from C p)
served_position C p at = (stepping.served C p at).here

-- The term that it serves is not clear.
pub served_serves : (C p : ℕ) → Position C p → serves C (served_from C p) ≡ true
served_serves = stepping.served_serves

-- The leaf served is below C.
pub leaf_below_lem : (C p : ℕ) → Position C p → leaf_at C (served_from C p) < C
leaf_below_lem C p at = (stepping.served C p at).leaf

-- The position after a slot is valid.
pub next_position : (C p : ℕ) → Position C p → Position C (next_from C p)
next_position C p at = (stepping.served C p at).next

-- The last term serves.
pub last_serves : (C : ℕ) → zero < C → C < 4096 → serves C (2 ^ digits C - 1) ≡ true
last_serves = stepping.last_term_serves

-- n slots serve n leaves.
pub leaves_length : (C p n : ℕ) → length (leaves_from C p n) ≡ n
leaves_length = successive.leaves_length

-- One slot more is one leaf more at the end.
pub leaves_more : (C p n : ℕ) → leaves_from C p (suc n) ≡ leaves_from C p n ++ (leaf_at C (served_from C (after_slots C p n)) ∷ [])
leaves_more = successive.leaves_more

-- One slot more is one step more of the position.
pub after_more_slots : (C p n : ℕ) → after_slots C p (suc n) ≡ next_from C (after_slots C p n)
after_more_slots = successive.after_more_slots

-- The position after n slots is valid.
pub after_slots_valid : (C p n : ℕ) → Position C p → Position C (after_slots C p n)
after_slots_valid = successive.after_slots_valid

-- The leaf of slot i of n, counted from 0.
pub leaves_at : (C p n i : ℕ) → i < n → get_or (leaves_from C p n) i 0 ≡ leaf_at C (served_from C (after_slots C p i))
leaves_at = successive.leaves_at

-- The leaves of m slots and n more.
pub leaves_append : (C p m n : ℕ) → leaves_from C p (m + n) ≡ leaves_from C p m ++ leaves_from C (after_slots C p m) n
leaves_append = successive.leaves_append

-- The position after m slots and n more.
pub after_append : (C p m n : ℕ) → after_slots C p (m + n) ≡ after_slots C (after_slots C p m) n
after_append = successive.after_append

-- The C slots of a round, from p = 1, serve each leaf exactly once.
pub round_once : (C x : ℕ) → C < 4096 → x < C → count_list (λ (y : ℕ). eqb y x) (leaves_from C 1 C) ≡ 1
round_once = walks.round_once

-- Of these slots as many serve a leaf that passes a test as there are such leaves.
pub round_counts : (C : ℕ) → C < 4096 → (f : ℕ → Bool) → count_list f (leaves_from C 1 C) ≡ count_in f 0 C
round_counts = halves.round_counts

-- The round of 2 C + b, with b 0 or 1, is the round of C on the even leaves, the last leaf if b is 1, and the round of C on the odd leaves.
pub round_halves : (C b : ℕ) → zero < C → b < 2 → 2 * C + b < 4096
    → leaves_from (2 * C + b) 1 (2 * C + b) ≡ map (λ i. 2 * i) (leaves_from C 1 C) ++ (replicate b (2 * C) ++ map (λ i. 2 * i + 1) (leaves_from C 1 C))
round_halves = halves.round_halves

-- They end at p = 1.
pub round_ends : (C : ℕ) → zero < C → C < 4096 → after_slots C 1 C ≡ 1
round_ends = walks.round_ends

-- RB of i in j digits is below 2 ^ j.
pub rb_lt : (i j : ℕ) → rb i j < 2 ^ j
rb_lt = reverse.rb_lt

-- Reversed as a number of j + d digits, the j lowest come above and the next d below.
pub rb_split : (i j d : ℕ) → rb i (j + d) ≡ rb i j * 2 ^ d + rb (i / 2 ^ j) d
rb_split = reverse.rb_split

-- Numbers are counted alike by tests that agree on them.
pub count_same : (f g : ℕ → Bool) (P T : ℕ) → ((x : ℕ) → P ≤ x → x < P + T → f x ≡ g x) → count_in f P T ≡ count_in g P T
count_same = counting.count_same

-- A window of numbers that are counted, and the next one.
pub count_append : (f : ℕ → Bool) (P S T : ℕ) → count_in f P (S + T) ≡ count_in f P S + count_in f (P + S) T
count_append = counting.count_append

-- One number more in a window of numbers that are counted.
pub count_more : (f : ℕ → Bool) (P T : ℕ) → count_in f P (suc T) ≡ count_in f P T + one (f (P + T))
count_more = counting.count_more

-- What two lists, one after the other, and a mapped list have of a test.
pub list_append : (f : ℕ → Bool) (L M : List ℕ) → count_list f (L ++ M) ≡ count_list f L + count_list f M
list_append = halves.list_append

pub count_map : (f : ℕ → Bool) (g : ℕ → ℕ) (L : List ℕ) → count_list f (map g L) ≡ count_list (λ (x : ℕ). f (g x)) L
count_map = halves.list_map

-- From p = 1 there are C slots left in the round.
pub left_first : (C : ℕ) → zero < C → C < 4096 → left C 1 ≡ C
left_first = walks.left_first

-- n slots leave n fewer, until the round ends.
pub left_after : (C p n : ℕ) → Position C p → n < left C p → left C (after_slots C p n) + n ≡ left C p
left_after = walks.left_after

-- t slots after the first i of a round are within it.
pub left_within : (C : ℕ) → zero < C → C < 4096 → (i t : ℕ) → i < C → i + t ≤ C → t ≤ left C (after_slots C 1 i)
left_within = walks.left_within

-- n slots within a round are the serving positions of a window: their number, their leaves, and where they end.
pub walk : (C n p : ℕ) → Position C p → n ≤ left C p → Walked C p n
walk = walks.walk

-- A window of T positions has C * T / 2 ^ k slots, up to less than the ones of C.
pub slots_spread : (C P T : ℕ) → zero < C → C < 4096 → zero < P → P + T ≤ 2 ^ digits C
    → (2 ^ digits C * count_in (serves C) P T < C * T + ones C * 2 ^ digits C) × (C * T < 2 ^ digits C * count_in (serves C) P T + ones C * 2 ^ digits C)
slots_spread = rounds.slots_spread

-- A run of 2 ^ l leaves is served 2 ^ l * T / 2 ^ k times in a window of T positions, up to less than one.
pub run_window : (C a l P T : ℕ) → zero < C → C < 4096 → a % 2 ^ l ≡ 0 → a + 2 ^ l ≤ C → zero < P → P + T ≤ 2 ^ digits C
    → (2 ^ digits C * count_in (serves_run C a l) P T < 2 ^ l * T + 2 ^ digits C)
    × (2 ^ l * T < 2 ^ digits C * count_in (serves_run C a l) P T + 2 ^ digits C)
run_window = fair.run_window

-- The two counts of one window, with K = 2 ^ k, m runs of w leaves in all and h ones of C, make |C s - w t| < m C + w h.
pub combine : (K C T s w m t h : ℕ) → zero < C → K * s < w * T + m * K → w * T < K * s + m * K → K * t < C * T + h * K → C * T < K * t + h * K
    → (C * s < w * t + (m * C + w * h)) × (w * t < C * s + (m * C + w * h))
combine = fair.combine

-- For one run, in n slots within a round.
pub run_fair : (C a l p n : ℕ) → Position C p → a % 2 ^ l ≡ 0 → a + 2 ^ l ≤ C → n ≤ left C p
    → (C * count_list (in_run a l) (leaves_from C p n) < 2 ^ l * n + (1 * C + 2 ^ l * ones C))
    × (2 ^ l * n < C * count_list (in_run a l) (leaves_from C p n) + (1 * C + 2 ^ l * ones C))
run_fair = fair.run_fair

-- For C = 2 ^ n, a run of 2 ^ l leaves is served s times in any t slots in a row, over any number of rounds, with |C s - 2 ^ l t| < C.
pub power_window : (n a l p t : ℕ) → Position (2 ^ n) p → a % 2 ^ l ≡ 0 → a + 2 ^ l ≤ 2 ^ n
    → (2 ^ n * count_list (in_run a l) (leaves_from (2 ^ n) p t) < 2 ^ l * t + 2 ^ n)
    × (2 ^ l * t < 2 ^ n * count_list (in_run a l) (leaves_from (2 ^ n) p t) + 2 ^ n)
power_window = powers.power_window

-- For C = 2 ^ n, a slot with X slots before it, counted modulo C, serves the leaf RB(X, n),
pub power_leaf : (n p X : ℕ) → Position (2 ^ n) p → X % 2 ^ n ≡ p / 2 → leaf_at (2 ^ n) (served_from (2 ^ n) p) ≡ rb X n
power_leaf = powers.slot_leaf

-- and the next slot has X + 1 before it.
pub power_next : (n p X : ℕ) → Position (2 ^ n) p → X % 2 ^ n ≡ p / 2 → suc X % 2 ^ n ≡ next_from (2 ^ n) p / 2
power_next = powers.slot_next

-- The weight spread sequence of order k, as a list, has 2 ^ k - 1 terms.
pub wss_length : (k : ℕ) → suc (length (wss k)) ≡ 2 ^ k
wss_length = lists.wss_length

-- Its term at p is one more than the trailing zeros of p.
pub wss_term : (k p : ℕ) → zero < p → p < 2 ^ k → get_or (wss k) (p - 1) 0 ≡ term k p
wss_term = lists.wss_term

-- The time-slot sequence of order n, as a list, has 2 ^ n entries.
pub tss_length : (n : ℕ) → length (tss n) ≡ 2 ^ n
tss_length = lists.tss_length

-- Lemma 4 of source document 001: its entry i is RB(i, n).
pub tss_term : (n i : ℕ) → i < 2 ^ n → get_or (tss n) i 0 ≡ rb i n
tss_term = lists.tss_term

-- The term v at p has stood p / 2 ^ v times at the positions 1 to p - 1.
pub term_before : (k p : ℕ) → zero < p → p < 2 ^ k → count_in (λ (x : ℕ). eqb (term k x) (term k p)) 1 (p - 1) ≡ p / 2 ^ term k p
term_before = scans.term_before

-- The leaf of a position, read off the two lists.
pub leaf_literal : (C p : ℕ) → Position C p
    → leaf_at C p
    ≡ start C (digits C - get_or (wss (digits C)) (p - 1) 0)
    + get_or (tss (digits C - get_or (wss (digits C)) (p - 1) 0)) (p / 2 ^ get_or (wss (digits C)) (p - 1) 0) 0
leaf_literal = scans.leaf_literal

-- The slots of a whole round are those of G-3's two sequences, scanned as lists.
pub round_literal : (C : ℕ) → zero < C → C < 4096 → leaves_from C 1 C ≡ round_leaves C
round_literal = scans.round_literal
