-- The closed forms of the two sequences as lists: the term at p of the weight spread sequence, and Lemma 4 of source document 001. Assumes nothing.
use mathlib.Core.Path.{◌≡◌, refl, sym, ap, ◌∙◌}
use mathlib.Core.List.{List, ◌∷◌, ◌++◌, map}
use Prim.Native.Nat.{ℕ, zero, suc, ◌+◌, ◌-◌, ◌*◌, ◌/◌, ◌^◌, ◌≤◌, ◌<◌}
use native.Mathlib.Nat.{div-eq_of_lt}
use native.Mathlib.Numerals.{add-one}
use native.Mathlib.Omega.{arith}
use native.Mathlib.Decide.{dec_lt}
use lib.Pow.{high}
use lib.Count.{count_trailing_zeros}
use lib.ListN.{length, get_or, length-append, length-map, get_or-append}
use lib.Seq.{get_or-append-add}
use Rattle.general.proofs.Laws.{map_at}
use Rattle.sequences.specs.Sequences.{wss, tss, rb}
use Rattle.sequences.specs.SlotOrder.{term}
use Rattle.sequences.proofs.Zeros.{zeros_low, zeros_of, zeros_width}
use Rattle.sequences.proofs.Reverse.{rb_split, rb_block, rb_of_zero}

pub tss_length : (n : ℕ) → length (tss n) ≡ 2 ^ n
unfolding tss
tss_length zero = refl
tss_length (suc n) =
    let e : length (tss n) ≡ 2 ^ n = tss_length n in
    simp (length-append, length-map) (omega arith)

pub wss_length : (k : ℕ) → suc (length (wss k)) ≡ 2 ^ k
unfolding wss
wss_length zero = refl
wss_length (suc k) =
    let e : suc (length (wss k)) ≡ 2 ^ k = wss_length k in
    simp length-append (omega arith)

-- Element i of two lists end to end, where i is in the second.
get_d_right : (xs ys : List ℕ) (i : ℕ) → length xs ≤ i → get_or (xs ++ ys) i 0 ≡ get_or ys (i - length xs) 0
get_d_right xs ys i h =
    let e : i ≡ length xs + (i - length xs) = omega arith in
    ap (λ (k : ℕ). get_or (xs ++ ys) k 0) e ∙ get_or-append-add xs ys (i - length xs) 0

abbrev twice : ℕ → ℕ
twice b = 2 * b

abbrev twice_one : ℕ → ℕ
twice_one b = 2 * b + 1

-- Lemma 4: term i of the time-slot sequence of order n is i reversed as a number of n digits.
abbrev Lemma4 : ℕ → ℕ → Type 0
Lemma4 n i = get_or (tss n) i 0 ≡ rb i n

tss_low : (n i : ℕ) → i < 2 ^ n → Lemma4 n i → get_or (map twice (tss n) ++ map twice_one (tss n)) i 0 ≡ rb i n * 2 + rb (i / 2 ^ n) 1
tss_low n i l ih =
    let s : length (tss n) ≡ 2 ^ n = tss_length n in
    let m : length (map twice (tss n)) ≡ length (tss n) = length-map (tss n) twice in
    let z : rb (i / 2 ^ n) 1 ≡ 0 = ap (λ (x : ℕ). rb x 1) (div-eq_of_lt l) ∙ rb_of_zero 1 in
    get_or-append (map twice (tss n)) (map twice_one (tss n)) 0 i (omega arith)
    ∙ map_at twice (tss n) i (omega arith) ∙ (omega arith)

tss_high : (n i : ℕ) → 2 ^ n ≤ i → i < 2 ^ suc n → Lemma4 n (i - 2 ^ n)
    → get_or (map twice (tss n) ++ map twice_one (tss n)) i 0 ≡ rb i n * 2 + rb (i / 2 ^ n) 1
unfolding rb
tss_high n i l h ih =
    let s : length (tss n) ≡ 2 ^ n = tss_length n in
    let m : length (map twice (tss n)) ≡ length (tss n) = length-map (tss n) twice in
    let e : i ≡ 1 * 2 ^ n + (i - 2 ^ n) = omega arith in
    let q : i / 2 ^ n ≡ 1 = ap (λ (x : ℕ). x / 2 ^ n) e ∙ high 1 n (omega arith) in
    let z : rb (i / 2 ^ n) 1 ≡ 1 = ap (λ (x : ℕ). rb x 1) q in
    let b : rb i n ≡ rb (i - 2 ^ n) n = ap (λ (x : ℕ). rb x n) e ∙ rb_block 1 n (i - 2 ^ n) in
    get_d_right (map twice (tss n)) (map twice_one (tss n)) i (omega arith)
    ∙ ap (λ (x : ℕ). get_or (map twice_one (tss n)) (i - x) 0) (m ∙ s)
    ∙ map_at twice_one (tss n) (i - 2 ^ n) (omega arith) ∙ (omega arith)

tss_halves : (n i : ℕ) → Dec (i < 2 ^ n) → i < 2 ^ suc n → ((i : ℕ) → i < 2 ^ n → Lemma4 n i)
    → get_or (map twice (tss n) ++ map twice_one (tss n)) i 0 ≡ rb i n * 2 + rb (i / 2 ^ n) 1
tss_halves n i (yes l) h ih = tss_low n i l (ih i l)
tss_halves n i (no l) h ih = tss_high n i (omega arith) h (ih (i - 2 ^ n) (omega arith))

pub tss_term : (n i : ℕ) → i < 2 ^ n → get_or (tss n) i 0 ≡ rb i n
unfolding tss rb
tss_term zero zero h = refl
tss_term zero (suc i) h = omega arith
tss_term (suc n) i h = tss_halves n i (dec_lt i (2 ^ n)) h (tss_term n) ∙ sym (rb_split i n 1) ∙ ap (rb i) (add-one n)

-- The term at p of the weight spread sequence of order k, with p = q + 1 and the list counted from 0: one more than the trailing zeros of p.
abbrev pub Closed : ℕ → ℕ → Type 0
Closed k q = get_or (wss k) q 0 ≡ term k (suc q)

wss_low : (k q : ℕ) → suc q < 2 ^ k → Closed k q → get_or (wss k ++ (suc k ∷ wss k)) q 0 ≡ term (suc k) (suc q)
unfolding term
wss_low k q h ih =
    let s : suc (length (wss k)) ≡ 2 ^ k = wss_length k in
    get_or-append (wss k) (suc k ∷ wss k) 0 q (omega arith) ∙ ih ∙ ap suc (sym (zeros_width k (suc k) (suc q) (omega arith) h (omega arith)))

-- At the middle, m = 0, and after it.
wss_high : (k m : ℕ) → m < 2 ^ k → ((q : ℕ) → suc q < 2 ^ k → Closed k q) → get_or (suc k ∷ wss k) m 0 ≡ term (suc k) (2 ^ k + m)
unfolding term
wss_high k zero h ih =
    let e : 2 ^ k + 0 ≡ 0 * 2 ^ suc k + 2 ^ k = omega arith in
    ap suc (sym (ap (count_trailing_zeros (suc k)) e ∙ zeros_of k (suc k) 0 (omega arith)))
wss_high k (suc m) h ih =
    let e : 2 ^ k + suc m ≡ 1 * 2 ^ k + suc m = omega arith in
    ih m h ∙ ap suc (sym (ap (count_trailing_zeros (suc k)) e ∙ zeros_low k (suc k) 1 (suc m) (omega arith) h (omega arith)))

wss_halves : (k q : ℕ) → Dec (suc q < 2 ^ k) → suc q < 2 ^ suc k → ((q : ℕ) → suc q < 2 ^ k → Closed k q)
    → get_or (wss k ++ (suc k ∷ wss k)) q 0 ≡ term (suc k) (suc q)
wss_halves k q (yes l) h ih = wss_low k q l (ih q l)
wss_halves k q (no l) h ih =
    let s : suc (length (wss k)) ≡ 2 ^ k = wss_length k in
    let e : 2 ^ k + (q - length (wss k)) ≡ suc q = omega arith in
    get_d_right (wss k) (suc k ∷ wss k) q (omega arith) ∙ wss_high k (q - length (wss k)) (omega arith) ih ∙ ap (term (suc k)) e

pub wss_closed : (k q : ℕ) → suc q < 2 ^ k → Closed k q
unfolding wss
wss_closed zero q h = omega arith
wss_closed (suc k) q h = wss_halves k q (dec_lt (suc q) (2 ^ k)) h (wss_closed k)

pub wss_term : (k p : ℕ) → zero < p → p < 2 ^ k → get_or (wss k) (p - 1) 0 ≡ term k p
wss_term k p h l =
    let e : suc (p - 1) ≡ p = omega arith in
    wss_closed k (p - 1) (omega arith) ∙ ap (term k) e
