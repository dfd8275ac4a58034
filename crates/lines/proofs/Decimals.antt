-- The decimal digits of a number: its last digit after the digits of a tenth of it, and how many there are. Assumes nothing.
use mathlib.Core.Path.{◌≡◌, refl, sym, ap, ◌∙◌}
use mathlib.Core.List.{List, [], ◌∷◌, ◌++◌, append-nil, append_assoc}
use Prim.Native.Nat.{ℕ, zero, suc, ◌+◌, ◌-◌, ◌*◌, ◌/◌, ◌%◌, ◌^◌, ◌≤◌, ◌<◌}
use native.Mathlib.Omega.{arith}
use native.Mathlib.Decide.{dec_lt}
use native.Mathlib.Nat.{add-zero, zero-add, add-suc, suc-add, pow-succ'}
use lib.Dec.{ltb}
use lib.ListN.{length, get_or, take, drop, set, length-append, length-drop, drop_of_length-le}
use lib.Seq.{sets, length-sets, sets-eq, take_all, drop-drop, take-suc}
use borrow.Author.Tests.{lt-ltb, le-ltb}
use Rattle.general.proofs.Laws.{by_bool, sets_append}
use Rattle.std.specs.Fmt as text
use Rattle.std.proofs.lemmas.Fmt.{decimal_by_steps}
use Rattle.lines.specs.Printing.{decimal_in, decimal, field, fields, line}

-- more steps than n change nothing
fuel : (f g n : ℕ) → n ≤ f → n ≤ g → decimal_in f n ≡ decimal_in g n
unfolding decimal_in
fuel zero zero n h k = refl
fuel zero (suc g) n h k = rw (lt-ltb n 10 (omega arith)) refl
fuel (suc f) zero n h k = rw (lt-ltb n 10 (omega arith)) refl
fuel (suc f) (suc g) n h k = by_bool (ltb n 10) (λ t. rw t refl) (λ e. rw (fuel f g (n / 10) (omega arith) (omega arith)) refl)

pub decimal_one : (n : ℕ) → n < 10 → decimal n ≡ (48 + n) ∷ []
unfolding decimal decimal_in
decimal_one zero h = refl
decimal_one (suc n) h = rw (lt-ltb (suc n) 10 h) refl

pub decimal_more : (n : ℕ) → 10 ≤ n → decimal n ≡ decimal (n / 10) ++ ((48 + n % 10) ∷ [])
unfolding decimal decimal_in
decimal_more zero h = absurd (omega arith)
decimal_more (suc n) h = rw (le-ltb (suc n) 10 h, fuel n (suc n / 10) (suc n / 10) (omega arith) (omega arith)) refl

-- the digits are those that the library's printer writes
pub decimal_written : (n : ℕ) → n < 2 ^ 64 → decimal n ≡ text.decimal n
decimal_written n h = decimal_by_steps (λ m ds. decimal m ≡ ds) decimal_one (λ m ds k e. decimal_more m k ∙ ap (λ l. l ++ ((48 + m % 10) ∷ [])) e) n h

-- how many digits a number has
pub digits_more : (n : ℕ) → 10 ≤ n → length (decimal n) ≡ suc (length (decimal (n / 10)))
digits_more n h = rw (decimal_more n h, length-append) (omega arith)

pub digits_two : (n : ℕ) → 10 ≤ n → n < 100 → length (decimal n) ≡ 2
digits_two n h k = digits_more n h ∙ ap suc (ap length (decimal_one (n / 10) (omega arith)))

pub digits_three : (n : ℕ) → 100 ≤ n → n < 1000 → length (decimal n) ≡ 3
digits_three n h k = digits_more n (omega arith) ∙ ap suc (digits_two (n / 10) (omega arith) (omega arith))

pub digits_four : (n : ℕ) → 1000 ≤ n → n < 10000 → length (decimal n) ≡ 4
digits_four n h k = digits_more n (omega arith) ∙ ap suc (digits_three (n / 10) (omega arith) (omega arith))

pub digits_past_four : (n : ℕ) → 10000 ≤ n → length (decimal n) ≡ 4 + length (decimal (n / 10000))
digits_past_four n h =
    let e : n / 10 / 10 / 10 / 10 ≡ n / 10000 = omega arith in
    omega (arith, digits_more n (omega arith), digits_more (n / 10) (omega arith), digits_more (n / 10 / 10) (omega arith), digits_more (n / 10 / 10 / 10) (omega arith), ap (λ m. length (decimal m)) e)

-- a number below 10^(k+1) has at most k + 1 digits
pub decimal_length : (k n : ℕ) → n < 10 ^ suc k → length (decimal n) ≤ suc k
decimal_length zero n h = rw (decimal_one n h) (omega arith)
decimal_length (suc k) n h =
    elim (dec_lt n 10) [
      | yes l ↦ rw (decimal_one n l) (omega arith)
      | no l ↦ rw (decimal_more n (omega arith), length-append)
          (let t : 10 ^ suc (suc k) ≡ 10 * 10 ^ suc k = pow-succ' 10 (suc k) in
          omega (arith, decimal_length k (n / 10) (omega arith)))
    ]

-- one byte more at the end of what is stored
pub sets_snoc : (l : List ℕ) (i : ℕ) (vs : List ℕ) (a : ℕ) → set (sets l i vs) (i + length vs) a ≡ sets l i (vs ++ (a ∷ []))
sets_snoc l i [] a = rw add-zero refl
sets_snoc l i (v ∷ vs) a = rw (add-suc, ← suc-add) (sets_snoc (set l i v) (suc i) vs a)

-- what is stored at the start
pub sets_front : (v l : List ℕ) → length v ≤ length l → sets l 0 v ≡ v ++ drop (length v) l
sets_front v l h = sets-eq v l 0 (rw zero-add h) ∙ rw zero-add refl

-- what is stored at the start of what lies after a place is stored at that place
pub sets_part : (l v : List ℕ) (i k : ℕ) → k ≡ length l - i → i + length v ≤ length l → take i l ++ (sets (take k (drop i l)) 0 v ++ drop k (drop i l)) ≡ sets l i v
sets_part l v i k e h =
    let d : length (drop i l) ≡ k = rw length-drop (sym e) in
    let f : length v ≤ length (drop i l) = omega (arith, d) in
    rw (take_all k (drop i l) (omega (arith, d)), drop_of_length-le (drop i l) {i = k} (omega (arith, d)), sets_front v (drop i l) f, sets-eq v l i h, drop-drop (length v) i l, append-nil, append_assoc) refl

-- ---- values and lines

-- a value below 10^(k+1) has at most k + 1 digits, after a space
pub field_length : (k n : ℕ) → n < 10 ^ suc k → length (field n) ≤ suc (suc k)
unfolding field
field_length k n h = omega (arith, decimal_length k n h)

-- one value
pub fields_one : (n : ℕ) → fields (n ∷ []) ≡ field n
unfolding fields
fields_one n = append-nil (field n)

pub fields_append : (ns : List ℕ) (n : ℕ) → fields (ns ++ (n ∷ [])) ≡ fields ns ++ field n
unfolding fields
fields_append [] n = append-nil (field n)
fields_append (m ∷ ns) n = rw (fields_append ns n) (sym (append_assoc (field m) (fields ns) (field n)))

-- one value more of a list of them
pub fields_more : (ns : List ℕ) (i : ℕ) → i < length ns → fields (take (suc i) ns) ≡ fields (take i ns) ++ field (get_or ns i 0)
fields_more ns i h = rw (take-suc ns i 0 h) (fields_append (take i ns) (get_or ns i 0))

-- each value has room where all have
pub fields_fit : (ns : List ℕ) (i : ℕ) → i < length ns → length (fields (take i ns)) + length (field (get_or ns i 0)) ≤ length (fields ns)
unfolding fields
fields_fit [] i h = absurd (omega arith)
fields_fit (n ∷ ns) zero h = rw length-append (omega arith)
fields_fit (n ∷ ns) (suc i) h = simp length-append (omega (arith, fields_fit ns i (omega arith)))

-- values stored one after the other
pub fields_put : (l : List ℕ) (ns : List ℕ) (i : ℕ) → i < length ns
    → sets (sets l 0 (fields (take i ns))) (length (fields (take i ns))) (field (get_or ns i 0)) ≡ sets l 0 (fields (take (suc i) ns))
fields_put l ns i h = rw (fields_more ns i h, ← zero-add (length (fields (take i ns)))) (sets_append l 0 (fields (take i ns)) (field (get_or ns i 0)))

pub line_length : (n : ℕ) (vs : List ℕ) → length (line n vs) ≡ length (decimal n) + length (fields vs) + 1
unfolding line
line_length n vs = rw (length-append, length-append) (omega arith)

-- a line is its number, its values and a line feed, one after the other: O₁ has the number, O₂ is what lies after it and has the values
module _ (O O₁ O₂ : List ℕ) (n : ℕ) (vs : List ℕ) (a b : ℕ) (da : a ≡ length (decimal n)) (d : O₁ ≡ sets O 0 (decimal n)) (fb : b ≡ length (fields vs))
    (f : O₂ ≡ sets (take (length O₁ - a) (drop a O₁)) 0 (fields vs)) (h : length (line n vs) ≤ length O) where
  long : length O₁ ≡ length O
  long = rw (d, length-sets) refl

  fits : a + length (fields vs) ≤ length O₁
  fits = omega (arith, long, line_length n vs)

  values : take a O₁ ++ (O₂ ++ drop (length O₁ - a) (drop a O₁)) ≡ sets O₁ a (fields vs)
  values = rw f (sets_part O₁ (fields vs) a (length O₁ - a) refl fits)

  pub feed_place : a + b < length (take a O₁ ++ (O₂ ++ drop (length O₁ - a) (drop a O₁)))
  feed_place = rw (values, length-sets) (omega (arith, long, line_length n vs))

  pub line_put : set (take a O₁ ++ (O₂ ++ drop (length O₁ - a) (drop a O₁))) (a + b) 10 ≡ sets O 0 (line n vs)
  unfolding line
  line_put = rw (values, d, da, fb) (sets_snoc (sets O 0 (decimal n)) (length (decimal n)) (fields vs) 10 ∙ rw zero-add at (sets_append O 0 (decimal n) (fields vs ++ (10 ∷ []))))
