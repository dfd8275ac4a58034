-- A neighbour's group table as it is lent (request No. 11; source document 000, section III): the starts S and the names N in list order, for C = 2 ^ k slots, where
-- k is the source's. Each list i below k holds streams of one rate; list k is the idle one. What the streams of a table are, and when it is refused.
-- Assumes nothing.
use Rattle.std.specs.Prelude.{◌≡◌, Bool, false, ◌||◌, not, List, [], ◌∷◌, ◌++◌, ℕ, zero, suc, ◌+◌, ◌-◌, ◌*◌, ◌/◌, ◌%◌, ◌^◌, ◌≤◌, ◌<◌, eqb, ltb, length, get_or}
use Rattle.pieces.specs.Streams.{Stream}

-- ---- lists and streams

-- The rate of list i.
abbrev pub rate : ℕ → ℕ → ℕ
rate k i = 2 ^ (k - suc i)

-- How many streams it holds: start i + 1 less start i, over its rate.
unfoldable pub stream_count : ℕ → List ℕ → ℕ → ℕ
stream_count k S i = (get_or S (suc i) 0 - get_or S i 0) / rate k i

-- At which place its names begin: after those of the lists before it.
unfoldable pub offset : ℕ → List ℕ → ℕ → ℕ
unfolding stream_count
offset k S zero = 0
offset k S (suc i) = offset k S i + stream_count k S i

-- The streams of n names from place a on, each with the weight w.
unfoldable pub streams_at : List ℕ → ℕ → ℕ → ℕ → List Stream
streams_at N w a zero = []
streams_at N w a (suc n) = record { name = get_or N a 0; weight = w } ∷ streams_at N w (suc a) n

-- The streams of n lists from list i on, in table order, each with its rate as weight.
unfoldable pub streams_from : ℕ → List ℕ → List ℕ → ℕ → ℕ → List Stream
streams_from k S N i zero = []
streams_from k S N i (suc n) = streams_at N (rate k i) (offset k S i) (stream_count k S i) ++ streams_from k S N (suc i) n

-- The streams of the table.
unfoldable pub table_streams : ℕ → List ℕ → List ℕ → List Stream
table_streams k S N = streams_from k S N 0 k

-- ---- 18 GROUP

-- List i disagrees with the starts: the next start is below its own, or their difference is no multiple of its rate.
abbrev pub bad_list : ℕ → List ℕ → ℕ → Bool
bad_list k S i = ltb (get_or S (suc i) 0) (get_or S i 0) || not (eqb ((get_or S (suc i) 0 - get_or S i 0) % rate k i) 0)

-- One of the n numbers from i on passes the test f.
unfoldable pub any_from : (ℕ → Bool) → ℕ → ℕ → Bool
any_from f i zero = false
any_from f i (suc n) = let later = any_from f (suc i) n in f i || later

-- The name at place i is 0, or stands at an earlier place too.
abbrev pub bad_name : List ℕ → ℕ → Bool
bad_name N i = eqb (get_or N i 0) 0 || any_from (λ j. eqb (get_or N j 0) (get_or N i 0)) 0 i

-- There are not k + 1 starts, or the first is not 0; a list disagrees with them; the last is above C, so that the rates sum above it; the names are not as many as
-- the lists hold; a name is 0 or repeated.
unfoldable pub faulty : ℕ → List ℕ → List ℕ → Bool
faulty k S N =
    not (eqb (length S) (suc k)) || (not (eqb (get_or S 0 0) 0) || (any_from (bad_list k S) 0 k
    || (ltb (2 ^ k) (get_or S k 0) || (not (eqb (length N) (offset k S k)) || any_from (bad_name N) 0 (length N)))))

-- A table without a fault, in words. That it is just one that is not `faulty`: proofs/Laws, `faultless` and `faultless_back`.
pub record Table (k : ℕ) (S N : List ℕ) : Type 0 where
  pub starts : length S ≡ suc k
  pub first : get_or S 0 0 ≡ 0
  pub lists : (i : ℕ) → i < k → get_or S (suc i) 0 ≡ get_or S i 0 + stream_count k S i * rate k i
  pub fits : get_or S k 0 ≤ 2 ^ k
  pub names : length N ≡ offset k S k
  pub named : (j : ℕ) → j < length N → get_or N j 0 ≡ 0 → ⊥
  pub distinct : (j l : ℕ) → j < length N → l < length N → get_or N j 0 ≡ get_or N l 0 → j ≡ l

-- What counting the names of its lists asks of starts: k + 1 of them, none below the one before.
pub record Rising (k : ℕ) (S : List ℕ) : Type 0 where
  pub starts : length S ≡ suc k
  pub up : (i : ℕ) → i < k → get_or S i 0 ≤ get_or S (suc i) 0
