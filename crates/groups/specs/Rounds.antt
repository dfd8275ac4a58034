-- The round of a group table by its own rule (source document 000, section III and figure 4): a counter of slots, the list whose range has the reversal of its
-- digits, and in each list a pointer that goes round its streams. Assumes nothing.
use Rattle.std.specs.Prelude.{◌≡◌, cond, Option, Some, None, List, [], ◌∷◌, ℕ, zero, suc, ◌+◌, ◌^◌, ◌<◌, ltb, length, get_or, set, replicate}
use Rattle.sequences.specs.Sequences.{rb}
use Rattle.groups.specs.Table.{stream_count, offset}

-- The list whose range, from its start to the next one, has v, looked for in the n lists from i on; i + n, the idle list, where none has.
unfoldable pub list_of : List ℕ → ℕ → ℕ → ℕ → ℕ
list_of S zero i v = i
list_of S (suc n) i v = let later = list_of S n (suc i) v in cond (ltb v (get_or S (suc i) 0)) i later

-- That list, where it is not the idle one.
abbrev pub list_found : ℕ → List ℕ → ℕ → Option ℕ
list_found k S v = cond (ltb (list_of S k 0 v) k) (Some (list_of S k 0 v)) None

-- A pointer into a list of c streams, moved to the next one.
abbrev pub next_pointer : ℕ → ℕ → ℕ
next_pointer c p = cond (ltb (suc p) c) (suc p) 0

-- The name that the value v selects by the pointers P: the one under its list's pointer; 0 for the idle list.
unfoldable pub slot_name : ℕ → List ℕ → List ℕ → List ℕ → ℕ → ℕ
unfolding list_of offset
slot_name k S N P v =
    let i = list_of S k 0 v in
    cond (ltb i k) (get_or N (offset k S i + get_or P i 0) 0) 0

-- And that pointer moved on.
unfoldable pub pointers_moved : ℕ → List ℕ → List ℕ → ℕ → List ℕ
unfolding list_of stream_count
pointers_moved k S P v = let i = list_of S k 0 v in set P i (next_pointer (stream_count k S i) (get_or P i 0))

-- The names of n slots from the counter's value t on: slot t selects the reversal of its k binary digits.
unfoldable pub slot_names_from : ℕ → List ℕ → List ℕ → List ℕ → ℕ → ℕ → List ℕ
unfolding slot_name pointers_moved rb
slot_names_from k S N P t zero = []
slot_names_from k S N P t (suc n) = slot_name k S N P (rb t k) ∷ slot_names_from k S N (pointers_moved k S P (rb t k)) (suc t) n

-- The pointers after n slots from t on.
unfoldable pub pointers_after : ℕ → List ℕ → List ℕ → ℕ → ℕ → List ℕ
unfolding pointers_moved rb
pointers_after k S P t zero = P
pointers_after k S P t (suc n) = pointers_after k S (pointers_moved k S P (rb t k)) (suc t) n

-- The round: C slots, from every pointer at the head of its list.
unfoldable pub round_of : ℕ → List ℕ → List ℕ → List ℕ
unfolding slot_names_from
round_of k S N = slot_names_from k S N (replicate k 0) 0 (2 ^ k)

-- n slots from slot t on, of rounds one after the other.
unfoldable pub slots : ℕ → List ℕ → List ℕ → ℕ → ℕ → List ℕ
unfolding slot_names_from pointers_after
slots k S N t n = slot_names_from k S N (pointers_after k S (replicate k 0) 0 t) t n

-- Each pointer stands at a stream of its list.
pub record Pointing (k : ℕ) (S P : List ℕ) : Type 0 where
  pub size : length P ≡ k
  pub within : (j : ℕ) → j < k → 0 < stream_count k S j → get_or P j 0 < stream_count k S j
