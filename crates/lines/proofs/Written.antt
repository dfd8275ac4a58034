-- What is told of a written line, and that a reply has room. Assumes nothing.
use mathlib.Core.Path.{◌≡◌, ap}
use mathlib.Core.List.{List, [], ◌∷◌}
use Prim.Native.Nat.{ℕ, suc, ◌+◌, ◌*◌, ◌^◌, ◌≤◌, ◌<◌}
use native.Mathlib.Omega.{arith}
use lib.ListN.{length, get_or, length-append}
use lib.Seq.{sets}
use Rattle.lines.specs.Printing.{fields, line}
use Rattle.lines.specs.Replies.{reply_bytes, Written}
use Rattle.lines.proofs.Decimals.{decimal_length, field_length, fields_one, line_length}

-- a line of a number alone
pub alone_length : (n : ℕ) → n < 2 ^ 64 → length (line n []) ≤ 21
unfolding fields
alone_length n h = omega (arith, line_length n [], decimal_length 19 n (omega arith))

-- a line of a number and a value
pub value_length : (n v : ℕ) → n < 2 ^ 64 → v < 2 ^ 64 → length (line n (v ∷ [])) ≤ 42
value_length n v h k = omega (arith, line_length n (v ∷ []), ap length (fields_one v), decimal_length 19 n (omega arith), field_length 19 v (omega arith))

-- values of 16 bits
values_length : (vs : List ℕ) → ((i : ℕ) → get_or vs i 0 < 65536) → length (fields vs) ≤ 6 * length vs
unfolding fields
values_length [] h = omega arith
values_length (v ∷ vs) h = rw length-append (omega (arith, field_length 4 v (omega (arith, h 0)), values_length vs (λ i. h (suc i))))

-- a line of a number of at most two digits and values of 16 bits
pub names_length : (n : ℕ) (vs : List ℕ) → n < 100 → ((i : ℕ) → get_or vs i 0 < 65536) → length (line n vs) ≤ 3 + 6 * length vs
names_length n vs h k = omega (arith, line_length n vs, decimal_length 1 n h, values_length vs k)

pub wrote : (n : ℕ) (vs O : List ℕ) (to : ℕ) (O' : List ℕ) (k : ℕ) → (to ≡ length (line n vs)) × (O' ≡ sets O 0 (line n vs)) → length (line n vs) ≤ k → k ≤ reply_bytes
    → Written (line n vs) O to O'
wrote n vs O to O' k p short room = record { to = p.0; bytes = p.1; within = omega (arith, p.0) }
