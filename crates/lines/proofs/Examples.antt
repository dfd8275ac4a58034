-- Lines read and printed by the definitions, computed. Assumes nothing.
use mathlib.Core.Path.{◌≡◌, refl}
use mathlib.Core.List.{List, [], ◌∷◌, ◌++◌}
use Prim.Native.Nat.{ℕ}
use lib.ListN.{length}
use Rattle.std.specs.Prelude.{Some, None}
use Rattle.general.specs.Tests.{same}
use Rattle.lines.specs.Grammar.{words, is_digit, all_digits, spelled_number, numeral, fetch_word, longest, lone_word, with_one, with_two, command, parsed}
use Rattle.lines.specs.Printing.{decimal_in, decimal, field, fields, line}
use Rattle.lines.specs.declared.Command.TheVariants.{Open, Add, Slot, Fetch}

-- `slot`; `slot` with a space after it; the empty line; `open 8`; `open 00008`; `open 000008`; `open  8`; `open 65535`; `open 65536`; `add 7 5`
reads :
    (parsed (115 ∷ 108 ∷ 111 ∷ 116 ∷ []) ≡ Some Slot)
    × (parsed (115 ∷ 108 ∷ 111 ∷ 116 ∷ 32 ∷ []) ≡ None)
    × (parsed [] ≡ None)
    × (parsed (111 ∷ 112 ∷ 101 ∷ 110 ∷ 32 ∷ 56 ∷ []) ≡ Some (Open 8))
    × (parsed (111 ∷ 112 ∷ 101 ∷ 110 ∷ 32 ∷ 48 ∷ 48 ∷ 48 ∷ 48 ∷ 56 ∷ []) ≡ Some (Open 8))
    × (parsed (111 ∷ 112 ∷ 101 ∷ 110 ∷ 32 ∷ 48 ∷ 48 ∷ 48 ∷ 48 ∷ 48 ∷ 56 ∷ []) ≡ None)
    × (parsed (111 ∷ 112 ∷ 101 ∷ 110 ∷ 32 ∷ 32 ∷ 56 ∷ []) ≡ None)
    × (parsed (111 ∷ 112 ∷ 101 ∷ 110 ∷ 32 ∷ 54 ∷ 53 ∷ 53 ∷ 51 ∷ 53 ∷ []) ≡ Some (Open 65535))
    × (parsed (111 ∷ 112 ∷ 101 ∷ 110 ∷ 32 ∷ 54 ∷ 53 ∷ 53 ∷ 51 ∷ 54 ∷ []) ≡ None)
    × (parsed (97 ∷ 100 ∷ 100 ∷ 32 ∷ 55 ∷ 32 ∷ 53 ∷ []) ≡ Some (Add 7 5))
unfolding parsed command words lone_word with_one with_two same numeral all_digits is_digit spelled_number
reads = (refl, refl, refl, refl, refl, refl, refl, refl, refl, refl)

-- `18446744073709551615`, the last ticket, and `18446744073709551616`; `fetch` and a word
abbrev last : List ℕ
last = 49 ∷ 56 ∷ 52 ∷ 52 ∷ 54 ∷ 55 ∷ 52 ∷ 52 ∷ 48 ∷ 55 ∷ 51 ∷ 55 ∷ 48 ∷ 57 ∷ 53 ∷ 53 ∷ 49 ∷ 54 ∷ 49 ∷ 53 ∷ []

abbrev above : List ℕ
above = 49 ∷ 56 ∷ 52 ∷ 52 ∷ 54 ∷ 55 ∷ 52 ∷ 52 ∷ 48 ∷ 55 ∷ 51 ∷ 55 ∷ 48 ∷ 57 ∷ 53 ∷ 53 ∷ 49 ∷ 54 ∷ 49 ∷ 54 ∷ []

abbrev fetch_of : List ℕ → List ℕ
fetch_of w = fetch_word ++ (32 ∷ w)

-- the last ticket makes a command that has as many bytes as the longest; one more is no ticket, nor are 21 digits or none; 0 is read as a ticket
fetches :
    (length (fetch_of last) ≡ longest)
    × (parsed (fetch_of last) ≡ Some (Fetch 18446744073709551615))
    × (parsed (fetch_of above) ≡ None)
    × (parsed (fetch_of (48 ∷ last)) ≡ None)
    × (parsed (fetch_of []) ≡ None)
    × (parsed (fetch_of (48 ∷ [])) ≡ Some (Fetch 0))
unfolding parsed command words with_one same numeral all_digits is_digit spelled_number
fetches = (refl, refl, refl, refl, refl, refl)

-- `0 7 0`, `4`, `10 3`, `0 4095`, `13 18446744073709551615`, each with its line feed
prints :
    (line 0 (7 ∷ 0 ∷ []) ≡ 48 ∷ 32 ∷ 55 ∷ 32 ∷ 48 ∷ 10 ∷ [])
    × (line 4 [] ≡ 52 ∷ 10 ∷ [])
    × (line 10 (3 ∷ []) ≡ 49 ∷ 48 ∷ 32 ∷ 51 ∷ 10 ∷ [])
    × (line 0 (4095 ∷ []) ≡ 48 ∷ 32 ∷ 52 ∷ 48 ∷ 57 ∷ 53 ∷ 10 ∷ [])
    × (line 13 (18446744073709551615 ∷ []) ≡ 49 ∷ 51 ∷ 32 ∷ (last ++ (10 ∷ [])))
unfolding line fields field decimal decimal_in
prints = (refl, refl, refl, refl, refl)
