-- The language of the console's input: document 01, "Console", and document 02, No. 2, for `fetch`. A line is the list of its bytes, without the line feed.
-- Assumes nothing.
use Rattle.std.specs.Prelude.{Bool, true, false, cond, ◌&&◌, List, [], ◌∷◌, ℕ, ◌+◌, ◌-◌, ◌*◌, max, leb, eqb, length, Option, Some, None}
use Rattle.general.specs.Tests.{same}
use Rattle.lines.specs.declared.Command.{Command}
use Rattle.lines.specs.declared.Command.TheVariants.{Open, Add, Remove, Slot, Round, Fetch}

-- a byte in front of the words of what follows it: a space ends an empty word, any other byte belongs to the word that follows
abbrev pub parted : Bool → ℕ → List (List ℕ) → List (List ℕ)
parted true b ws = [] ∷ ws
parted false b [] = (b ∷ []) ∷ []
parted false b (w ∷ ws) = (b ∷ w) ∷ ws

-- "One space between words": a line's words are what stands between its spaces. Where two spaces meet, or one stands at an end, that is an empty word.
unfoldable pub words : List ℕ → List (List ℕ)
words [] = [] ∷ []
words (b ∷ s) = parted (eqb b 32) b (words s)

-- a digit, `0` to `9`
unfoldable pub is_digit : ℕ → Bool
is_digit b = leb 48 b && leb b 57

-- nothing but digits
unfoldable pub all_digits : List ℕ → Bool
all_digits [] = true
all_digits (b ∷ s) = is_digit b && all_digits s

-- the number that digits spell after those that spell v
unfoldable pub spelled_number : ℕ → List ℕ → ℕ
spelled_number v [] = v
spelled_number v (b ∷ s) = spelled_number (v * 10 + (b - 48)) s

-- a word as a number: it has 1 to most digits and nothing else, and is at most limit
unfoldable pub numeral : ℕ → ℕ → List ℕ → Option ℕ
numeral most limit w =
    cond (leb 1 (length w) && leb (length w) most && all_digits w && leb (spelled_number 0 w) limit) (Some (spelled_number 0 w)) None

-- "numbers have 1 to 5 digits and are at most 65,535"
abbrev pub most_digits : ℕ
most_digits = 5

abbrev pub short_number : List ℕ → Option ℕ
short_number w = numeral most_digits 65535 w

-- "`fetch TICKET` takes up to 20 digits, below 2^64"
abbrev pub ticket_digits : ℕ
ticket_digits = 20

abbrev pub ticket : List ℕ → Option ℕ
ticket w = numeral ticket_digits 18446744073709551615 w

-- the words `open`, `add`, `remove`, `slot`, `round`, `fetch`
abbrev pub open_word : List ℕ
open_word = 111 ∷ 112 ∷ 101 ∷ 110 ∷ []

abbrev pub add_word : List ℕ
add_word = 97 ∷ 100 ∷ 100 ∷ []

abbrev pub remove_word : List ℕ
remove_word = 114 ∷ 101 ∷ 109 ∷ 111 ∷ 118 ∷ 101 ∷ []

abbrev pub slot_word : List ℕ
slot_word = 115 ∷ 108 ∷ 111 ∷ 116 ∷ []

abbrev pub round_word : List ℕ
round_word = 114 ∷ 111 ∷ 117 ∷ 110 ∷ 100 ∷ []

abbrev pub fetch_word : List ℕ
fetch_word = 102 ∷ 101 ∷ 116 ∷ 99 ∷ 104 ∷ []

-- how many bytes a line has of a word and n numbers, each with m digits and a space before it
abbrev pub span : List ℕ → ℕ → ℕ → ℕ
span w n m = length w + n * (1 + m)

-- how many bytes the longest command has
abbrev pub longest : ℕ
longest =
    max
    (max (max (span open_word 1 most_digits) (span add_word 2 most_digits)) (span remove_word 1 most_digits))
    (max (max (length slot_word) (length round_word)) (span fetch_word 1 ticket_digits))

-- `slot`, `round`
unfoldable pub lone_word : List ℕ → Option Command
lone_word w = cond (same w slot_word) (Some Slot) (cond (same w round_word) (Some Round) None)

-- `open C`, `remove NAME`
unfoldable pub with_one : List ℕ → Option ℕ → Option Command
with_one w None = None
with_one w (Some x) = cond (same w open_word) (Some (Open x)) (cond (same w remove_word) (Some (Remove x)) None)

-- `fetch TICKET`
abbrev pub with_ticket : Option ℕ → Option Command
with_ticket None = None
with_ticket (Some t) = Some (Fetch t)

-- `add NAME WEIGHT`
unfoldable pub with_two : List ℕ → Option ℕ → Option ℕ → Option Command
with_two w None y = None
with_two w (Some x) None = None
with_two w (Some x) (Some y) = cond (same w add_word) (Some (Add x y)) None

-- the command of a line's words; "anything else, an empty line included", is not understood
unfoldable pub command : List (List ℕ) → Option Command
command [] = None
command (w ∷ []) = lone_word w
command (w ∷ x ∷ []) = cond (same w fetch_word) (with_ticket (ticket x)) (with_one w (short_number x))
command (w ∷ x ∷ y ∷ []) = with_two w (short_number x) (short_number y)
command (w ∷ x ∷ y ∷ z ∷ ws) = None

-- the command that a line is
unfoldable pub parsed : List ℕ → Option Command
parsed line = command (words line)
