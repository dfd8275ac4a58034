-- No command is longer than the longest, so that what is kept of a line decides what it is. Assumes nothing.
use mathlib.Core.Path.{◌≡◌, refl, sym, ap, ◌∙◌}
use mathlib.Core.Bool.{Bool, true, false}
use mathlib.Core.List.{List, [], ◌∷◌}
use Prim.Native.Nat.{ℕ, suc, ◌+◌, ◌<◌}
use native.Mathlib.Omega.{arith}
use native.Mathlib.Decide.{dec_lt}
use lib.Dec.{eqb}
use lib.ListN.{length, take}
use lib.Seq.{take_all, length-take-le}
use Rattle.std.specs.Prelude.{None}
use Rattle.general.specs.Tests.{same}
use Rattle.general.proofs.Laws.{by_bool, same_short}
use Rattle.lines.specs.Grammar.{parted, words, most_digits, short_number, ticket_digits, open_word, add_word, remove_word, slot_word, round_word, fetch_word, longest, lone_word, with_one, with_two, command, parsed}
use Rattle.lines.specs.Sessions.{kept_bytes}
use Rattle.lines.proofs.Spelling.{numeral_long}
use Rattle.lines.proofs.Words.{one_other, two_none, two_other}

-- how many bytes words have, with a space between each two
total : List (List ℕ) → ℕ
total [] = 0
total (w ∷ []) = length w
total (w ∷ x ∷ ws) = length w + (1 + total (x ∷ ws))

total_parted : (t : Bool) (b : ℕ) (w : List ℕ) (ws : List (List ℕ)) → total (parted t b (w ∷ ws)) ≡ suc (total (w ∷ ws))
unfolding total
total_parted true b w ws = omega arith
total_parted false b w [] = refl
total_parted false b w (x ∷ ws) = omega arith

-- a line has a first word
first : (s : List ℕ) (P : List (List ℕ) → Type 0) → ((w : List ℕ) (ws : List (List ℕ)) → P (w ∷ ws)) → P (words s)
unfolding words
first [] P f = f [] []
first (b ∷ s) P f = by (eqb b 32) (words s)
  where
    by : (t : Bool) (ws : List (List ℕ)) → P (parted t b ws)
    by true ws = f [] ws
    by false [] = f (b ∷ []) []
    by false (w ∷ ws) = f (b ∷ w) ws

words_total : (s : List ℕ) → total (words s) ≡ length s
unfolding total words
words_total [] = refl
words_total (b ∷ s) =
    first s (λ ws. total (parted (eqb b 32) b ws) ≡ suc (total ws)) (λ w ws. total_parted (eqb b 32) b w ws) ∙ ap suc (words_total s)

lone_word_long : (w : List ℕ) → 5 < length w → lone_word w ≡ None
unfolding lone_word
lone_word_long w h = rw (same_short w slot_word (λ e. omega arith), same_short w round_word (λ e. omega arith)) refl

command_long : (ws : List (List ℕ)) → longest < total ws → command ws ≡ None
unfolding total command with_one with_two
command_long [] h = refl
command_long (w ∷ []) h = lone_word_long w (omega arith)
command_long (w ∷ x ∷ []) h =
    elim (dec_lt ticket_digits (length x)) [
      | yes l ↦ rw (numeral_long ticket_digits 18446744073709551615 x l, numeral_long most_digits 65535 x (omega arith))
          (by_bool (same w fetch_word) (λ t. rw t refl) (λ f. rw f refl))
      | no l ↦ rw (same_short w fetch_word (λ e. omega arith)) (elim (dec_lt most_digits (length x)) [
        | yes m ↦ rw (numeral_long most_digits 65535 x m) refl
        | no m ↦ one_other w (short_number x) (same_short w open_word (λ e. omega arith)) (same_short w remove_word (λ e. omega arith))
      ])
    ]
command_long (w ∷ x ∷ y ∷ []) h =
    elim (dec_lt most_digits (length x)) [
      | yes l ↦ rw (numeral_long most_digits 65535 x l) refl
      | no l ↦ elim (dec_lt most_digits (length y)) [
        | yes m ↦ rw (numeral_long most_digits 65535 y m) (two_none w (short_number x))
        | no m ↦ two_other w (short_number x) (short_number y) (same_short w add_word (λ e. omega arith))
      ]
    ]
command_long (w ∷ x ∷ y ∷ z ∷ ws) h = refl

-- a line that is longer than the longest command is not understood
pub parsed_long : (s : List ℕ) → longest < length s → parsed s ≡ None
unfolding parsed
parsed_long s h = command_long (words s) (rw (words_total s) h)

-- what is kept of a line decides its command
pub parsed_kept : (s : List ℕ) → parsed (take kept_bytes s) ≡ parsed s
parsed_kept s =
    elim (dec_lt longest (length s)) [
      | yes l ↦ parsed_long (take kept_bytes s) (rw (length-take-le kept_bytes s l) (omega arith)) ∙ sym (parsed_long s l)
      | no l ↦ rw (take_all kept_bytes s (omega arith)) refl
    ]
