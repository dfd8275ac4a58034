-- What an exported function gives back: the record, and document 01's number and values as plain numbers. The numbers and values themselves are
-- defined beside the calls. Assumes nothing.
use Rattle.std.specs.Prelude.{[], ◌∷◌, ℕ, get_or}
use Rattle.calls.specs.Refusals.{number_of}
use Rattle.calls.specs.Answers.{Answer}
use Rattle.calls.specs.declared.Drive.{Drive}
use Rattle.calls.specs.declared.Refusal.{Refusal}
use Rattle.replies.specs.declared.Said.{Said}
use Rattle.replies.specs.declared.Reply.{Reply}

-- An answer: its number and its first four values, 0 where it has fewer.
abbrev pub said_of : Answer → Said
said_of a = record { number = a.number; first = get_or a.values 0 0; second = get_or a.values 1 0; third = get_or a.values 2 0; fourth = get_or a.values 3 0 }

-- A record and an answer.
abbrev pub reply : Drive → Answer → Reply
reply d a = record { drive = d; said = said_of a }

-- What is said of a call that is done; a number with one value, and that of a refusal.
abbrev pub said_done : ℕ → ℕ → ℕ → ℕ → Said
said_done a b c d = said_of (record { number = 0; values = a ∷ b ∷ c ∷ d ∷ [] })

abbrev pub said_told : ℕ → ℕ → Said
said_told n a = said_of (record { number = n; values = a ∷ [] })

abbrev pub said_refused : Refusal → ℕ → Said
said_refused r a = said_told (number_of r) a
