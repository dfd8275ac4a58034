-- The console over a whole input: document 01, "Console". One line in, one line out.
-- Assumes nothing.
use Rattle.std.specs.Prelude.{cond, List, [], ◌∷◌, ◌++◌, ℕ, eqb}
use Rattle.calls.specs.declared.Drive.{Drive}
use Rattle.lines.specs.Grammar.{parsed}
use Rattle.lines.specs.Replies.{reply_line, drive_after, board_after, list_after}
use Rattle.lines.specs.Sessions.{Talk, heard, last_of}

-- what is left of a line at the end of the input: a line, unless it is empty
abbrev pub remaining : List ℕ → List (List ℕ)
remaining [] = []
remaining (b ∷ w) = (b ∷ w) ∷ []

-- the lines of an input after w: a line feed ends a line; "A last line need not end in a line feed"
unfoldable pub lines_after : List ℕ → List ℕ → List (List ℕ)
lines_after w [] = remaining w
lines_after w (b ∷ s) =
    let next = lines_after [] s in
    let more = lines_after (w ++ (b ∷ [])) s in
    cond (eqb b 10) (w ∷ next) more

-- the lines of an input
abbrev pub lines_of : List ℕ → List (List ℕ)
lines_of s = lines_after [] s

-- what is printed of lines, one after the other, from a record, a board and a list on
unfoldable pub line_answers : Drive → List ℕ → List ℕ → List (List ℕ) → List ℕ
line_answers d B L [] = []
line_answers d B L (l ∷ ls) =
    reply_line (parsed l) d B L ++ line_answers (drive_after (parsed l) d B L) (board_after (parsed l) d B L) (list_after (parsed l) d B L) ls

-- a talk over an input, with room for everything
unfoldable pub heard_all : Talk → List ℕ → Talk
heard_all t [] = t
heard_all t (b ∷ s) = heard_all (heard t b) s

-- a talk over an input and its end
unfoldable pub heard_out : Talk → List ℕ → Talk
unfolding heard_all
heard_out t s = heard_all (heard_all t s) (last_of (heard_all t s).session)
