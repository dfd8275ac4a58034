-- A session: the input is heard byte by byte, a line feed ends a line, and each line is answered. Document 01, "Console".
-- Assumes nothing.
use Rattle.std.specs.Prelude.{◌≡◌, cond, List, [], ◌∷◌, ◌++◌, ℕ, suc, ◌+◌, ◌≤◌, leb, ltb, eqb, length, take, set}
use Rattle.std.proofs.lemmas.List.Edits.{sets}
use Rattle.calls.specs.Records.{drive_at}
use Rattle.lines.specs.declared.hearing.Session.{Session}
use Rattle.lines.specs.declared.hearing.Line.{Line}
use Rattle.lines.specs.declared.hearing.Fed.{Fed}
use Rattle.lines.specs.Grammar.{longest, parsed}
use Rattle.general.specs.Lists.{blank}
use Rattle.lines.specs.Replies.{reply_bytes, Written, reply_line, drive_after, board_after, list_after}

-- how many bytes of a line are kept: one more than the longest command has, so that of a longer line more is kept than any command has
abbrev pub kept_bytes : ℕ
kept_bytes = suc longest

-- nothing is heard of a line
abbrev pub empty : Line
empty = record { bytes = blank kept_bytes; count = 0 }

-- one byte more of a line, as long as there is a place for it
abbrev pub pushed : Line → ℕ → Line
pushed l b = cond (ltb l.count kept_bytes) (record { bytes = set l.bytes l.count b; count = l.count + 1 }) l

-- "The console starts with C and p zero", and nothing is heard yet
abbrev pub started : Session
started = record { drive = drive_at 0 0; line = empty }

-- the line that is being heard, as far as it is kept
abbrev pub line_of : Session → List ℕ
line_of s = take s.line.count s.line.bytes

-- the session with one byte more of the line
abbrev pub kept : Session → ℕ → Session
kept s b = record { drive = s.drive; line = pushed s.line b }

-- the session once its line has ended: the command was carried out, and the next line begins
abbrev pub ended : Session → List ℕ → List ℕ → Session
ended s B L = record { drive = drive_after (parsed (line_of s)) s.drive B L; line = record { bytes = s.line.bytes; count = 0 } }

-- what one byte does to the session, the board and the list, and what is said of it: a line feed ends the line
abbrev pub session_after : Session → List ℕ → List ℕ → ℕ → Session
session_after s B L b = cond (eqb b 10) (ended s B L) (kept s b)

abbrev pub board_heard : Session → List ℕ → List ℕ → ℕ → List ℕ
board_heard s B L b = cond (eqb b 10) (board_after (parsed (line_of s)) s.drive B L) B

abbrev pub list_heard : Session → List ℕ → List ℕ → ℕ → List ℕ
list_heard s B L b = cond (eqb b 10) (list_after (parsed (line_of s)) s.drive B L) L

abbrev pub said_after : Session → List ℕ → List ℕ → ℕ → List ℕ
said_after s B L b = cond (eqb b 10) (reply_line (parsed (line_of s)) s.drive B L) []

-- What hearing gives: the next session, board and list, how many bytes are said, these at the start of the lent bytes O, and nothing else of them changed.
pub record Hears (next : Session) (board list said O : List ℕ) (s' : Session) (n : ℕ) (B'' L' O' : List ℕ) : Type 0 where
  pub session : s' ≡ next
  pub leaves : B'' ≡ board
  pub waits : L' ≡ list
  pub written : Written said O n O'

-- A talk: the session, the board, the list, all that was said, and how many bytes were heard.
pub record Talk : Type 0 where
  pub session : Session
  pub board : List ℕ
  pub list : List ℕ
  pub said : List ℕ
  pub used : ℕ

-- one byte more
abbrev pub heard : Talk → ℕ → Talk
heard t b =
    record {
      session = session_after t.session t.board t.list b;
      board = board_heard t.session t.board t.list b;
      list = list_heard t.session t.board t.list b;
      said = t.said ++ said_after t.session t.board t.list b;
      used = t.used + 1;
    }

-- the talk over an input, as far as n bytes have room for a reply at each of its bytes
unfoldable pub talked : ℕ → Talk → List ℕ → Talk
talked n t [] = t
talked n t (b ∷ s) = let more = talked n (heard t b) s in cond (leb (length t.said + reply_bytes) n) more t

-- a talk that begins
abbrev pub begun : Session → List ℕ → List ℕ → Talk
begun s B L = record { session = s; board = B; list = L; said = []; used = 0 }

-- what is handed back of a talk
abbrev pub fed_by : Talk → Fed
fed_by t = record { session = t.session; used = t.used; to = length t.said }

-- the end of the input is a line feed where a line has begun: "A last line need not end in a line feed."
abbrev pub last_of : Session → List ℕ
last_of s = cond (eqb s.line.count 0) [] (10 ∷ [])

-- n counts bytes at the start of a list; the second part follows from the first, and spares a caller that lends those bytes a proof
abbrev pub Counts : ℕ → List ℕ → Type 0
Counts n xs = (n ≤ length xs) × (n ≡ length (take n xs))

-- What hearing an input I gives: the talk over it, as far as the lent bytes O have room. What was said stands at their start, and the bytes after it are as they were.
pub record Answered (s : Session) (I B L O : List ℕ) (r : Fed) (B'' L' O' : List ℕ) : Type 0 where
  pub handed : r ≡ fed_by (talked (length O) (begun s B L) I)
  pub board : B'' ≡ (talked (length O) (begun s B L) I).board
  pub list : L' ≡ (talked (length O) (begun s B L) I).list
  pub bytes : O' ≡ sets O 0 (talked (length O) (begun s B L) I).said
  pub used : r.used ≤ length I
  pub counts : Counts r.to O'
