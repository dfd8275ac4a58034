-- What slot with the tables of over-allocated streams promises, by value and on a lent record, for every input: the reply, or what is said and what the record (d)
-- holds at exit; and what the board and the tables (t) and the list (F) hold then. All of it is what the call of `shares` returns and leaves.
-- Assumes nothing.
use Rattle.std.specs.Prelude.{◌≡◌, List, ℕ}
use Rattle.calls.specs.declared.Drive.{Drive}
use Rattle.shares.specs.States.{BoardTables}
use Rattle.shares.specs.Results.{served, served_answer, served_state, served_list}
use Rattle.replies.specs.declared.Said.{Said}
use Rattle.replies.specs.declared.Reply.{Reply}
use Rattle.replies.specs.Replies.{said_of, reply}

abbrev pub ShareServes : Drive → Drive → BoardTables → List ℕ → Reply → BoardTables → List ℕ → Type 0
ShareServes a b s L r t F = (r ≡ reply (served a b s L).drive (served_answer a b s L)) × (t ≡ served_state a b s L) × (F ≡ served_list a b s L)

abbrev pub ShareServesHere : Drive → Drive → BoardTables → List ℕ → Said → Drive → BoardTables → List ℕ → Type 0
ShareServesHere a b s L r d t F = (r ≡ said_of (served_answer a b s L)) × (d ≡ (served a b s L).drive) × (t ≡ served_state a b s L) × (F ≡ served_list a b s L)
