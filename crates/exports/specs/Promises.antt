-- What slot on a lent record promises, for every input: what is said, and what the record (d), the board (E) and the list (F) hold at exit. All of it is what
-- the call by value returns and leaves.
-- Assumes nothing.
use Rattle.std.specs.Prelude.{◌≡◌, List, ℕ}
use Rattle.calls.specs.declared.Drive.{Drive}
use Rattle.drives.specs.Results.{served, served_answer, served_board, served_list}
use Rattle.replies.specs.declared.Said.{Said}
use Rattle.replies.specs.Replies.{said_of}

abbrev pub ServesHere : Drive → Drive → List ℕ → List ℕ → Said → Drive → List ℕ → List ℕ → Type 0
ServesHere a b B L s d E F = (s ≡ said_of (served_answer a b B L)) × (d ≡ (served a b B L).drive) × (E ≡ served_board a b B L) × (F ≡ served_list a b B L)
