-- What the console's loop leaves, whatever is read and whether it could be written: the session, the board and the list of a talk over some input.
-- Assumes nothing.
use Rattle.std.specs.Prelude.{◌≡◌, List, ℕ}
use Rattle.lines.specs.declared.hearing.Session.{Session}
use Rattle.lines.specs.Sessions.{started, begun}
use Rattle.lines.specs.Console.{heard_all}

-- The session s', the board B'' and the list L' come from s, B and L by hearing some bytes, one after the other.
pub record Follows (s : Session) (B L : List ℕ) (s' : Session) (B'' L' : List ℕ) : Type 0 where
  pub bytes : List ℕ
  pub session : s' ≡ (heard_all (begun s B L) bytes).session
  pub board : B'' ≡ (heard_all (begun s B L) bytes).board
  pub list : L' ≡ (heard_all (begun s B L) bytes).list

-- The board B'' and the list L' come from B and L by a session from its start over some input, with a line feed after a last line that has none.
pub record LeftBySession (B L B'' L' : List ℕ) : Type 0 where
  pub input : List ℕ
  pub board : B'' ≡ (heard_all (begun started B L) input).board
  pub list : L' ≡ (heard_all (begun started B L) input).list
