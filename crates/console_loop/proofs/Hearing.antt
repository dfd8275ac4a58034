-- Parts heard one after the other: a feed hears bytes, and two hearings are one. Assumes nothing.
use mathlib.Core.Path.{refl, ap, ◌∙◌}
use mathlib.Core.List.{List, [], ◌++◌}
use Prim.Native.Nat.{ℕ}
use lib.ListN.{length, take}
use Rattle.lines.specs.declared.hearing.Session.{Session}
use Rattle.lines.specs.declared.hearing.Fed.{Fed}
use Rattle.lines.specs.Sessions.{Talk, started, begun, talked, Answered}
use Rattle.lines.specs.Console.{heard_all}
use Rattle.lines.proofs.Laws.{fed_part, left_parts}
use Rattle.console_loop.specs.Serving.{Follows, LeftBySession}

-- Nothing heard.
pub at_first : (s : Session) (B L : List ℕ) → Follows s B L s B L
unfolding heard_all
at_first s B L = record { bytes = []; session = refl; board = refl; list = refl }

-- What a feed hears.
pub fed_follows : (s : Session) (I B L O : List ℕ) (r : Fed) (B'' L' O' : List ℕ) → Answered s I B L O r B'' L' O' → Follows s B L r.session B'' L'
fed_follows s I B L O r B'' L' O' a =
    let t = talked (length O) (begun s B L) I in
    let e = fed_part (length O) s B L I in
    record {
      bytes = take t.used I;
      session = ap (λ (f : Fed). f.session) a.handed ∙ ap (λ (u : Talk). u.session) e;
      board = a.board ∙ ap (λ (u : Talk). u.board) e;
      list = a.list ∙ ap (λ (u : Talk). u.list) e;
    }

-- Two hearings, one after the other.
pub then : (s : Session) (B L : List ℕ) (s' : Session) (B'' L' : List ℕ) (s'' : Session) (B''' L'' : List ℕ)
    → Follows s B L s' B'' L' → Follows s' B'' L' s'' B''' L'' → Follows s B L s'' B''' L''
then s B L s' B'' L' s'' B''' L'' f g =
    let p = left_parts f.bytes g.bytes (begun s B L) in
    record {
      bytes = f.bytes ++ g.bytes;
      session = rw (p.0, ← f.session, ← f.board, ← f.list) g.session;
      board = rw (p.1, ← f.session, ← f.board, ← f.list) g.board;
      list = rw (p.2, ← f.session, ← f.board, ← f.list) g.list;
    }

-- What follows from the start was served.
pub follows_served : (B L : List ℕ) (s : Session) (B'' L' : List ℕ) → Follows started B L s B'' L' → LeftBySession B L B'' L'
follows_served B L s B'' L' f = record { input = f.bytes; board = f.board; list = f.list }
