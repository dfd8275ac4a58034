-- No second answer fits the promises of `step`, `feed` and `finish`: the result, the board, the list and the lent bytes are decided. (That of `parse` is one equation.)
-- Assumes nothing.
use mathlib.Core.Path.{◌≡◌}
use mathlib.Core.List.{List}
use Prim.Native.Nat.{ℕ}
use Rattle.general.proofs.Laws.{unique}
use Rattle.calls.specs.declared.Drive.{Drive}
use Rattle.lines.specs.declared.talking.Stepped.{Stepped}
use Rattle.lines.specs.declared.hearing.Session.{Session}
use Rattle.lines.specs.declared.hearing.Fed.{Fed}
use Rattle.lines.specs.Replies.{Steps}
use Rattle.lines.specs.Sessions.{Answered}

pub step_unique : (l : List ℕ) (d : Drive) (B L O : List ℕ) {r q : Stepped} {B'' L' O' B''' L'' O'' : List ℕ}
    → Steps l d B L O r B'' L' O' → Steps l d B L O q B''' L'' O'' → (r ≡ q) × (B'' ≡ B''') × (L' ≡ L'') × (O' ≡ O'')
step_unique l d B L O p q = (unique p.0 q.0, unique p.1 q.1, unique p.2 q.2, unique p.3 q.3)

pub answered_unique : {s : Session} {I B L O : List ℕ} {r q : Fed} {B'' L' O' B''' L'' O'' : List ℕ}
    → Answered s I B L O r B'' L' O' → Answered s I B L O q B''' L'' O'' → (r ≡ q) × (B'' ≡ B''') × (L' ≡ L'') × (O' ≡ O'')
answered_unique p q = (unique p.handed q.handed, unique p.board q.board, unique p.list q.list, unique p.bytes q.bytes)
