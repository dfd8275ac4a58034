-- An input heard in parts: a feed hears a first part of what it is given, and what is said of parts, one after the other, is what is said of the whole.
-- Assumes nothing.
use mathlib.Core.Path.{◌≡◌, refl, ap, ◌∙◌}
use mathlib.Core.List.{List, [], ◌∷◌, ◌++◌, append-nil, append_assoc}
use Prim.Native.Nat.{ℕ, suc, ◌+◌, ◌-◌, ◌≤◌, ◌<◌}
use native.Mathlib.Omega.{arith}
use lib.Dec.{leb}
use lib.ListN.{length, take}
use lib.Seq.{take-nil}
use borrow.Author.Tests.{le-leb}
use Rattle.general.proofs.Laws.{by_bool}
use Rattle.lines.specs.declared.hearing.Session.{Session}
use Rattle.lines.specs.Replies.{reply_bytes}
use Rattle.lines.specs.Sessions.{Talk, heard, talked, begun, said_after}
use Rattle.lines.specs.Console.{heard_all}

used_grows : (n : ℕ) (s : List ℕ) (t : Talk) → t.used ≤ (talked n t s).used
unfolding talked
used_grows n [] t = omega arith
used_grows n (b ∷ s) t =
    by_bool (leb (length t.said + reply_bytes) n) (λ e. rw e (omega (arith, used_grows n s (heard t b)))) (λ e. rw e (omega arith))

talk_part : (n : ℕ) (s : List ℕ) (t : Talk) → talked n t s ≡ heard_all t (take ((talked n t s).used - t.used) s)
unfolding talked heard_all
talk_part n [] t = rw (take-nil {A = ℕ} (t.used - t.used)) refl
talk_part n (b ∷ s) t = by_bool (leb (length t.said + reply_bytes) n)
    (λ e.
    let more = (talked n (heard t b) s).used in
    let z : more - t.used ≡ suc (more - (t.used + 1)) = omega (arith, used_grows n s (heard t b)) in
    rw (e, z) (talk_part n s (heard t b)))
    (λ e. let z : t.used - t.used ≡ 0 = omega arith in rw (e, z) refl)

-- a feed hears as much of its input as it says
pub fed_part : (n : ℕ) (s : Session) (B L I : List ℕ) → talked n (begun s B L) I ≡ heard_all (begun s B L) (take (talked n (begun s B L) I).used I)
fed_part n s B L I = let z : (talked n (begun s B L) I).used - 0 ≡ (talked n (begun s B L) I).used = omega arith in rw z at (talk_part n I (begun s B L))

-- with room for a reply it hears at least one byte
pub fed_some : (n : ℕ) (s : Session) (B L : List ℕ) (b : ℕ) (I : List ℕ) → reply_bytes ≤ n → 0 < (talked n (begun s B L) (b ∷ I)).used
unfolding talked
fed_some n s B L b I h = rw (le-leb (0 + reply_bytes) n h) (omega (arith, used_grows n I (heard (begun s B L) b)))

-- a talk that begins where another stands
abbrev pub anew : Talk → Talk
anew t = begun t.session t.board t.list

-- a talk goes on as a new one would, after what was said before
onto : Talk → Talk → Talk
onto t u = record { session = u.session; board = u.board; list = u.list; said = t.said ++ u.said; used = t.used + u.used }

go_on : (s : List ℕ) (t : Talk) → heard_all t s ≡ onto t (heard_all (anew t) s)
unfolding onto heard_all
go_on [] t = let z : t.used + 0 ≡ t.used = omega arith in rw (append-nil t.said, z) refl
go_on (b ∷ s) t =
    let u = heard_all (anew (heard t b)) s in
    let z : t.used + 1 + u.used ≡ t.used + (0 + 1 + u.used) = omega arith in
    rw (go_on s (heard t b), go_on s (heard (anew t) b), z, append_assoc t.said (said_after t.session t.board t.list b) u.said) refl

pub heard_append : (s r : List ℕ) (t : Talk) → heard_all t (s ++ r) ≡ heard_all (heard_all t s) r
unfolding heard_all
heard_append [] r t = refl
heard_append (b ∷ s) r t = heard_append s r (heard t b)

-- what is said of two parts is what is said of the whole
pub said_parts : (s r : List ℕ) (t : Talk)
    → (heard_all t (s ++ r)).said ≡ (heard_all t s).said ++ (heard_all (anew (heard_all t s)) r).said
unfolding onto
said_parts s r t = ap (λ (u : Talk). u.said) (heard_append s r t ∙ go_on r (heard_all t s))

-- and so are the session, the board and the list
pub left_parts : (s r : List ℕ) (t : Talk)
    → ((heard_all t (s ++ r)).session ≡ (heard_all (anew (heard_all t s)) r).session)
    × ((heard_all t (s ++ r)).board ≡ (heard_all (anew (heard_all t s)) r).board)
    × ((heard_all t (s ++ r)).list ≡ (heard_all (anew (heard_all t s)) r).list)
unfolding onto
left_parts s r t =
    let e = heard_append s r t ∙ go_on r (heard_all t s) in
    (ap (λ (u : Talk). u.session) e, ap (λ (u : Talk). u.board) e, ap (λ (u : Talk). u.list) e)
