-- The console over a whole input, however it is cut into blocks: it prints the answers of the input's lines, whatever their length. Assumes nothing.
use mathlib.Core.Path.{◌≡◌, refl, sym, ap, ◌∙◌}
use mathlib.Core.Bool.{true, false, cond}
use mathlib.Core.List.{List, [], ◌∷◌, ◌++◌, append-nil, append_assoc}
use Prim.Native.Nat.{ℕ, ◌+◌, min, ◌≤◌, ◌<◌}
use native.Mathlib.Omega.{arith}
use native.Mathlib.Numerals.{add-one}
use native.Mathlib.Decide.{dec_lt}
use lib.Dec.{eqb}
use lib.ListN.{length, take, length-append, length-set}
use lib.Seq.{take_all, take-append-le, take-suc-set}
use borrow.Author.Tests.{lt-ltb, le-ltb, eq-eqb, ne_eqb}
use Rattle.general.proofs.Laws.{by_bool}
use Rattle.calls.specs.Records.{drive_at}
use Rattle.lines.specs.declared.hearing.Session.{Session}
use Rattle.lines.specs.Grammar.{parsed}
use Rattle.general.specs.Lists.{blank}
use Rattle.lines.specs.Replies.{reply_line, drive_after, board_after, list_after}
use Rattle.lines.specs.Sessions.{kept_bytes, started, line_of, kept, ended, last_of, Talk, heard, begun}
use Rattle.lines.specs.Console.{lines_after, lines_of, line_answers, heard_all, heard_out}
use Rattle.lines.proofs.Lengths.{parsed_kept}

-- the session keeps the start of the line w
record Keeps (s : Session) (w : List ℕ) : Type 0 where
  full : length s.line.bytes ≡ kept_bytes
  count : s.line.count ≡ min kept_bytes (length w)
  start : line_of s ≡ take kept_bytes w

keeps_none : (s : Session) → length s.line.bytes ≡ kept_bytes → s.line.count ≡ 0 → Keeps s []
keeps_none s full none = record { full = full; count = none; start = rw none refl }

-- one byte more
keeps_more : (s : Session) (w : List ℕ) (b : ℕ) → Keeps s w → Keeps (kept s b) (w ++ (b ∷ []))
keeps_more s w b k =
    elim (dec_lt s.line.count kept_bytes) [
      | yes l ↦ (let short : length w < kept_bytes = omega (arith, k.count) in
          rw (lt-ltb s.line.count kept_bytes l)
          (record {
            full = rw length-set k.full;
            count = rw length-append (omega (arith, k.count));
            start =
                rw (add-one, take-suc-set s.line.bytes s.line.count b (omega (arith, k.full)), k.start, take_all kept_bytes w (omega arith), take_all kept_bytes (w ++ (b ∷ [])) (rw length-append (omega arith))) refl;
          }))
      | no l ↦ (let long : kept_bytes ≤ length w = omega (arith, k.count) in
          rw (le-ltb s.line.count kept_bytes (omega arith))
          (record {
            full = k.full;
            count = rw length-append (omega (arith, k.count));
            start = k.start ∙ sym (take-append-le kept_bytes w (b ∷ []) long);
          }))
    ]

-- what is kept decides the command
keeps_parsed : (s : Session) (w : List ℕ) → Keeps s w → parsed (line_of s) ≡ parsed w
keeps_parsed s w k = rw k.start (parsed_kept w)

-- a line has begun exactly where a byte is kept
keeps_last : (s : Session) (w : List ℕ) → Keeps s w → last_of s ≡ cond (eqb (length w) 0) [] (10 ∷ [])
keeps_last s w k =
    elim (dec_lt 0 (length w)) [
      | yes l ↦ rw (ne_eqb s.line.count 0 (λ e. omega (arith, k.count)), ne_eqb (length w) 0 (λ e. omega arith)) refl
      | no l ↦ rw (eq-eqb s.line.count 0 (omega (arith, k.count)), eq-eqb (length w) 0 (omega arith)) refl
    ]

-- the end of a line, and any other byte
line_end : Talk → Talk
line_end t =
    record {
      session = ended t.session t.board t.list;
      board = board_after (parsed (line_of t.session)) t.session.drive t.board t.list;
      list = list_after (parsed (line_of t.session)) t.session.drive t.board t.list;
      said = t.said ++ reply_line (parsed (line_of t.session)) t.session.drive t.board t.list;
      used = t.used + 1;
    }

in_line : Talk → ℕ → Talk
in_line t b = record { session = kept t.session b; board = t.board; list = t.list; said = t.said ++ []; used = t.used + 1 }

heard_end : (t : Talk) (b : ℕ) → eqb b 10 ≡ true → heard t b ≡ line_end t
unfolding line_end
heard_end t b e = rw e refl

heard_in : (t : Talk) (b : ℕ) → eqb b 10 ≡ false → heard t b ≡ in_line t b
unfolding in_line
heard_in t b e = rw e refl

out_more : (t : Talk) (b : ℕ) (s : List ℕ) → heard_out t (b ∷ s) ≡ heard_out (heard t b) s
unfolding heard_out heard_all
out_more t b s = refl

kept_drive : (s : Session) (b : ℕ) → (kept s b).drive ≡ s.drive
kept_drive s b = refl

-- the end of the input
at_end : (t : Talk) (w : List ℕ) → Keeps t.session w → (heard_out t []).said ≡ t.said ++ line_answers t.session.drive t.board t.list (lines_after w [])
unfolding heard_out heard_all line_answers lines_after
at_end t [] k = rw (keeps_last t.session [] k) (sym (append-nil t.said))
at_end t (c ∷ w) k =
    rw (keeps_last t.session (c ∷ w) k, ne_eqb (length (c ∷ w)) 0 (λ e. omega arith), keeps_parsed t.session (c ∷ w) k)
    (ap (λ (s : List ℕ). t.said ++ s) (sym (append-nil (reply_line (parsed (c ∷ w)) t.session.drive t.board t.list))))

-- one byte more, of what was said and of the lines that are left
module _ (s : List ℕ) (t : Talk) (w : List ℕ) (b : ℕ) (k : Keeps t.session w) where
  abbrev Said : Talk → List ℕ → Type 0
  Said u v = (heard_out u s).said ≡ u.said ++ line_answers u.session.drive u.board u.list (lines_after v s)

  abbrev Wanted : Type 0
  Wanted = (heard_out t (b ∷ s)).said ≡ t.said ++ line_answers t.session.drive t.board t.list (lines_after w (b ∷ s))

  ends : eqb b 10 ≡ true → (Keeps (line_end t).session [] → Said (line_end t) []) → Wanted
  unfolding line_end line_answers lines_after
  ends e more = rw (out_more t b s, heard_end t b e, e)
      (more (keeps_none (line_end t).session k.full refl)
      ∙ rw (keeps_parsed t.session w k)
      (append_assoc t.said (reply_line (parsed w) t.session.drive t.board t.list)
      (line_answers (drive_after (parsed w) t.session.drive t.board t.list) (board_after (parsed w) t.session.drive t.board t.list)
      (list_after (parsed w) t.session.drive t.board t.list) (lines_after [] s))))

  goes : eqb b 10 ≡ false → (Keeps (in_line t b).session (w ++ (b ∷ [])) → Said (in_line t b) (w ++ (b ∷ []))) → Wanted
  unfolding in_line lines_after
  goes e more = rw (out_more t b s, heard_in t b e, e)
      (more (keeps_more t.session w b k) ∙ rw (kept_drive t.session b, append-nil t.said) refl)

-- what was said, and the answers of the lines that are left
said_out : (s : List ℕ) (t : Talk) (w : List ℕ) → Keeps t.session w
    → (heard_out t s).said ≡ t.said ++ line_answers t.session.drive t.board t.list (lines_after w s)
said_out [] t w k = at_end t w k
said_out (b ∷ s) t w k =
    by_bool (eqb b 10) (λ e. ends s t w b k e (said_out s (line_end t) [])) (λ e. goes s t w b k e (said_out s (in_line t b) (w ++ (b ∷ []))))

-- from its start to the end of the input, the console prints the answers of the input's lines
pub console_said : (s B L : List ℕ) → (heard_out (begun started B L) s).said ≡ line_answers (drive_at 0 0) B L (lines_of s)
unfolding blank
console_said s B L = said_out s (begun started B L) [] (keeps_none started refl refl)
