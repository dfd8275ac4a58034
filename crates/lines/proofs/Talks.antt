-- A talk byte by byte, as a loop over the input goes. Assumes nothing.
use mathlib.Core.Path.{◌≡◌, refl, sym, ap, ◌∙◌}
use mathlib.Core.List.{List, ◌∷◌, ◌++◌}
use Prim.Native.Nat.{ℕ, suc, ◌+◌, ◌-◌, ◌≤◌, ◌<◌}
use native.Mathlib.Omega.{arith}
use native.Mathlib.Numerals.{add-one}
use lib.ListN.{length, get_or, take, drop, length-append, drop_of_length-le}
use lib.Seq.{sets, sets-eq, length-sets, take_at, drop-cons, length-take-le}
use borrow.Author.Tests.{le-leb, lt-leb}
use Rattle.lines.specs.Sessions.{Talk, heard, talked, session_after, said_after, board_heard, list_heard, Hears, begun, Answered}
use Rattle.lines.specs.declared.hearing.Session.{Session}
use Rattle.general.proofs.Laws.{sets_append}
use Rattle.lines.proofs.Decimals.{sets_part}

talk_more : (n : ℕ) (t : Talk) (b : ℕ) (s : List ℕ) → length t.said + 24573 ≤ n → talked n t (b ∷ s) ≡ talked n (heard t b) s
unfolding talked
talk_more n t b s h = rw (le-leb (length t.said + 24573) n h) refl

talk_full : (n : ℕ) (t : Talk) (b : ℕ) (s : List ℕ) → n < length t.said + 24573 → talked n t (b ∷ s) ≡ t
unfolding talked
talk_full n t b s h = rw (lt-leb (length t.said + 24573) n h) refl

-- the talk whose words so far are the first of the lent bytes
abbrev pub talk_at : Session → List ℕ → List ℕ → List ℕ → ℕ → ℕ → Talk
talk_at s B L O to i = record { session = s; board = B; list = L; said = take to O; used = i }

pub talk_end : (n : ℕ) (t : Talk) (I : List ℕ) (i : ℕ) → length I ≤ i → talked n t (drop i I) ≡ t
unfolding talked
talk_end n t I i h = rw (drop_of_length-le I h) refl

-- what stands before a place, and what was stored there
take_sets : (O v : List ℕ) (at : ℕ) → at + length v ≤ length O → take (at + length v) (sets O at v) ≡ take at O ++ v
take_sets O v at h = rw (sets-eq v O at h)
    (take_at (take at O ++ v) (drop (at + length v) O) (at + length v) (rw (length-append, length-take-le at O (omega arith)) refl))

-- one turn of the loop
module _ (I : List ℕ) (i : ℕ) (h : i < length I) (s : Session) (B L O : List ℕ) (to : ℕ) (within : to ≤ length O) where
  pub talk_stops : (n : ℕ) → n < to + 24573 → talked n (talk_at s B L O to i) (drop i I) ≡ talk_at s B L O to i
  talk_stops n full = rw (drop-cons I i 0 h) (talk_full n (talk_at s B L O to i) (get_or I i 0) (drop (suc i) I) (rw (length-take-le to O within) full))

  -- a byte is heard, and what is said of it is written to what lies after `to`
  module _ (s' : Session) (n : ℕ) (B'' L' O' : List ℕ) (fits : to + 24573 ≤ length O)
      (p : Hears (session_after s B L (get_or I i 0)) (board_heard s B L (get_or I i 0)) (list_heard s B L (get_or I i 0)) (said_after s B L (get_or I i 0)) (take (length O - to) (drop to O)) s' n B'' L' O') where
    abbrev pub O'' : List ℕ
    O'' = take to O ++ (O' ++ drop (length O - to) (drop to O))

    written : O'' ≡ sets O to (said_after s B L (get_or I i 0))
    written = rw p.written.bytes (sets_part O (said_after s B L (get_or I i 0)) to (length O - to) refl (omega (arith, p.written.to, p.written.within)))

    said_now : take (to + n) O'' ≡ take to O ++ said_after s B L (get_or I i 0)
    said_now = rw (written, p.written.to) (take_sets O (said_after s B L (get_or I i 0)) to (omega (arith, p.written.to, p.written.within)))

    pub talk_goes : (m : ℕ) → m ≡ length O → talked m (talk_at s B L O to i) (drop i I) ≡ talked m (talk_at s' B'' L' O'' (to + n) (i + 1)) (drop (i + 1) I)
    talk_goes m e = rw (drop-cons I i 0 h, said_now, p.session, p.leaves, p.waits, add-one i)
        (rw (add-one i) at (talk_more m (talk_at s B L O to i) (get_or I i 0) (drop (suc i) I) (rw (length-take-le to O within) (omega arith))))

    pub bytes_go : (O₀ : List ℕ) → O ≡ sets O₀ 0 (take to O) → O'' ≡ sets O₀ 0 (take (to + n) O'')
    bytes_go O₀ e =
        let v = said_after s B L (get_or I i 0) in
        let z : 0 + length (take to O) ≡ to = rw (length-take-le to O within) (omega arith) in
        rw said_now (written ∙ ap (λ (x : List ℕ). sets x to v) e ∙ (rw z at (sets_append O₀ 0 (take to O) v)))

    pub length_goes : length O'' ≡ length O
    length_goes = rw (written, length-sets) refl

-- what is handed back when the loop is left
module _ (s₀ : Session) (I B₀ L₀ O₀ : List ℕ) (s : Session) (B L O : List ℕ) (to i : ℕ) where
  pub answered : talked (length O₀) (begun s₀ B₀ L₀) I ≡ talk_at s B L O to i → to ≤ length O → O ≡ sets O₀ 0 (take to O) → i ≤ length I
      → Answered s₀ I B₀ L₀ O₀ (record { session = s; used = i; to = to }) B L O
  answered e within bytes used =
      record {
        handed = rw (e, length-take-le to O within) refl;
        board = rw e refl;
        list = rw e refl;
        bytes = rw e bytes;
        used = used;
        counts = (within, sym (length-take-le to O within));
      }
