-- Any set of calls that does, call by call, what plain calls do: its histories lead where the plain ones lead, and serve what they serve. And what holds of the start
-- and is kept by each call holds ever after. Assumes nothing.
use mathlib.Core.Path.{◌≡◌, refl, sym, ap, ap₂, ◌∙◌}
use mathlib.Core.List.{List, [], ◌∷◌, ◌++◌, append_assoc}
use Prim.Native.Nat.{ℕ, zero, suc}
use native.Mathlib.Omega.{arith}
use lib.ListN.{length, replicate, length-append}
use Rattle.demands.specs.Histories.{Act, Slot, State, after, log}
use Rattle.pieces.specs.Streams.{Stream}
use Rattle.demands.specs.Holdings.{held_from}
use Rattle.demands.specs.Rounds.{names, names_from}
use Rattle.demands.proofs.Laws.{after_append, names_append, held_append}
use Rattle.amended.specs.Histories.{through, along, following, Each}

module _ {A S : Type 0} (does : A → S → S) where
  -- what each call keeps
  pub ever : {H : Type 0} (next : H → A → S → H) (P : H → S → Type 0) → ((h : H) (a : A) (s : S) → P h s → P (next h a s) (does a s))
      → (h : H) (s : S) → P h s → (rest : List A) → P (following does next h s rest) (through does s rest)
  unfolding following through
  ever next P keeps h s p [] = p
  ever next P keeps h s p (a ∷ rest) = ever next P keeps (next h a s) (does a s) (keeps h a s p) rest

  pub always : (P : S → Type 0) → ((a : A) (s : S) → P s → P (does a s)) → (s : S) → P s → (rest : List A) → P (through does s rest)
  unfolding through
  always P keeps s p [] = p
  always P keeps s p (a ∷ rest) = always P keeps (does a s) (keeps a s p) rest

  -- one call more
  pub through_append : (s : S) (xs ys : List A) → through does s (xs ++ ys) ≡ through does (through does s xs) ys
  unfolding through
  through_append s [] ys = refl
  through_append s (x ∷ xs) ys = through_append (does x s) xs ys

  -- the same call over and over: each keeps to OK, and where each serves one name there are as many
  pub row_whole : (OK : A → S → Type 0) (a : A) → ((s : S) → OK a s) → (n : ℕ) (s : S) → Each does OK s (replicate n a)
  unfolding Each
  row_whole OK a ok zero s = tt
  row_whole OK a ok (suc n) s = (ok s, row_whole OK a ok n (does a s))

  pub row_many : {H : Type 0} (next : H → A → S → H) (P : H → S → Type 0) → ((h : H) (a : A) (s : S) → P h s → P (next h a s) (does a s))
      → (served : A → S → List ℕ) (a : A) → ((h : H) (s : S) → P h s → length (served a s) ≡ 1)
      → (n : ℕ) (h : H) (s : S) → P h s → length (along does served s (replicate n a)) ≡ n
  unfolding along
  row_many next P keeps served a once zero h s p = refl
  row_many next P keeps served a once (suc n) h s p = length-append (served a s) (along does served (does a s) (replicate n a))
      ∙ rw (once h s p, row_many next P keeps served a once n (next h a s) (does a s) (keeps h a s p)) (omega arith)

  -- a set of calls that stand for plain calls
  module _ (shown : S → State) (stands : A → S → List Act) (OK : A → S → Type 0)
      (same : (a : A) (s : S) → OK a s → shown (does a s) ≡ after (shown s) (stands a s)) where
    pub projected : (s : S) (rest : List A) → Each does OK s rest → shown (through does s rest) ≡ after (shown s) (along does stands s rest)
    unfolding through along Each after
    projected s [] ok = refl
    projected s (a ∷ rest) ok = projected (does a s) rest ok.1
        ∙ ap (λ (t : State). after t (along does stands (does a s) rest)) (same a s ok.0)
        ∙ sym (after_append (shown s) (stands a s) (along does stands (does a s) rest))

    pub names_projected : (served : A → S → List ℕ) → ((a : A) (s : S) → OK a s → served a s ≡ names (log (shown s) (stands a s)))
        → (s : S) (rest : List A) → Each does OK s rest → along does served s rest ≡ names (log (shown s) (along does stands s rest))
    unfolding along Each names log
    names_projected served said s [] ok = refl
    names_projected served said s (a ∷ rest) ok = ap₂ (λ (xs ys : List ℕ). xs ++ ys) (said a s ok.0)
        (names_projected served said (does a s) rest ok.1
        ∙ ap (λ (t : State). names (log t (along does stands (does a s) rest))) (same a s ok.0))
        ∙ sym (names_append (shown s) (stands a s) (along does stands (does a s) rest))

    -- what is held, where each call changes it as its plain calls do
    pub held_projected : (next : List Stream → A → S → List Stream)
        → ((hs : List Stream) (a : A) (s : S) → OK a s → next hs a s ≡ held_from hs (log (shown s) (stands a s)))
        → (hs : List Stream) (s : S) (rest : List A) → Each does OK s rest → following does next hs s rest ≡ held_from hs (log (shown s) (along does stands s rest))
    unfolding following along Each held_from log
    held_projected next held hs s [] ok = refl
    held_projected next held hs s (a ∷ rest) ok = held_projected next held (next hs a s) (does a s) rest ok.1
        ∙ rw (same a s ok.0, held hs a s ok.0) refl
        ∙ sym (held_append hs (shown s) (stands a s) (along does stands (does a s) rest))

    -- calls from one that stands for plain calls and then a slot: they lead where the plain calls from that slot on lead, and where those before it serve nothing they
    -- serve the same names
    module _ (a : A) (s : S) (rest : List A) (before : List Act) (e : stands a s ≡ before ++ (Slot ∷ [])) (ok : Each does OK s (a ∷ rest)) where
      abbrev later : List Act
      later = along does stands (does a s) rest

      from_slot : along does stands s (a ∷ rest) ≡ before ++ (Slot ∷ later)
      unfolding along
      from_slot = ap (λ (acts : List Act). acts ++ later) e ∙ append_assoc before (Slot ∷ []) later

      pub leads_from_slot : shown (through does s (a ∷ rest)) ≡ after (after (shown s) before) (Slot ∷ along does stands (does a s) rest)
      leads_from_slot = projected s (a ∷ rest) ok ∙ ap (after (shown s)) from_slot ∙ after_append (shown s) before (Slot ∷ later)

      pub names_from_slot : (served : A → S → List ℕ) → ((b : A) (u : S) → OK b u → served b u ≡ names (log (shown u) (stands b u))) → names (log (shown s) before) ≡ []
          → along does served s (a ∷ rest) ≡ names_from (after (shown s) before) (along does stands (does a s) rest)
      names_from_slot served said none = names_projected served said s (a ∷ rest) ok
          ∙ ap (λ (acts : List Act). names (log (shown s) acts)) from_slot
          ∙ names_append (shown s) before (Slot ∷ later)
          ∙ rw none refl
