-- Histories of any set of calls: A is a call, S what stands between two calls, `does` what a call leaves of it. For every set of calls that a request brings.
-- Assumes nothing.
use Rattle.std.specs.Prelude.{List, [], ◌∷◌, ◌++◌, map}

-- What calls leave, each given what the last one left.
unfoldable pub through : {A S : Type 0} → (A → S → S) → S → List A → S
through does s [] = s
through does s (a ∷ rest) = through does (does a s) rest

-- What each call gives, one after the other.
unfoldable pub along : {A S R : Type 0} → (A → S → S) → (A → S → List R) → S → List A → List R
along does gives s [] = []
along does gives s (a ∷ rest) = gives a s ++ along does gives (does a s) rest

-- What comes of h, call by call.
unfoldable pub following : {A S H : Type 0} → (A → S → S) → (H → A → S → H) → H → S → List A → H
following does next h s [] = h
following does next h s (a ∷ rest) = following does next (next h a s) (does a s) rest

-- Each call keeps to P.
unfoldable pub Each : {A S : Type 0} → (A → S → S) → (A → S → Type 0) → S → List A → Type 0
Each does P s [] = Unit {0}
Each does P s (a ∷ rest) = P a s × Each does P (does a s) rest

-- ---- two drives on one board

-- A call of the drive that sees the history, or of the other,
pub data TurnOf (A : Type 0) : Type 0 where
  Own : A → TurnOf A
  Other : A → TurnOf A

-- and the same calls as the other sees them.
abbrev pub turned : {A : Type 0} → TurnOf A → TurnOf A
turned (Own a) = Other a
turned (Other a) = Own a

abbrev pub turned_all : {A : Type 0} → List (TurnOf A) → List (TurnOf A)
turned_all turns = map turned turns

-- One of the two drives.
pub data Which : Type 0 where
  This : Which
  That : Which
