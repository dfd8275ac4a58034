-- A history of one drive: calls made one after the other, each given the record and the board that the last one left. What a call does and says is the
-- definition that its promise cites.
-- Assumes nothing.
use Rattle.std.specs.Prelude.{List, [], ◌∷◌, ℕ, ◌≤◌, ◌<◌, length}
use Rattle.calls.specs.declared.Drive.{Drive}
use Rattle.calls.specs.Answers.{Answer}
use Rattle.calls.specs.Results.{opened, opened_board, added, added_board, added_answer, removed, removed_board, removed_answer, served, served_answer, rounded, rounded_answer, reported, reported_answer, refreshed, refreshed_board, refreshed_answer}

-- A call, with what it is given beside the record and the board: a name and a weight, a name, nothing, the lent output, a name,
-- nothing (the fresh layout, request No. 12).
pub data Act : Type 0 where
  Add : ℕ → ℕ → Act
  Remove : ℕ → Act
  Slot : Act
  Round : List ℕ → Act
  Report : ℕ → Act
  Fresh : Act

-- The record and the board between two calls.
pub record State : Type 0 where
  pub drive : Drive
  pub board : List ℕ

-- What the call leaves.
abbrev pub does : Act → State → State
does (Add x w) s = record { drive = (added s.drive s.board x w).drive; board = added_board s.drive s.board x w }
does (Remove x) s = record { drive = (removed s.drive s.board x).drive; board = removed_board s.drive s.board x }
does Slot s = record { drive = (served s.drive s.board).drive; board = s.board }
does (Round O) s = record { drive = (rounded s.drive s.board O).drive; board = s.board }
does (Report x) s = record { drive = (reported s.drive s.board x).drive; board = s.board }
does Fresh s = record { drive = (refreshed s.drive s.board).drive; board = refreshed_board s.drive s.board }

-- What it says: document 01's number and values.
abbrev pub says : Act → State → Answer
says (Add x w) s = added_answer s.drive s.board x w
says (Remove x) s = removed_answer s.drive s.board x
says Slot s = served_answer s.drive s.board
says (Round O) s = rounded_answer s.drive s.board O
says (Report x) s = reported_answer s.drive s.board x
says Fresh s = refreshed_answer s.drive s.board

-- The record and the board after open.
abbrev pub opens : ℕ → List ℕ → State
opens C B = record { drive = (opened C B).drive; board = opened_board C B }

-- The record and the board after acts, one after the other.
unfoldable pub after : State → List Act → State
after s [] = s
after s (a ∷ acts) = after (does a s) acts

-- A capacity and a board that open takes: C is 1 to 4,095, and the board has C entries or more.
pub record Openable (C : ℕ) (B : List ℕ) : Type 0 where
  pub some : 0 < C
  pub few : C ≤ 4095
  pub long : C ≤ length B

-- The record and the board after open and then acts.
abbrev pub reach : ℕ → List ℕ → List Act → State
reach C B acts = after (opens C B) acts

-- An act and what it said.
pub record Event : Type 0 where
  pub act : Act
  pub answer : Answer

-- What acts said, one after the other.
unfoldable pub log : State → List Act → List Event
log s [] = []
log s (a ∷ acts) = record { act = a; answer = says a s } ∷ log (does a s) acts
