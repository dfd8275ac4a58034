-- The two engines on one board, call after call, each given what the last left: the walk its marks, slot its record.
-- Assumes nothing.
use Rattle.std.specs.Prelude.{List, ℕ, zero, suc, take}
use Rattle.calls.specs.declared.Drive.{Drive}
use Rattle.calls.specs.Answers.{Answer}
use Rattle.calls.specs.Results.{served}
use Rattle.tree.specs.Results.{walked_marks}

-- The marks after n walks, and the record after n slots.
unfoldable pub marks_left : ℕ → List ℕ → List ℕ → ℕ → List ℕ
marks_left C B M zero = M
marks_left C B M (suc n) = marks_left C B (walked_marks C B M) n

unfoldable pub drive_left : Drive → List ℕ → ℕ → Drive
drive_left d B zero = d
drive_left d B (suc n) = drive_left (served d B).drive B n

-- Of what a slot answers: its number, the name and the leaf.
abbrev pub name_and_leaf : Answer → Answer
name_and_leaf a = record { number = a.number; values = take 2 a.values }
