-- The types of what a walk answers, by the names that the definitions use.
-- Assumes nothing.
use Rattle.std.specs.Prelude.{Result}
use Rattle.tree.specs.declared.Leaf.{Leaf}
use Rattle.tree.specs.declared.Unwalked.{Unwalked}

abbrev pub Walking : Type 0
Walking = Result Leaf Unwalked

-- What the checks of a walk find.
abbrev pub Finding : Type 0
Finding = Result (Unit {0}) Unwalked
