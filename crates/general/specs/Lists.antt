-- Lists of zeros. Assumes nothing.
use Rattle.std.specs.Prelude.{List, ℕ, replicate}

-- n entries of 0, shut so that no proof computes them.
unfoldable pub blank : ℕ → List ℕ
blank n = replicate n 0
