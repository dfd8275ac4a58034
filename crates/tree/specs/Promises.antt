-- What a walk promises, for every input and any marks: the result, the same in number and values, and what the marks hold at exit (E).
-- Assumes nothing.
use Rattle.std.specs.Prelude.{◌≡◌, List, ℕ}
use Rattle.tree.specs.Types.{Walking}
use Rattle.tree.specs.Results.{walking_answer, walked, walked_answer, walked_marks}

abbrev pub Walks : ℕ → List ℕ → List ℕ → Walking → List ℕ → Type 0
Walks C B M r E = (r ≡ walked C B M) × (walking_answer r ≡ walked_answer C B M) × (E ≡ walked_marks C B M)
