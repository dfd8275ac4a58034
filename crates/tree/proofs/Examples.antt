-- Walks worked by hand, as source document 001's figure 2 draws them. Assumes nothing.
use mathlib.Core.Path.{◌≡◌, refl}
use mathlib.Core.List.{[], ◌∷◌}
use lib.Count.{count_trailing_zeros, ones}
use lib.ListN.{replicate}
use Rattle.calls.specs.declared.Refusal.TheVariants.{Capacity, Short}
use Rattle.tree.specs.Marks.{leaves_of, marks_after, leaf_of, marks_of}
use Rattle.tree.specs.Results.{walked, finding}
use Rattle.tree.specs.declared.Unwalked.TheVariants as unwalked
use Rattle.std.specs.Prelude.{Ok, Err}

-- C = 8: a round and the start of the next; the marks of two walks, by level, and the one beyond the seven untouched
eight : leaves_of 8 (replicate 7 0) 10 ≡ 0 ∷ 4 ∷ 2 ∷ 6 ∷ 1 ∷ 5 ∷ 3 ∷ 7 ∷ 0 ∷ 4 ∷ []
unfolding leaves_of count_trailing_zeros
eight = refl

two : marks_after 8 (0 ∷ 0 ∷ 0 ∷ 0 ∷ 0 ∷ 0 ∷ 0 ∷ 9 ∷ []) 2 ≡ 0 ∷ 1 ∷ 1 ∷ 1 ∷ 0 ∷ 1 ∷ 0 ∷ 9 ∷ []
unfolding marks_after count_trailing_zeros
two = refl

-- a mark of 7 becomes 0 and leads right
seven : leaf_of 2 (7 ∷ []) ≡ 1
unfolding leaf_of count_trailing_zeros
seven = refl

seven_after : marks_of 2 (7 ∷ []) ≡ 0 ∷ []
unfolding marks_of count_trailing_zeros
seven_after = refl

-- one leaf and no marks; 16 before 2; too few marks, one entry too few; 4,096 has one set digit and is 1
one : walked 1 (5 ∷ []) [] ≡ Ok (record { name = 5; leaf = 0 })
unfolding leaf_of finding count_trailing_zeros ones
one = refl

six : walked 6 [] [] ≡ Err unwalked.Power
unfolding finding count_trailing_zeros ones
six = refl

few_marks : walked 4 (1 ∷ 1 ∷ 1 ∷ 1 ∷ []) (0 ∷ 0 ∷ []) ≡ Err (unwalked.Refused Short)
unfolding finding count_trailing_zeros ones
few_marks = refl

few_leaves : walked 4 (1 ∷ 1 ∷ 1 ∷ []) (0 ∷ 0 ∷ 0 ∷ []) ≡ Err (unwalked.Refused Short)
unfolding finding count_trailing_zeros ones
few_leaves = refl

large : walked 4096 [] [] ≡ Err (unwalked.Refused Capacity)
unfolding finding count_trailing_zeros ones
large = refl
