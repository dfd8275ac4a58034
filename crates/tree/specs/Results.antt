-- What a walk finds, answers and leaves of the marks, for every input. The refusals 1 and 2 are document 01's; 16 is request No. 8's.
-- Assumes nothing.
use Rattle.std.specs.Prelude.{◌||◌, cond, List, [], ◌∷◌, ℕ, ◌-◌, ltb, length, get_or, Ok, Err}
use Rattle.std.specs.Int.Count.{ones}
use Rattle.calls.specs.Answers.{Answer}
use Rattle.calls.specs.Refusals.{number_of, applies, asked_open}
use Rattle.calls.specs.declared.Refusal.TheVariants.{Capacity, Short}
use Rattle.tree.specs.Types.{Walking, Finding}
use Rattle.tree.specs.declared.Unwalked.TheVariants as unwalked
use Rattle.tree.specs.Marks.{leaf_of, marks_of}

-- The first refusal that applies, with m marks: 1; 16 where C has more than one set digit; 2 where the board is shorter than C, or there are fewer than C - 1
-- marks.
unfoldable pub finding : ℕ → List ℕ → ℕ → Finding
unfolding applies
finding C B m =
    cond (applies Capacity (asked_open C B)) (Err (unwalked.Refused Capacity))
    (cond (ltb 1 (ones C)) (Err unwalked.Power)
    (cond (applies Short (asked_open C B) || ltb m (C - 1)) (Err (unwalked.Refused Short)) (Ok tt)))

-- The numbers a walk may answer beside 0, in their order.
abbrev pub walk_may : List ℕ
walk_may = 1 ∷ 16 ∷ 2 ∷ []

-- The number and the values of every case of the answer.
abbrev pub walking_answer : Walking → Answer
walking_answer (Ok l) = record { number = 0; values = l.name ∷ l.leaf ∷ [] }
walking_answer (Err unwalked.Power) = record { number = 16; values = 0 ∷ 0 ∷ [] }
walking_answer (Err (unwalked.Refused r)) = record { number = number_of r; values = 0 ∷ 0 ∷ [] }

-- By what the checks find: the answer, its number, and what stands where the walk is made or else.
abbrev pub walking_by : Finding → ℕ → ℕ → Walking
walking_by (Ok tt) name leaf = Ok (record { name = name; leaf = leaf })
walking_by (Err unwalked.Power) name leaf = Err unwalked.Power
walking_by (Err (unwalked.Refused r)) name leaf = Err (unwalked.Refused r)

abbrev pub number_by : Finding → ℕ
number_by (Ok tt) = 0
number_by (Err unwalked.Power) = 16
number_by (Err (unwalked.Refused r)) = number_of r

abbrev pub if_made {ℓ} : {A : Type ℓ} → Finding → A → A → A
if_made (Ok tt) made was = made
if_made (Err unwalked.Power) made was = was
if_made (Err (unwalked.Refused r)) made was = was

-- walk: the name that stands on the leaf, and the leaf; the marks on the way are flipped.
abbrev pub finds : ℕ → List ℕ → List ℕ → Finding
finds C B M = finding C B (length M)

abbrev pub walked_name : ℕ → List ℕ → List ℕ → ℕ
walked_name C B M = get_or B (leaf_of C M) 0

abbrev pub walked : ℕ → List ℕ → List ℕ → Walking
walked C B M = walking_by (finds C B M) (walked_name C B M) (leaf_of C M)

abbrev pub walked_answer : ℕ → List ℕ → List ℕ → Answer
walked_answer C B M =
    record { number = number_by (finds C B M); values = if_made (finds C B M) (walked_name C B M ∷ leaf_of C M ∷ []) (0 ∷ 0 ∷ []) }

abbrev pub walked_marks : ℕ → List ℕ → List ℕ → List ℕ
walked_marks C B M = if_made (finds C B M) (marks_of C M) M
