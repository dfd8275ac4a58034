-- What holds of every call, whatever it is given and lent: no second answer fits its promise, a refusal leaves everything as it was, and only the numbers
-- of its list are answered. The laws of each set of calls are instances. Assumes nothing.
use mathlib.Core.Path.{◌≡◌, refl, sym, ap, ◌∙◌}
use mathlib.Core.Bool.{Bool, true, false, ◌&&◌, or-true}
use mathlib.Core.List.{List, [], ◌∷◌}
use Prim.Native.Nat.{ℕ}
use lib.Dec.{eqb}
use lib.ListN.{get_or, length}
use borrow.Author.Tests.{eq-eqb, eqb-true}
use Rattle.general.proofs.Laws.{clash, both, by_bool}
use Rattle.calls.specs.declared.Refusal.{Refusal}
use Rattle.calls.specs.declared.Refusal.TheVariants.{Capacity, Short, Position, Midround, Damaged, Name, Weight, Taken, Absent, Room, Output, Block}
use Rattle.calls.specs.Types.{Check}
use Rattle.std.specs.Prelude.{Ok, Err}
use Rattle.calls.specs.Refusals.{Asked, number_of, applies, first_of, refuse_if, and_then, is_clear, zero_or, numbers, among}
use Rattle.calls.specs.Answers.{Answer, number_by}
use Rattle.calls.specs.Results.{if_clear}

-- ---- the numbers of the table: none is 0, and each tells its refusal

refusal_of : ℕ → Refusal
refusal_of n = get_or (Block ∷ Capacity ∷ Short ∷ Position ∷ Midround ∷ Damaged ∷ Name ∷ Weight ∷ Taken ∷ Absent ∷ Room ∷ Output ∷ []) n Block

numbered : (r : Refusal) → (refusal_of (number_of r) ≡ r) × (eqb (number_of r) 0 ≡ false)
unfolding refusal_of
numbered Capacity = (refl, refl)
numbered Short = (refl, refl)
numbered Position = (refl, refl)
numbered Midround = (refl, refl)
numbered Damaged = (refl, refl)
numbered Name = (refl, refl)
numbered Weight = (refl, refl)
numbered Taken = (refl, refl)
numbered Absent = (refl, refl)
numbered Room = (refl, refl)
numbered Output = (refl, refl)
numbered Block = (refl, refl)

pub number_some : (r : Refusal) → eqb (number_of r) 0 ≡ false
number_some r = (numbered r).1

pub number_tells : (r q : Refusal) → number_of r ≡ number_of q → r ≡ q
number_tells r q e = sym (numbered r).0 ∙ ap refusal_of e ∙ (numbered q).0

-- ---- a refusal leaves everything as it was

-- 0 where the checks find nothing, and only there
pub clear_number : (k : Check) → number_by k ≡ 0 → k ≡ Ok tt
clear_number (Ok tt) e = refl
clear_number (Err r) e = clash (eq-eqb (number_of r) 0 e) (number_some r)

-- by the test: checks that are clear found nothing, and others a refusal
pub is_clear_lem : (k : Check) → is_clear k ≡ true → k ≡ Ok tt
is_clear_lem (Ok tt) e = refl
is_clear_lem (Err r) e = clash e refl

pub not_clear : (k : Check) → is_clear k ≡ false → (r : Refusal) × (k ≡ Err r)
not_clear (Ok tt) e = clash refl e
not_clear (Err r) e = (r, refl)

-- what a call leaves, whatever its checks find, where both are alike
pub either_same : (k : Check) (X : List ℕ) → if_clear k X X ≡ X
either_same (Ok tt) X = refl
either_same (Err r) X = refl

pub either_length : (k : Check) (D B : List ℕ) → length D ≡ length B → length (if_clear k D B) ≡ length B
either_length (Ok tt) D B h = h
either_length (Err r) D B h = refl

-- an answer that refuses: its number is not 0
abbrev pub Refuses : Answer → Type 0
Refuses a = a.number ≡ 0 → ⊥

pub refuses : {a b : Answer} → a ≡ b → Refuses a → Refuses b
refuses e h z = h (ap (λ (a : Answer). a.number) e ∙ z)

-- the checks of a call that refuses found a refusal; with it every definition of what the call leaves computes
pub refusal : (k : Check) → (number_by k ≡ 0 → ⊥) → (r : Refusal) × (k ≡ Err r)
refusal (Ok tt) h = absurd (h refl)
refusal (Err r) h = (r, refl)

-- ---- only the numbers of a list

-- 0, or a number of the list
abbrev pub Within : List ℕ → Check → Type 0
Within ns k = zero_or (number_by k) ns ≡ true

pub within_among : (rs : List Refusal) (k : Check) → Within (numbers rs) k → among (number_by k) rs ≡ true
unfolding among
within_among rs k e = e

-- what is answered is what the definition says
pub may : {a b : Answer} (rs : List Refusal) → a ≡ b → among b.number rs ≡ true → among a.number rs ≡ true
may rs e m = ap (λ (a : Answer). among a.number rs) e ∙ m

-- 0 stands in every list
zero_in : (ns : List ℕ) → zero_or 0 ns ≡ true
unfolding zero_or
zero_in [] = refl
zero_in (n ∷ ns) = rw (zero_in ns) (or-true (eqb 0 n))

-- one refusal more
within_more : (b : Bool) (r : Refusal) (ns : List ℕ) (k : Check) → Within ns k → Within (number_of r ∷ ns) (refuse_if b r k)
unfolding zero_or
within_more true r ns k h = rw (eq-eqb (number_of r) (number_of r) refl)
within_more false r ns k h = rw h (or-true (eqb (number_by k) (number_of r)))

-- the first of a list of refusals
pub first_within : (rs : List Refusal) (a : Asked) → Within (numbers rs) (first_of rs a)
unfolding first_of zero_or
first_within [] a = refl
first_within (r ∷ rs) a = within_more (applies r a) r (numbers rs) (first_of rs a) (first_within rs a)

pub first_among : (rs : List Refusal) (a : Asked) → among (number_by (first_of rs a)) rs ≡ true
first_among rs a = within_among rs (first_of rs a) (first_within rs a)

-- checks that are made of parts
module _ (ns : List ℕ) where
  pub then_within : (j k : Check) → Within ns j → Within ns k → Within ns (and_then j k)
  then_within (Ok tt) k m n = n
  then_within (Err r) k m n = m

  pub if_within : (b : Bool) (r : Refusal) (k : Check) → zero_or (number_of r) ns ≡ true → Within ns k → Within ns (refuse_if b r k)
  if_within true r k m n = m
  if_within false r k m n = n

-- every number of a list stands in another
unfoldable pub covers : List ℕ → List ℕ → Bool
unfolding zero_or
covers ms [] = true
covers ms (n ∷ ns) = zero_or n ms && covers ms ns

wider : (n : ℕ) (ms ns : List ℕ) → covers ms ns ≡ true → zero_or n ns ≡ true → zero_or n ms ≡ true
unfolding covers zero_or
wider n ms [] c e = rw (eqb-true n 0 e) (zero_in ms)
wider n ms (m ∷ ns) c e =
    let f = both (zero_or m ms) (covers ms ns) c in
    by_bool (eqb n m)
    (λ t. rw (eqb-true n m t) f.0)
    (λ t. wider n ms ns f.1 (rw t at e))

-- so a part of the checks of a call, with a list of its own, keeps to the call's list
pub part_within : (ms ns : List ℕ) (k : Check) → covers ms ns ≡ true → Within ns k → Within ms k
part_within ms ns k c e = wider (number_by k) ms ns c e

-- a number that the list has not is not answered, and its refusal is not found
pub other_number : (ns : List ℕ) (n m : ℕ) → zero_or n ns ≡ true → zero_or m ns ≡ false → eqb n m ≡ false
other_number ns n m e f = by_bool (eqb n m) (λ t. clash (rw (eqb-true n m t) at e) f) (λ t. t)

pub never_within : (ns : List ℕ) (k : Check) (r : Refusal) → Within ns k → zero_or (number_of r) ns ≡ false → k ≡ Err r → ⊥
never_within ns k r e n q = clash (rw q at e) n
