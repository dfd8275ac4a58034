-- Bytes that are read into what is lent, one read after the other. Assumes nothing.
use Rattle.std.proofs.Common.{◌≡◌, ℕ, ◌+◌, ◌≤◌, List, ◌++◌, Option, None, Some, length, take, sym, ap, ◌∙◌, length-take-le}
use Rattle.std.proofs.Math.Seq.{take-append-add}
use Rattle.std.proofs.lemmas.List.{append_assoc, take-append-le}
use Rattle.std.specs.Io.KnownBytes.{Consumes}
use borrow.Rule.Slice.PartMut.{put_mid}

-- what stands at the start after a read of n bytes to the place a
pub filled : (a k n : ℕ) (xs ys : List ℕ) → a ≤ length xs → n ≤ length ys → take (a + n) (put_mid a k xs ys) ≡ take a xs ++ take n ys
filled a k n xs ys p q =
    ap (λ m. take (m + n) (put_mid a k xs ys)) (sym (length-take-le a xs p)) ∙ take-append-add (take a xs) _ n ∙ ap (λ l. take a xs ++ l) (take-append-le n ys _ q)

-- known bytes that begin with some, and then with others
pub consumes_more : (o p q : Option (List ℕ)) (front back : List ℕ) → Consumes o p front → Consumes p q back → Consumes o q (front ++ back)
consumes_more None p q front back f g = tt
consumes_more (Some xs) None q front back f g = elim f [ ]
consumes_more (Some xs) (Some ys) None front back f g = g
consumes_more (Some xs) (Some ys) (Some zs) front back f g = f ∙ ap (λ l. front ++ l) g ∙ sym (append_assoc front back zs)
