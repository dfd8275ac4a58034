-- The words of a line as an iterator over its parts gives them, and equal words. Assumes nothing.
use mathlib.Core.Path.{◌≡◌, refl, sym, ap, ◌∙◌}
use mathlib.Core.Bool.{Bool, true, false, cond}
use mathlib.Core.List.{List, [], ◌∷◌}
use Prim.Native.Nat.{ℕ}
use lib.Dec.{eqb}
use Rattle.std.specs.Prelude.{Option, Some, None}
use Rattle.std.specs.Iterator.{AlwaysYields}
use Rattle.std.proofs.lemmas.Iterator.{YieldsList}
use Rattle.std.specs.List.{slice_split, onto_first}
use Rattle.std.specs.Slice.Iter.{split_steps}
use Rattle.std.specs.declared.slice.Split.{Split}
use denote.Param.Members.{Mut}
use denote.Ref.{Bor}
use Rattle.std.specs.Cmp.Lexicographic.{pointwise}
use Rattle.general.specs.Tests.{same}
use Rattle.lines.specs.Grammar.{parted, words, open_word, add_word, remove_word, with_one, with_two}

parted_onto : (t : Bool) (b : ℕ) (ws : List (List ℕ)) → parted t b ws ≡ cond t ([] ∷ ws) (onto_first b ws)
parted_onto true b ws = refl
parted_onto false b [] = refl
parted_onto false b (w ∷ ws) = refl

-- a line's words are its parts at spaces
pub split_words : (s : List ℕ) → slice_split (λ b. eqb b 32) s ≡ words s
unfolding words
split_words [] = refl
split_words (b ∷ s) = rw (split_words s, parted_onto (eqb b 32) b (words s)) refl

-- ---- calls of next, one after the other: the parts so far, and whether there are more

module _ {F : Type 0} (g : Mut F (Bor ℕ × Unit {0}) Bool) where
  abbrev Left : Split ℕ F → List (List ℕ) → Type 0
  Left s ys = AlwaysYields (split_steps g) (λ y. y.now) s ys

  none_after : (s t : Split ℕ F) (ys : List (List ℕ)) → Left s ys → {r : Option (Bor (List ℕ))} → r ≡ None → split_steps g s r t → ys ≡ []
  none_after s t [] h e k = refl
  none_after s t (y ∷ ys) h e k = absurd (h.0 t (rw e at k))

  -- the part is the first of those that were left
  record Next (x : Bor (List ℕ)) (t : Split ℕ F) (ys : List (List ℕ)) : Type 0 where
    rest : List (List ℕ)
    first : ys ≡ x.now ∷ rest
    left : Left t rest

  some_after : (s t : Split ℕ F) (ys : List (List ℕ)) → Left s ys → {r : Option (Bor (List ℕ))} {x : Bor (List ℕ)} → r ≡ Some x → split_steps g s r t → Next x t ys
  some_after s t [] h {r} {x} e k = absurd (h x t (rw e at k))
  some_after s t (y ∷ ys) h {r} {x} e k = let n = h.1 x t (rw e at k) in record { rest = ys; first = rw n.0 refl; left = n.1 }

module _ {F : Type 0} (g : Mut F (Bor ℕ × Unit {0}) Bool) (s t : Split ℕ F) {r : Option (Bor (List ℕ))} {x : Bor (List ℕ)} (e : r ≡ Some x) (k : split_steps g s r t) where
  abbrev Parts : List (List ℕ) → Type 0
  Parts ys = YieldsList (split_steps g) (λ y. y.now) s ys

  pub only_one : (t₂ : Split ℕ F) {r₂ : Option (Bor (List ℕ))} → r₂ ≡ None → split_steps g t r₂ t₂ → {ys : List (List ℕ)} → Parts ys → ys ≡ x.now ∷ []
  only_one t₂ e₂ k₂ {ys} h = let a = some_after g s t ys h.runs e k in a.first ∙ ap (λ l. x.now ∷ l) (none_after g t t₂ a.rest a.left e₂ k₂)

  module _ (t₂ : Split ℕ F) {r₂ : Option (Bor (List ℕ))} {x₂ : Bor (List ℕ)} (e₂ : r₂ ≡ Some x₂) (k₂ : split_steps g t r₂ t₂) where
    pub only_two : (t₃ : Split ℕ F) {r₃ : Option (Bor (List ℕ))} → r₃ ≡ None → split_steps g t₂ r₃ t₃ → {ys : List (List ℕ)} → Parts ys → ys ≡ x.now ∷ x₂.now ∷ []
    only_two t₃ e₃ k₃ {ys} h =
        let a = some_after g s t ys h.runs e k in
        let b = some_after g t t₂ a.rest a.left e₂ k₂ in
        a.first ∙ ap (λ l. x.now ∷ l) (b.first ∙ ap (λ l. x₂.now ∷ l) (none_after g t₂ t₃ b.rest b.left e₃ k₃))

    module _ (t₃ : Split ℕ F) {r₃ : Option (Bor (List ℕ))} {x₃ : Bor (List ℕ)} (e₃ : r₃ ≡ Some x₃) (k₃ : split_steps g t₂ r₃ t₃) where
      pub only_three : (t₄ : Split ℕ F) {r₄ : Option (Bor (List ℕ))} → r₄ ≡ None → split_steps g t₃ r₄ t₄ → {ys : List (List ℕ)} → Parts ys → ys ≡ x.now ∷ x₂.now ∷ x₃.now ∷ []
      only_three t₄ e₄ k₄ {ys} h =
          let a = some_after g s t ys h.runs e k in
          let b = some_after g t t₂ a.rest a.left e₂ k₂ in
          let c = some_after g t₂ t₃ b.rest b.left e₃ k₃ in
          a.first ∙ ap (λ l. x.now ∷ l) (b.first ∙ ap (λ l. x₂.now ∷ l) (c.first ∙ ap (λ l. x₃.now ∷ l) (none_after g t₃ t₄ c.rest c.left e₄ k₄)))

      pub four_or_more : (t₄ : Split ℕ F) {r₄ : Option (Bor (List ℕ))} {x₄ : Bor (List ℕ)} → r₄ ≡ Some x₄ → split_steps g t₃ r₄ t₄ → {ys : List (List ℕ)} → Parts ys
          → (rest : List (List ℕ)) × (ys ≡ x.now ∷ x₂.now ∷ x₃.now ∷ x₄.now ∷ rest)
      four_or_more t₄ e₄ k₄ {ys} h =
          let a = some_after g s t ys h.runs e k in
          let b = some_after g t t₂ a.rest a.left e₂ k₂ in
          let c = some_after g t₂ t₃ b.rest b.left e₃ k₃ in
          let d = some_after g t₃ t₄ c.rest c.left e₄ k₄ in
          (d.rest, a.first ∙ ap (λ l. x.now ∷ l) (b.first ∙ ap (λ l. x₂.now ∷ l) (c.first ∙ ap (λ l. x₃.now ∷ l) d.first)))

-- ---- equal words

pub pointwise_same : (s t : List ℕ) → pointwise eqb s t ≡ same s t
unfolding same
pointwise_same [] [] = refl
pointwise_same [] (b ∷ t) = refl
pointwise_same (a ∷ s) [] = refl
pointwise_same (a ∷ s) (b ∷ t) = rw (pointwise_same s t) refl

-- what a comparison of two words found
pub found_same : (s t : List ℕ) {r v : Bool} → r ≡ pointwise eqb s t → r ≡ v → same s t ≡ v
found_same s t e k = sym (pointwise_same s t) ∙ sym e ∙ k

-- ---- what is no command

pub one_other : (w : List ℕ) (n : Option ℕ) → same w open_word ≡ false → same w remove_word ≡ false → with_one w n ≡ None
unfolding with_one
one_other w None e f = refl
one_other w (Some x) e f = rw (e, f) refl

pub two_none : (w : List ℕ) (n : Option ℕ) → with_two w n None ≡ None
unfolding with_two
two_none w None = refl
two_none w (Some x) = refl

pub two_other : (w : List ℕ) (n m : Option ℕ) → same w add_word ≡ false → with_two w n m ≡ None
unfolding with_two
two_other w None m e = refl
two_other w (Some x) None e = refl
two_other w (Some x) (Some y) e = rw e refl
