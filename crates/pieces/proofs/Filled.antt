-- A fill and a copy by their parts: what lies before, the name over and over or the leaves copied, what lies after. Assumes nothing.
use Rattle.std.proofs.Common.{◌≡◌, refl, sym, ap, ◌∙◌, List, ◌∷◌, ◌++◌, ℕ, zero, suc, ◌+◌, ◌≤◌, length, get_or, take, drop, replicate, arith}
use Rattle.std.proofs.lemmas.List.{take-append-drop}
use mathlib.Core.List.{append_assoc}
use native.Mathlib.Nat.{add-zero, add-suc}
use lib.ListN.{length-append, length-replicate}
use lib.Seq.{drop-cons, drop-drop, set_at, length-take-le, paste, paste-zero, paste-suc}
use Rattle.std.proofs.lemmas.List.{length-drop, get_or-drop}
use Rattle.pieces.specs.Placing.{fill}
use Rattle.pieces.specs.Tidying.{copy}

one_more : (n x : ℕ) (ys : List ℕ) → replicate n x ++ (x ∷ ys) ≡ x ∷ (replicate n x ++ ys)
one_more zero x ys = refl
one_more (suc n) x ys = ap (λ (l : List ℕ). x ∷ l) (one_more n x ys)

pub fill_parts : (B : List ℕ) (a n x : ℕ) → a + n ≤ length B → fill B a n x ≡ take a B ++ (replicate n x ++ drop (a + n) B)
unfolding fill
fill_parts B a zero x h = rw (add-zero a) (sym (take-append-drop a B))
fill_parts B a (suc n) x h =
    let p : List ℕ = take a B ++ replicate n x in
    let k : length p ≡ a + n = length-append (take a B) (replicate n x) ∙ rw (length-take-le a B (omega arith), length-replicate n x) refl in
    let e : fill B a n x ≡ p ++ (get_or B (a + n) 0 ∷ drop (suc (a + n)) B) =
    fill_parts B a n x (omega arith) ∙ rw (drop-cons B (a + n) 0 (omega arith)) (sym (append_assoc (take a B) (replicate n x) _)) in
    rw (e, set_at p (get_or B (a + n) 0) (drop (suc (a + n)) B) x (a + n) k, append_assoc (take a B) (replicate n x) (x ∷ drop (suc (a + n)) B), one_more n x (drop (suc (a + n)) B), add-suc a n) refl

pub fill_mid : (B : List ℕ) (a n x : ℕ) → a + n ≤ length B → take a B ++ (replicate n x ++ drop n (drop a B)) ≡ fill B a n x
fill_mid B a n x h = rw (drop-drop n a B) (sym (fill_parts B a n x h))

pub copy_paste : (B : List ℕ) (t u n : ℕ) → t + n ≤ length B → u + n ≤ length B → copy B t u n ≡ paste B u (drop t B) n
unfolding copy
copy_paste B t u zero p q = paste-zero B u (drop t B)
copy_paste B t u (suc n) p q =
    let e : get_or B (t + n) 0 ≡ get_or (drop t B) n 0 = sym (get_or-drop t B n 0) in
    rw (copy_paste B t u n (omega arith) (omega arith), e) (paste-suc B u (drop t B) n 0 (omega arith) (omega (arith, length-drop t B)))
