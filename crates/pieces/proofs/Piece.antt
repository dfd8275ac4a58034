-- A piece is a run of one name that lies in no larger such run: what `pieces` counts, and what `nth` finds. Assumes nothing.
use mathlib.Core.Path.{◌≡◌, refl, sym, ap, ◌∙◌, subst, subst₂}
use mathlib.Core.Bool.{true, false}
use mathlib.Core.List.{List}
use mathlib.Core.Logic.{◌⊎◌, inl, inr, ⊎_elim}
use Prim.Native.Nat.{ℕ, zero, suc, ◌+◌, ◌-◌, ◌^◌, ◌≤◌, ◌<◌}
use native.Mathlib.Nat.{two-pow-succ}
use native.Mathlib.Omega.{arith}
use native.Mathlib.Decide.{dec_lt, ℕ_discrete}
use lib.ListN.{get_or}
use lib.Pow.{pow_pos}
use borrow.Author.Tests.{lt-ltb, le-ltb}
use Rattle.general.proofs.Laws.{by_bool, never, clash}
use Rattle.pieces.specs.Board.{whole, pieces, nth}
use Rattle.pieces.proofs.Blocks.{In, here, low, high, whole_intro, whole_low, whole_high, runs_no, runs_above, runs_apart, pieces_runs, pieces_yes, pieces_no}
use Rattle.pieces.proofs.Replace.{bounds, NoParent}

-- A block within a block that is halved.
pub in_cases : {a e b l : ℕ} → In a e b (suc l) → ((a ≡ b) × (e ≡ suc l)) ⊎ (In a e b l) ⊎ (In a e (b + 2 ^ l) l)
in_cases here = inl (refl, refl)
in_cases (low i) = inr (inl i)
in_cases (high i) = inr (inr i)

pub in_trans : {a e b l c m : ℕ} → In a e b l → In b l c m → In a e c m
in_trans i here = i
in_trans i (low j) = low (in_trans i j)
in_trans i (high j) = high (in_trans i j)

-- A block that is not all of the larger one has its parent in it.
pub parent : {a e b l : ℕ} → In a e b l → e < l → (q : ℕ) × (In a e q (suc e)) × (In q (suc e) b l)
parent here h = absurd (omega arith)
parent {a} {e} (low {b} {l} i) h =
    elim (ℕ_discrete e l) [
      | yes r ↦ (b, subst (λ (m : ℕ). In a e b (suc m)) (sym r) (low i), subst (λ (m : ℕ). In b (suc m) b (suc l)) (sym r) here)
      | no r ↦ let w = parent i (omega arith) in (w.0, w.1, low w.2)
    ]
parent {a} {e} (high {b} {l} i) h =
    elim (ℕ_discrete e l) [
      | yes r ↦ (b, subst (λ (m : ℕ). In a e b (suc m)) (sym r) (high i), subst (λ (m : ℕ). In b (suc m) b (suc l)) (sym r) here)
      | no r ↦ let w = parent i (omega arith) in (w.0, w.1, high w.2)
    ]

-- Two blocks of one size are the same, or apart.
pub apart : {a c e b l : ℕ} → In a e b l → In c e b l → (a ≡ c) ⊎ (a + 2 ^ e ≤ c) ⊎ (c + 2 ^ e ≤ a)
apart here j = let s = bounds j in inl (omega arith)
apart (low {b} {l} i) j =
    let s = bounds i in
    ⊎_elim (λ r. absurd (omega arith)) (⊎_elim (λ k. apart i k) (λ k. let t = bounds k in inr (inl (omega arith)))) (in_cases j)
apart (high {b} {l} i) j =
    let s = bounds i in
    ⊎_elim (λ r. absurd (omega arith)) (⊎_elim (λ k. let t = bounds k in inr (inr (omega arith))) (λ k. apart i k)) (in_cases j)

-- A half of a block has a twin, the other half.
pub record Twin (a e q : ℕ) : Type 0 where
  pub other : ℕ
  pub inside : In other e q (suc e)
  pub apart : (other + 2 ^ e ≤ a) ⊎ (a + 2 ^ e ≤ other)

pub twin_of : {a e q : ℕ} → In a e q (suc e) → Twin a e q
twin_of {a} {e} {q} i = ⊎_elim (λ r. absurd (omega arith))
    (⊎_elim
    (λ j. let s = bounds j in record { other = q + 2 ^ e; inside = high here; apart = inr (omega arith) })
    (λ j. let s = bounds j in record { other = q; inside = low here; apart = inl (omega arith) }))
    (in_cases i)

module _ (C : ℕ) (B : List ℕ) (x : ℕ) where
  pub whole_sub : {a e b l : ℕ} → In a e b l → whole C B x b l ≡ true → whole C B x a e ≡ true
  whole_sub here t = t
  whole_sub (low {b} {l} i) t = whole_sub i (whole_low C B x b l t)
  whole_sub (high {b} {l} i) t = whole_sub i (whole_high C B x b l t)

  pub pieces_apart : (e a l : ℕ) → whole C B x a (suc l) ≡ false → pieces C B x e a (suc l) ≡ pieces C B x e a l + pieces C B x e (a + 2 ^ l) l
  pieces_apart e a l h =
      omega (arith, pieces_runs C B x e a (suc l), pieces_runs C B x e a l, pieces_runs C B x e (a + 2 ^ l) l, runs_apart C B x e a l h, runs_apart C B x (suc e) a l h)

  -- (a, e) is a run of x that lies in no larger one in (b, l).
  pub record Piece (a e b l : ℕ) : Type 0 where
    pub inside : In a e b l
    pub run : whole C B x a e ≡ true
    pub top : NoParent C B x a e b l

  pub nth_low : (e k a l : ℕ) → whole C B x a (suc l) ≡ false → k < pieces C B x e a l → nth C B x e k a (suc l) ≡ nth C B x e k a l
  unfolding nth
  nth_low e k a l f h = rw (f, lt-ltb k (pieces C B x e a l) h)

  pub nth_high : (e k a l : ℕ) → whole C B x a (suc l) ≡ false → pieces C B x e a l ≤ k → nth C B x e k a (suc l) ≡ nth C B x e (k - pieces C B x e a l) (a + 2 ^ l) l
  unfolding nth
  nth_high e k a l f h = rw (f, le-ltb k (pieces C B x e a l) h)

  pub nth_whole : (e k a l : ℕ) → whole C B x a l ≡ true → nth C B x e k a l ≡ a
  unfolding nth
  nth_whole e k a zero t = refl
  nth_whole e k a (suc l) t = rw t

  -- A run is the one piece of its block.
  piece_all : (b l : ℕ) → whole C B x b l ≡ true → Piece b l b l
  piece_all b l t = record { inside = here; run = t; top = λ q i j. let s = bounds j in absurd (omega arith) }

  nth_all : (e k b l : ℕ) → whole C B x b l ≡ true → k < pieces C B x e b l → Piece (nth C B x e k b l) e b l
  nth_all e k b l t h =
      elim (ℕ_discrete e l) [
        | yes r ↦ subst₂ (λ (a f : ℕ). Piece a f b l) (sym (nth_whole e k b l t)) (sym r) (piece_all b l t)
        | no r ↦ absurd (omega (arith, pieces_no C B x x e b l t (λ p q. r q)))
      ]

  pub pieces_none : (e b : ℕ) → whole C B x b 0 ≡ false → pieces C B x e b 0 ≡ 0
  pieces_none e b f =
      elim (ℕ_discrete e 0) [
        | yes r ↦ rw r (omega (arith, pieces_runs C B x 0 b 0, runs_no C B x b 0 f))
        | no r ↦ omega (arith, pieces_runs C B x e b 0, runs_above C B x e b 0 (omega arith))
      ]

  pub piece_low : {a e b l : ℕ} → whole C B x b (suc l) ≡ false → Piece a e b l → Piece a e b (suc l)
  piece_low {a} {e} {b} {l} f p =
      record { inside = low p.inside; run = p.run; top = λ q i j. ⊎_elim (λ r. subst₂ (λ (c m : ℕ). whole C B x c m ≡ false) (sym r.0) (sym r.1) f) (⊎_elim (p.top q i) (λ r. away q i r)) (in_cases j) }
    where
      away : (q : ℕ) → In a e q (suc e) → In q (suc e) (b + 2 ^ l) l → whole C B x q (suc e) ≡ false
      away q i j = let s = bounds i in let t = bounds j in let u = bounds p.inside in absurd (omega (arith, pow_pos e))

  pub piece_high : {a e b l : ℕ} → whole C B x b (suc l) ≡ false → Piece a e (b + 2 ^ l) l → Piece a e b (suc l)
  piece_high {a} {e} {b} {l} f p =
      record { inside = high p.inside; run = p.run; top = λ q i j. ⊎_elim (λ r. subst₂ (λ (c m : ℕ). whole C B x c m ≡ false) (sym r.0) (sym r.1) f) (⊎_elim (λ r. away q i r) (p.top q i)) (in_cases j) }
    where
      away : (q : ℕ) → In a e q (suc e) → In q (suc e) b l → whole C B x q (suc e) ≡ false
      away q i j = let s = bounds i in let t = bounds j in let u = bounds p.inside in absurd (omega (arith, pow_pos e))

  -- What `nth` finds is a piece.
  pub nth_piece : (e k b l : ℕ) → k < pieces C B x e b l → Piece (nth C B x e k b l) e b l
  nth_piece e k b zero h = by_bool (whole C B x b zero) (λ t. nth_all e k b zero t h) (λ f. absurd (omega (arith, pieces_none e b f)))
  nth_piece e k b (suc l) h = by_bool (whole C B x b (suc l)) (λ t. nth_all e k b (suc l) t h)
      (λ f. elim (dec_lt k (pieces C B x e b l)) [
        | yes r ↦ rw (nth_low e k b l f r) (piece_low f (nth_piece e k b l r))
        | no r ↦ rw (nth_high e k b l f (omega arith)) (piece_high f (nth_piece e (k - pieces C B x e b l) (b + 2 ^ l) l (omega (arith, pieces_apart e b l f))))
      ])

  -- Each leaf of a block that holds x lies in a piece of it.
  pub leaf_piece : (i b l : ℕ) → b ≤ i → i < b + 2 ^ l → i < C → get_or B i 0 ≡ x → (a : ℕ) × (e : ℕ) × Piece a e b l × (a ≤ i) × (i < a + 2 ^ e)
  leaf_piece i b zero p q c h =
      let s : i ≡ b = omega arith in
      let t = whole_intro C B x b 0 (λ j u v. let r : j ≡ i = omega arith in rw r (c, h)) in
      (b, 0, piece_all b 0 t, p, q)
  leaf_piece i b (suc l) p q c h = by_bool (whole C B x b (suc l)) (λ t. (b, suc l, piece_all b (suc l) t, p, q))
      (λ f. elim (dec_lt i (b + 2 ^ l)) [
        | yes r ↦ let w = leaf_piece i b l p r c h in (w.0, w.1, piece_low f w.2, w.3, w.4)
        | no r ↦ let w = leaf_piece i (b + 2 ^ l) l (omega arith) (omega (arith, two-pow-succ l)) c h in (w.0, w.1, piece_high f w.2, w.3, w.4)
      ])

  pieces_one : (e b l : ℕ) → whole C B x b l ≡ true → pieces C B x e b l ≤ 1
  pieces_one e b l t =
      elim (ℕ_discrete e l) [
        | yes r ↦ rw r (omega (arith, pieces_yes C B x b l t))
        | no r ↦ omega (arith, pieces_no C B x x e b l t (λ p q. r q))
      ]

  -- In the order of starts.
  pub nth_order : (e k j b l : ℕ) → k < j → j < pieces C B x e b l → nth C B x e k b l + 2 ^ e ≤ nth C B x e j b l
  nth_order e k j b zero h g =
      by_bool (whole C B x b zero) (λ t. absurd (omega (arith, pieces_one e b zero t))) (λ f. absurd (omega (arith, pieces_none e b f)))
  nth_order e k j b (suc l) h g = by_bool (whole C B x b (suc l)) (λ t. absurd (omega (arith, pieces_one e b (suc l) t)))
      (λ f. let s = pieces_apart e b l f in
      elim (dec_lt j (pieces C B x e b l)) [
        | yes r ↦ rw (nth_low e k b l f (omega arith), nth_low e j b l f r) (nth_order e k j b l h r)
        | no r ↦ elim (dec_lt k (pieces C B x e b l)) [
          | yes q ↦
              let u = bounds (nth_piece e k b l q).inside in
              let v = bounds (nth_piece e (j - pieces C B x e b l) (b + 2 ^ l) l (omega arith)).inside in
              rw (nth_low e k b l f q, nth_high e j b l f (omega arith)) (omega arith)
          | no q ↦ rw (nth_high e k b l f (omega arith), nth_high e j b l f (omega arith)) (nth_order e (k - pieces C B x e b l) (j - pieces C B x e b l) (b + 2 ^ l) l (omega arith) (omega arith))
        ]
      ])

  not_whole : {a e b l : ℕ} → In a e b l → e < l → NoParent C B x a e b l → whole C B x b l ≡ false
  not_whole {b = b} {l = l} i h t = never (whole C B x b l) (λ w. let p = parent i h in clash (whole_sub p.2 w) (t p.0 p.1 p.2))

  -- Every piece is found.
  pub piece_nth : {a e b l : ℕ} → Piece a e b l → (k : ℕ) × (k < pieces C B x e b l) × (nth C B x e k b l ≡ a)
  piece_nth {a} {e} p = go p.inside p.top
    where
      go : {b l : ℕ} → In a e b l → NoParent C B x a e b l → (k : ℕ) × (k < pieces C B x e b l) × (nth C B x e k b l ≡ a)
      go here t = (0, omega (arith, pieces_yes C B x a e p.run), nth_whole e 0 a e p.run)
      go (low {b} {l} i) t =
          let s = bounds i in
          let f = not_whole (low i) (omega arith) t in
          let w = go i (λ q j m. t q j (low m)) in
          (w.0, omega (arith, pieces_apart e b l f, w.1), nth_low e w.0 b l f w.1 ∙ w.2)
      go (high {b} {l} i) t =
          let s = bounds i in
          let f = not_whole (high i) (omega arith) t in
          let w = go i (λ q j m. t q j (high m)) in
          let n = pieces C B x e b l in
          (n + w.0, omega (arith, pieces_apart e b l f, w.1), nth_high e (n + w.0) b l f (omega arith) ∙ ap (λ (k : ℕ). nth C B x e k (b + 2 ^ l) l) (omega arith) ∙ w.2)

  -- So a piece is counted, and two are counted twice.
  pub piece_counted : {a e b l : ℕ} → Piece a e b l → 1 ≤ pieces C B x e b l
  piece_counted p = omega (arith, (piece_nth p).1)

  pub pieces_counted : {a c e b l : ℕ} → Piece a e b l → Piece c e b l → (a ≡ c → ⊥) → 2 ≤ pieces C B x e b l
  pieces_counted {e = e} {b = b} {l = l} p r n =
      let u = piece_nth p in
      let v = piece_nth r in
      elim (ℕ_discrete u.0 v.0) [
        | yes s ↦ absurd (n (sym u.2 ∙ ap (λ (k : ℕ). nth C B x e k b l) s ∙ v.2))
        | no s ↦ omega (arith, u.1, v.1)
      ]
