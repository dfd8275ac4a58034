-- A list keeps its length, and its numbers from 259 on are never changed. Assumes nothing.
use mathlib.Core.Path.{◌≡◌, refl, ◌∙◌}
use mathlib.Core.List.{List, [], ◌∷◌}
use Prim.Native.Nat.{ℕ, zero, suc, ◌+◌, ◌-◌, ◌*◌, ◌≤◌, ◌<◌}
use native.Mathlib.Omega.{arith}
use lib.ListN.{length, get_or, set, length-set}
use lib.Seq.{get_or-set_other}
use Rattle.general.proofs.Laws.{by_bool}
use Rattle.waiting.specs.declared.Order.{Order}
use Rattle.waiting.specs.declared.Outcome.{Outcome}
use Rattle.waiting.specs.Types.{Known}
use Rattle.waiting.specs.declared.Held.TheVariants as held
use Rattle.std.specs.Prelude.{Some, None}
use Rattle.waiting.specs.Layout.{last_ticket, answers_in, orders_in, places_in, too_short, full, put_at, joined, taken_list, answered_at, answered_from, settled, found, lowered, without_place, fetched_by, fetched_list, emptied}
use Rattle.waiting.proofs.Listing.{places_most, found_below}
use Rattle.waiting.proofs.Meant.{room, counted_length, counted_other, put_length, put_other, answers_length, answered_other, lowered_length}

answers_beyond : (L : List ℕ) (i : ℕ) (rs : List Outcome) (q : ℕ) → 3 + 4 * (i + length rs) ≤ q → get_or (answered_from L i rs) q 0 ≡ get_or L q 0
unfolding answered_from
answers_beyond L i [] q l = refl
answers_beyond L i (r ∷ rs) q l =
    answers_beyond (answered_at L i r) (suc i) rs q (omega arith) ∙ answered_other L i r q (λ e. omega arith) (λ e. omega arith)

lowered_beyond : (L : List ℕ) (j m q : ℕ) → j + m ≤ q → get_or (lowered L j m) q 0 ≡ get_or L q 0
unfolding lowered
lowered_beyond L j zero q l = refl
lowered_beyond L j (suc m) q l = lowered_beyond (set L j (get_or L (j + 4) 0)) (suc j) m q (omega arith)
    ∙ get_or-set_other L j q (get_or L (j + 4) 0) 0 (λ e. omega arith)

module _ (L : List ℕ) where
  joined_length : (o : Order) → length (joined L o) ≡ length L
  unfolding joined
  joined_length o = counted_length (set (put_at L (places_in L) (last_ticket L + 1) o) 0 (last_ticket L + 1)) (answers_in L) (orders_in L + 1)
      ∙ simp length-set (put_length L (places_in L) (last_ticket L + 1) o)

  pub take_length : (o : Order) → length (taken_list L o) ≡ length L
  take_length o = by_bool (full L) (λ f. rw f refl) (λ f. rw f (joined_length o))

  pub run_length : (rs : List Outcome) → length (settled L rs) ≡ length L
  unfolding settled
  run_length rs = counted_length (answered_from L (answers_in L) rs) (places_in L) 0 ∙ answers_length L (answers_in L) rs

  without_length : (i : ℕ) → length (without_place L i) ≡ length L
  unfolding without_place
  without_length i = counted_length (lowered L (3 + 4 * i) (4 * (places_in L - (i + 1)))) (answers_in L - 1) (orders_in L)
      ∙ lowered_length L (3 + 4 * i) (4 * (places_in L - (i + 1)))

  pub fetch_length : (t : ℕ) → length (fetched_list L t) ≡ length L
  fetch_length t = by_bool (too_short (length L)) (λ s. rw s refl) (λ s. rw s (go (found L t)))
    where
      go : (k : Known) → length (fetched_by L k) ≡ length L
      go None = refl
      go (Some held.Order) = refl
      go (Some (held.Answer i)) = without_length i

  pub empty_length : length (emptied L) ≡ length L
  unfolding emptied
  empty_length = counted_length L 0 0

  module _ (q : ℕ) (beyond : 259 ≤ q) where
    joined_beyond : (o : Order) → places_in L < 64 → get_or (joined L o) q 0 ≡ get_or L q 0
    unfolding joined
    joined_beyond o free =
        counted_other (set (put_at L (places_in L) (last_ticket L + 1) o) 0 (last_ticket L + 1)) (answers_in L) (orders_in L + 1) q (λ e. omega arith) (λ e. omega arith)
        ∙ get_or-set_other (put_at L (places_in L) (last_ticket L + 1) o) 0 q (last_ticket L + 1) 0 (λ e. omega arith)
        ∙ put_other L (places_in L) (last_ticket L + 1) o q (λ e. omega arith) (λ e. omega arith) (λ e. omega arith) (λ e. omega arith)

    pub take_beyond : (o : Order) → get_or (taken_list L o) q 0 ≡ get_or L q 0
    take_beyond o = by_bool (full L) (λ f. rw f refl) (λ f. rw f (joined_beyond o (room L f).0))

    pub run_beyond : (rs : List Outcome) → length rs ≡ orders_in L → get_or (settled L rs) q 0 ≡ get_or L q 0
    unfolding settled
    run_beyond rs e =
        let p = places_most L in
        counted_other (answered_from L (answers_in L) rs) (places_in L) 0 q (λ e. omega arith) (λ e. omega arith)
        ∙ answers_beyond L (answers_in L) rs q (omega arith)

    without_beyond : (i : ℕ) → i < answers_in L → get_or (without_place L i) q 0 ≡ get_or L q 0
    unfolding without_place
    without_beyond i h =
        let p = places_most L in
        counted_other (lowered L (3 + 4 * i) (4 * (places_in L - (i + 1)))) (answers_in L - 1) (orders_in L) q (λ e. omega arith) (λ e. omega arith)
        ∙ lowered_beyond L (3 + 4 * i) (4 * (places_in L - (i + 1))) q (omega arith)

    pub fetch_beyond : (t : ℕ) → get_or (fetched_list L t) q 0 ≡ get_or L q 0
    fetch_beyond t = by_bool (too_short (length L)) (λ s. rw s refl) (λ s. rw s (go (found L t) refl))
      where
        go : (k : Known) → found L t ≡ k → get_or (fetched_by L k) q 0 ≡ get_or L q 0
        go None e = refl
        go (Some held.Order) e = refl
        go (Some (held.Answer i)) e = without_beyond i (found_below L t i e).1

    pub empty_beyond : get_or (emptied L) q 0 ≡ get_or L q 0
    unfolding emptied
    empty_beyond = counted_other L 0 0 q (λ e. omega arith) (λ e. omega arith)
