-- Demand 3 with over-allocated streams for a single drive, whose record stands in both places of a call: what it sees is what one of two drives sees that take
-- their slots in step (`single_in_step`, `single_round`), so every law of Laws holds of it. The sentences of the request are said once more, for it alone.
-- Assumes nothing.
use mathlib.Core.Path.{◌≡◌, refl, sym, ap, subst, ◌∙◌}
use mathlib.Core.Bool.{true}
use mathlib.Core.List.{List, ◌∷◌}
use Prim.Native.Nat.{ℕ, zero, ◌+◌, ◌-◌, ◌*◌, ◌/◌, ◌≤◌, ◌<◌}
use lib.ListN.{length, get_or}
use Rattle.sequences.specs.Scanning.{occurrences}
use Rattle.calls.specs.Answers.{Answer}
use Rattle.pieces.specs.Board.{weight}
use Rattle.tables.specs.Sharing.{held_for, lowest}
use Rattle.tables.proofs.Laws.{Zero}
use Rattle.pieces.specs.Streams.{Stream, held_of}
use Rattle.demands.specs.Rounds.{in_a_row, Near}
use Rattle.waiting.specs.declared.Order.{Order}
use Rattle.shares.specs.States.{fitting}
use Rattle.shared_demands.specs.Turns.{Pair, This, Deed, Changes, Slots, answers_own, Turn, Own, Other, leaves_all, names_served, leaves_given, FullRound}
use Rattle.shared_demands.specs.Holding.{held_through, held_then, asked_through, asked_then, streams_on, Ready, piece_bound}
use Rattle.shared_demands.specs.Singles.{One, twice, leaves_ones, names_one, given_one, FullOne, in_step, turns_for}
use Rattle.shared_demands.proofs.Checking.{share_lent}
use Rattle.shared_demands.proofs.Single.{Fit, one_clear, step_clear, change_says, in_step_lem, names_step, fit_always}
use Rattle.shared_demands.proofs.Laws.{shared_undamaged, shared_held, shared_deficit, shared_zero, shared_leaves, shared_plain_serves, shared_holds, shared_serves, shared_first, shared_piece_fair}

module _ (s : One) (ready : Ready (twice s)) (deeds : List Deed) where
  -- where the calls lead
  abbrev pub one' : One
  one' = leaves_ones s deeds

  fit : Fit s
  fit = share_lent s.drive s.drive s.state (length s.list) ready.clear

  -- Two drives in step with it may begin where it does,
  pub single_start : Ready (in_step s)
  single_start = record { clear = step_clear s fit; none = ready.none }

  -- and go where it goes;
  pub single_in_step : leaves_all (in_step s) (turns_for deeds) ≡ in_step (leaves_ones s deeds)
  single_in_step = in_step_lem s fit deeds

  -- a change is answered what the own one of them is answered,
  pub single_says : (o : Order) → answers_own (Changes o) (in_step one') ≡ answers_own (Changes o) (twice one')
  single_says = change_says one' (fit_always s fit deeds)

  -- what is held, and the r that each name has
  abbrev pub held' : List Stream
  held' = held_through (streams_on (in_step s)) (in_step s) (turns_for deeds)

  abbrev pub asked' : ℕ → ℕ
  asked' = asked_through (λ x. 0) (in_step s) (turns_for deeds)

  -- Every table fits the board; no slot is refused, and no change is answered 5.
  pub single_fits : fitting one'.drive.capacity one'.state ≡ true
  single_fits = (fit_always s fit deeds).fit

  pub single_slot : (answers_own Slots (twice one')).number ≡ 0
  single_slot = rw (one_clear one' (fit_always s fit deeds)) refl

  pub single_undamaged : (o : Order) → (answers_own (Changes o) (twice one')).number ≡ 5 → ⊥
  single_undamaged o h =
      subst (λ (u : Pair). (answers_own (Changes o) u).number ≡ 5 → ⊥) single_in_step (shared_undamaged (in_step s) single_start (turns_for deeds) This o)
      (ap (λ (a : Answer). a.number) (single_says o) ∙ h)

  -- What is held of a name is the number of its leaves.
  pub single_held : (x : ℕ) → (x ≡ 0 → ⊥) → held_of x held' ≡ weight one'.drive.capacity one'.state.board x
  single_held = subst (λ (u : Pair). (x : ℕ) → (x ≡ 0 → ⊥) → held_of x held' ≡ weight u.own.capacity u.state.board x) single_in_step
      (shared_held (in_step s) single_start (turns_for deeds) This)

  -- A deficit is above -R and at most 0, and at the start of a round every one is 0.
  pub single_deficit : (x r : ℕ) → (x ≡ 0 → ⊥) → asked' x ≡ r → 0 < r → get_or one'.state.owed (lowest one'.drive.capacity one'.state.board x) 0 < held_for r
  single_deficit x r named e some =
      subst (λ (u : Pair). get_or u.state.owed (lowest u.own.capacity u.state.board x) 0 < held_for r) single_in_step
      (shared_deficit (in_step s) single_start (turns_for deeds) This x r named e some)

  pub single_zero : one'.drive.position ≡ 1 → Zero one'.drive.capacity one'.state.owed
  single_zero =
      subst (λ (u : Pair). u.own.position ≡ 1 → Zero u.own.capacity u.state.owed) single_in_step (shared_zero (in_step s) single_start (turns_for deeds) This)

  -- ---- a full round

  module _ (rest : List Deed) (full : FullOne one' rest) where
    abbrev turns : List Turn
    turns = Other Slots ∷ turns_for rest

    abbrev together : Pair
    together = leaves_all (in_step s) (turns_for deeds)

    -- It is one of the two in step, which is served and given the same.
    pub single_names : (names_served (in_step one') (Own Slots ∷ Other Slots ∷ turns_for rest) ≡ names_one one' (Slots ∷ rest))
        × (leaves_given (in_step one') (Own Slots ∷ Other Slots ∷ turns_for rest) ≡ given_one one' (Slots ∷ rest))
    unfolding turns_for
    single_names = names_step one' (fit_always s fit deeds) (Slots ∷ rest)

    pub single_round : FullRound (leaves_all (in_step s) (turns_for deeds)) (Other Slots ∷ turns_for rest)
    single_round = subst (λ (u : Pair). FullRound u turns) (sym single_in_step) (record { first = full.first; slots = ap length single_names.0 ∙ full.slots })

    served : names_served together (Own Slots ∷ turns) ≡ names_one one' (Slots ∷ rest)
    served = ap (λ (u : Pair). names_served u (Own Slots ∷ turns)) single_in_step ∙ single_names.0

    given : leaves_given together (Own Slots ∷ turns) ≡ given_one one' (Slots ∷ rest)
    given = ap (λ (u : Pair). leaves_given u (Own Slots ∷ turns)) single_in_step ∙ single_names.1

    module _ (x : ℕ) (named : x ≡ 0 → ⊥) where
      -- It gives a stream as many leaves as it holds once the list has run, if it runs;
      pub single_leaves : occurrences x (given_one one' (Slots ∷ rest)) ≡ held_of x (held_then held' (in_step one'))
      single_leaves =
          ap (occurrences x) (sym given) ∙ shared_leaves (in_step s) single_start (turns_for deeds) This turns single_round x named
          ∙ ap (λ (u : Pair). held_of x (held_then held' u)) single_in_step

      -- one that is not over-allocated is served at each of them,
      pub single_plain_serves : asked_then asked' (in_step one') x ≡ 0 → zero < held_of x (held_then held' (in_step one')) → occurrences x (names_one one' (Slots ∷ rest)) ≡ held_of x (held_then held' (in_step one'))
      single_plain_serves z h = ap (occurrences x) (sym served)
          ∙ shared_plain_serves (in_step s) single_start (turns_for deeds) This turns single_round x named
          (ap (λ (u : Pair). asked_then asked' u x) single_in_step ∙ z) (subst (λ (u : Pair). zero < held_of x (held_then held' u)) (sym single_in_step) h)
          ∙ ap (λ (u : Pair). held_of x (held_then held' u)) single_in_step

      module _ (r : ℕ) (e : asked_then asked' (in_step one') x ≡ r) (some : 0 < r) where
        is : asked_then asked' together x ≡ r
        is = ap (λ (u : Pair). asked_then asked' u x) single_in_step ∙ e

        -- one that is over-allocated, with r, holds R,
        pub single_holds : held_of x (held_then held' (in_step one')) ≡ held_for r
        single_holds =
            ap (λ (u : Pair). held_of x (held_then held' u)) (sym single_in_step) ∙ shared_holds (in_step s) single_start (turns_for deeds) This turns single_round x named r is some

        -- and is served r times,
        pub single_serves : occurrences x (names_one one' (Slots ∷ rest)) ≡ r
        single_serves = ap (occurrences x) (sym served) ∙ shared_serves (in_step s) single_start (turns_for deeds) This turns single_round x named r is some

        -- in the first n slots as often as its leaves among them times r / R, rounded up.
        pub single_first : (n : ℕ)
            → occurrences x (in_a_row 0 n (names_one one' (Slots ∷ rest))) ≡ (occurrences x (in_a_row 0 n (given_one one' (Slots ∷ rest))) * r + (held_for r - 1)) / held_for r
        single_first n = rw (served, given) at (shared_first (in_step s) single_start (turns_for deeds) This turns single_round x named r is some n)

        -- In any t successive slots it is given k leaves, and C k and R t differ by less than C + R h.
        pub single_piece_fair : (i t : ℕ) → i + t ≤ one'.drive.capacity
            → Near (one'.drive.capacity * occurrences x (in_a_row i t (given_one one' (Slots ∷ rest)))) (held_for r * t) (piece_bound one'.drive.capacity (held_for r))
        single_piece_fair i t within =
            let size : together.own.capacity ≡ one'.drive.capacity = ap (λ (u : Pair). u.own.capacity) single_in_step in
            let f = shared_piece_fair (in_step s) single_start (turns_for deeds) This turns single_round x named r is some i t (subst (λ (c : ℕ). i + t ≤ c) (sym size) within) in
            subst (λ (c : ℕ). Near (c * occurrences x (in_a_row i t (given_one one' (Slots ∷ rest)))) (held_for r * t) (piece_bound c (held_for r))) size
            (subst (λ (l : List ℕ). Near (together.own.capacity * occurrences x (in_a_row i t l)) (held_for r * t) (piece_bound together.own.capacity (held_for r))) given f)
