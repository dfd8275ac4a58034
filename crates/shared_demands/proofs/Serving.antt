-- What a drive serves in a full round: every stream that is over-allocated its r, every other its weight, and in the first of its leaves their share, rounded up.
-- Assumes nothing.
use mathlib.Core.Path.{◌≡◌, refl, sym, ap, subst, ◌∙◌}
use mathlib.Core.Bool.{true}
use mathlib.Core.List.{List, [], ◌∷◌, map}
use Prim.Native.Nat.{ℕ, zero, suc, ◌+◌, ◌-◌, ◌*◌, ◌/◌, ◌≤◌, ◌<◌}
use native.Mathlib.Omega.{arith}
use native.Mathlib.Decide.{ℕ_discrete}
use lib.Count.{ones}
use lib.Dec.{eqb}
use lib.ListN.{get_or, take}
use borrow.Author.Tests.{eq-eqb, ne_eqb}
use Rattle.sequences.specs.Serving.{count_list, leaves_from}
use Rattle.sequences.proofs.Laws.{count_map}
use Rattle.sequences.specs.Scanning.{occurrences}
use Rattle.pieces.specs.Board.{weight, piece_count}
use Rattle.calls.specs.Results.{slot_names}
use Rattle.tables.specs.Sharing.{held_for, lowest, rates_fit}
use Rattle.tables.specs.Turns.{owed_at, name_at, names_along, served_weight}
use Rattle.tables.proofs.Laws.{lowest_name, lowest_held, rated_at, zero_elim, round_serves_lem, serves_along, one_piece, held_some}
use Rattle.pieces.specs.Streams.{Stream, held_of}
use Rattle.demands.specs.Rounds.{in_a_row, Near, bound}
use Rattle.shares.specs.States.{BoardTables}
use Rattle.amended.proofs.Laws as amended
use Rattle.shared_demands.specs.Turns.{Pair, exchanged, way_at, Deed, Changes, Slots, Fetches, carries_out, leaves_own, Turn, Own, Other, leaves, leaves_all, due, plain, names_served, leaves_given, FullRound}
use Rattle.shared_demands.specs.Holding.{held_then, asked_all, asked_own, asked_next, asked_through, asked_then, streams_on, Ready, piece_bound}
use Rattle.shared_demands.proofs.Turning.{ran_state', ran_plain, due_ran, way_state}
use Rattle.shared_demands.proofs.Fitting.{owed_fit_lem}
use Rattle.shared_demands.proofs.Asking.{Rates, rate_held, all_asked}
use Rattle.shared_demands.proofs.Standing.{Standing, standing_turned, standing_next, ready_standing, some, few, first_clear, ran_fine}
use Rattle.shared_demands.proofs.Rounds.{ran_sound, round_given, plain_round, ran_zero, along_round, round_order}

-- ---- the table has what was asked, whatever calls are made

pub record Asked (g : ℕ → ℕ) (s : Pair) : Type 0 where
  pub held : List Stream
  pub stands : Standing held s
  pub rates : Rates s.own.capacity s.state.board s.state.rates g

pub asked_turned : (g : ℕ → ℕ) (s : Pair) → Asked g s → Asked g (exchanged s)
asked_turned g s is = record {
  held = is.held;
  stands = standing_turned is.held s is.stands;
  rates = subst (λ (C : ℕ). Rates C s.state.board s.state.rates g) is.stands.same is.rates;
}

module _ (g : ℕ → ℕ) (s : Pair) (is : Asked g s) where
  pub then_rates : Rates s.own.capacity (ran_state' s).board (ran_state' s).rates (asked_then g s)
  then_rates = subst (λ (t : BoardTables). Rates s.own.capacity t.board t.rates (asked_then g s)) (sym (due_ran s))
      (all_asked s.own s.state (due s) g is.stands.fine.tables is.rates)

  own_rates : (a : Deed) → Rates (leaves_own a s).own.capacity (leaves_own a s).state.board (leaves_own a s).state.rates (asked_own g a s)
  unfolding asked_all
  own_rates (Changes o) =
      subst (λ (t : BoardTables). Rates s.own.capacity t.board t.rates (asked_own g (Changes o) s)) (sym (way_state s.own s.state o (way_at o s)))
      (all_asked s.own s.state (carries_out (Changes o) s) g is.stands.fine.tables is.rates)
  own_rates Slots = rw (first_clear is.held s is.stands) then_rates
  own_rates (Fetches t) = is.rates

pub asked_next_lem : (g : ℕ → ℕ) (t : Turn) (s : Pair) → Asked g s → Asked (asked_next g t s) (leaves t s)
asked_next_lem g (Own a) s is = record { held = _; stands = standing_next is.held (Own a) s is.stands; rates = own_rates g s is a }
asked_next_lem g (Other a) s is =
    let o = asked_turned g s is in
    asked_turned (asked_own g a (exchanged s)) (leaves_own a (exchanged s))
    (record { held = _; stands = standing_next o.held (Own a) (exchanged s) o.stands; rates = own_rates g (exchanged s) o a })

pub ready_asked : (s : Pair) → Ready s → Asked (λ x. 0) s
ready_asked s is =
    let C = s.own.capacity in
    let B = s.state.board in
    let T = s.state.rates in
    record {
      held = streams_on s;
      stands = ready_standing s is;
      rates = λ x named. elim (ℕ_discrete (weight C B x) 0) [
        | yes z ↦ rw (eq-eqb (weight C B x) 0 z) refl
        | no n ↦ sym (rate_held C B T x (omega arith) ∙ zero_elim T C (lowest C B x) is.none (lowest_held B x C (omega arith)))
      ];
    }

pub asked : (s : Pair) → Ready s → (turns : List Turn) → Asked (asked_through (λ x. 0) s turns) (leaves_all s turns)
asked s is turns = amended.ever leaves asked_next Asked asked_next_lem (λ x. 0) s (ready_asked s is) turns

-- ---- an over-allocated stream

-- x asked for r, stands at its lowest leaf with it, and holds R there in one piece.
pub record Over (C : ℕ) (B T : List ℕ) (x r : ℕ) : Type 0 where
  pub below : lowest C B x < C
  pub name : get_or B (lowest C B x) 0 ≡ x
  pub rate : get_or T (lowest C B x) 0 ≡ r
  pub holds : weight C B x ≡ held_for r

pub over_at : (C : ℕ) (B T : List ℕ) (g : ℕ → ℕ) → Rates C B T g → rates_fit C B T ≡ true → (x r : ℕ) → (x ≡ 0 → ⊥) → g x ≡ r → 0 < r → Over C B T x r
over_at C B T g rates fit x r named e some =
    let z = sym (rates x named) ∙ e in
    elim (ℕ_discrete (weight C B x) 0) [
      | yes n ↦ absurd (let q = rw (eq-eqb (weight C B x) 0 n) at z in omega arith)
      | no n ↦
          let low = lowest_held B x C (omega arith) in
          let rate : get_or T (lowest C B x) 0 ≡ r = sym (rate_held C B T x (omega arith)) ∙ z in
          let name = lowest_name B x C low in
          let q = rated_at C B T fit (lowest C B x) low (λ v. omega arith) in
          record { below = low; name = name; rate = rate; holds = ap (weight C B) (sym name) ∙ q.holds ∙ ap held_for rate }
    ]

take_along : (C : ℕ) (B T E : List ℕ) (n : ℕ) (L : List ℕ) → take n (names_along C B T E L) ≡ names_along C B T E (take n L)
unfolding names_along
take_along C B T E zero L = refl
take_along C B T E (suc n) [] = refl
take_along C B T E (suc n) (a ∷ L) = ap (λ (l : List ℕ). name_at C B T E a ∷ l) (take_along C B T (owed_at C B T E a) n L)

take_map : (f : ℕ → ℕ) (n : ℕ) (L : List ℕ) → take n (map f L) ≡ map f (take n L)
take_map f zero L = refl
take_map f (suc n) [] = refl
take_map f (suc n) (a ∷ L) = ap (λ (l : List ℕ). f a ∷ l) (take_map f n L)

-- ---- a full round

module _ (hs : List Stream) (s : Pair) (is : Standing hs s) (rest : List Turn) (full : FullRound s rest) where
  abbrev C : ℕ
  C = s.own.capacity

  abbrev B : List ℕ
  B = (ran_state' s).board

  abbrev T : List ℕ
  T = (ran_state' s).rates

  abbrev E : List ℕ
  E = (ran_state' s).owed

  -- what it gives
  pub gives : amended.Serves s.own.capacity (ran_state' s).board (held_then hs s) (leaves_given s (Own Slots ∷ rest))
  gives =
      amended.round_serves_lem (ran_plain s) (held_then hs s) (ran_sound hs s is) (plain (leaves (Own Slots) s) rest) (plain_round hs s is rest full)
      (leaves_given s (Own Slots ∷ rest)) (round_given hs s is rest full)

  fit : rates_fit C B T ≡ true
  fit = (owed_fit_lem C (ran_state' s) (ran_fine hs s is).tables).0

  module _ (g : ℕ → ℕ) (rates : Rates C B T g) (x : ℕ) (named : x ≡ 0 → ⊥) where
    -- a stream that is not over-allocated
    pub serves_plain : g x ≡ 0 → zero < held_of x (held_then hs s) → occurrences x (names_served s (Own Slots ∷ rest)) ≡ held_of x (held_then hs s)
    unfolding served_weight
    serves_plain z held =
        let w = (ran_sound hs s is).names x named in
        let on : zero < weight C B x = omega arith in
        let rate : get_or T (lowest C B x) 0 ≡ 0 = sym (rate_held C B T x on) ∙ sym (rates x named) ∙ z in
        ap (occurrences x) (round_order hs s is full.first rest full)
        ∙ round_serves_lem C B T (few hs s is) (some hs s is) fit x named on
        ∙ rw (eq-eqb (get_or T (lowest C B x) 0) 0 rate) w

    module _ (r : ℕ) (e : g x ≡ r) (positive : 0 < r) where
      over : Over C B T x r
      over = over_at C B T g rates fit x r named e positive

      -- it holds R, in one piece
      pub over_holds : held_of x (held_then hs s) ≡ held_for r
      over_holds = sym ((ran_sound hs s is).names x named) ∙ over.holds

      over_some : get_or T (lowest C B x) 0 ≡ 0 → ⊥
      over_some z = let q = over.rate in omega arith

      one_ones : ones (held_for r) ≡ 1
      one_ones =
          let p = one_piece C B T (lowest C B x) (few hs s is) (ran_sound hs s is).fine fit over.below over_some in
          sym (ap ones over_holds) ∙ sym (amended.held_pieces (ran_plain s) (held_then hs s) (ran_sound hs s is) x named) ∙ ap (piece_count C B) (sym over.name) ∙ p

      -- and is served r times,
      pub serves_over : occurrences x (names_served s (Own Slots ∷ rest)) ≡ r
      unfolding served_weight
      serves_over =
          let q = over.rate in
          let on : zero < weight C B x = let h = over.holds in omega (arith, held_some r positive) in
          ap (occurrences x) (round_order hs s is full.first rest full)
          ∙ round_serves_lem C B T (few hs s is) (some hs s is) fit x named on
          ∙ rw (ne_eqb (get_or T (lowest C B x) 0) 0 over_some) q

      -- in the first n slots as often as its leaves among them times r / R, rounded up.
      pub serves_first : (n : ℕ)
          → occurrences x (in_a_row 0 n (names_served s (Own Slots ∷ rest))) ≡ (occurrences x (in_a_row 0 n (leaves_given s (Own Slots ∷ rest))) * r + (held_for r - 1)) / held_for r
      unfolding slot_names
      serves_first n =
          let L = leaves_from C 1 C in
          let i = lowest C B x in
          let served : in_a_row 0 n (names_served s (Own Slots ∷ rest)) ≡ names_along C B T E (take n L) =
          ap (take n) (along_round hs s is full.first rest full) ∙ take_along C B T E n L in
          let given : occurrences x (in_a_row 0 n (leaves_given s (Own Slots ∷ rest))) ≡ count_list (λ a. eqb (get_or B a 0) x) (take n L) =
          ap (λ (l : List ℕ). occurrences x (take n l)) gives.order ∙ ap (occurrences x) (take_map (λ (a : ℕ). get_or B a 0) n L) ∙ count_map (λ y. eqb y x) (λ (a : ℕ). get_or B a 0) (take n L) in
          let one = serves_along C B T fit i over.below over_some E (ran_fine hs s is).tables.owed (ran_zero hs s is full.first i over.below) (take n L) in
          ap (occurrences x) served ∙ rw (over.name, over.rate) at one ∙ rw given refl

      -- In any t slots in a row its leaves are near their share, as those of one piece of R.
      pub given_fair : (i t : ℕ) → i + t ≤ s.own.capacity
          → Near (s.own.capacity * occurrences x (in_a_row i t (leaves_given s (Own Slots ∷ rest)))) (held_for r * t) (piece_bound s.own.capacity (held_for r))
      given_fair i t within =
          let f = gives.fair x (held_for r) i t over_holds (held_some r positive) within in
          let b : bound C (held_for r) ≡ piece_bound C (held_for r) = rw one_ones (omega arith) in
          rw b at f
