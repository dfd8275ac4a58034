-- What holds of every record and board that has on it what is held, however calls led there: what is held stands on the board, an add that is carried out goes by
-- what is held then, and a full round serves what is held. For every set of calls. Assumes nothing.
use mathlib.Core.Path.{◌≡◌, sym, ap, ◌∙◌}
use mathlib.Core.Bool.{cond}
use mathlib.Core.List.{List, [], ◌∷◌}
use Prim.Native.Nat.{ℕ, zero, ◌+◌, ◌-◌, ◌*◌, ◌≤◌, ◌<◌}
use native.Mathlib.Omega.{arith}
use lib.Count.{ones}
use lib.Dec.{eqb, ltb}
use Rattle.sequences.specs.Scanning.{occurrences}
use Rattle.general.proofs.Laws.{by_bool}
use Rattle.pieces.specs.Board.{weight, piece_count}
use Rattle.pieces.proofs.Laws.{pieces_ones}
use Rattle.std.specs.Prelude.{Ok}
use Rattle.calls.specs.Refusals.{first_of, asked_add, admit_may}
use Rattle.calls.specs.Results.{slot_names, round_names}
use Rattle.demands.specs.Histories.{Act, Add, Remove, State, after, log}
use Rattle.pieces.specs.Streams.{Stream, held_of, total}
use Rattle.demands.specs.Holdings.{held_from}
use Rattle.demands.specs.Rounds.{names_from, FullRound, in_a_row, Near, bound}
use Rattle.demands.proofs.Laws.{Sound, reached, moves, never_damaged, room, room_told, others_pass, full_names, served_round_lem, served_fair}
use Rattle.waiting.specs.declared.Order.{Order}
use Rattle.orders.specs.Results.{add_order, carried_answer}
use Rattle.amended.specs.Carried.{acts_of, in_turn}

-- What a full round serves on C leaves of the board B, where hs is held.
pub record Serves (C : ℕ) (B : List ℕ) (hs : List Stream) (served : List ℕ) : Type 0 where
  pub order : served ≡ round_names C B
  pub often : (x : ℕ) → (x ≡ 0 → ⊥) → occurrences x served ≡ held_of x hs
  pub fair : (x w i t : ℕ) → held_of x hs ≡ w → zero < w → i + t ≤ C → Near (C * occurrences x (in_a_row i t served)) (w * t) (bound C w)

module _ (u : State) (hs : List Stream) (is : Sound u hs) where
  abbrev C : ℕ
  C = u.drive.capacity

  pub held_leaves : (x : ℕ) → (x ≡ 0 → ⊥) → held_of x hs ≡ weight u.drive.capacity u.board x
  held_leaves x named = sym (is.names x named)

  pub held_pieces : (x : ℕ) → (x ≡ 0 → ⊥) → piece_count u.drive.capacity u.board x ≡ ones (held_of x hs)
  held_pieces x named = pieces_ones C u.board x (let f = is.valid.at.few in omega arith) is.fine ∙ ap ones (sym (held_leaves x named))

  pub held_within : total hs ≤ u.drive.capacity
  held_within = let i = is.idle in omega arith

  -- ---- an order when it is carried out, those ahead of it being carried out before

  module _ (ahead : List Order) where
    abbrev turn : State
    turn = after u (acts_of ahead)

    abbrev then' : List Stream
    then' = held_from hs (log u (acts_of ahead))

    turn_sound : Sound turn then'
    turn_sound = reached u hs is (acts_of ahead)

    pub turn_others : (x w : ℕ) → (after u (acts_of ahead)).drive.position ≡ 1 → (x ≡ 0 → ⊥) → (w ≡ 0 → ⊥) → held_of x (held_from hs (log u (acts_of ahead))) ≡ 0
        → first_of admit_may (asked_add (after u (acts_of ahead)).drive (after u (acts_of ahead)).board x w) ≡ Ok tt
    turn_others = others_pass turn then' turn_sound

    pub turn_room : (x w : ℕ) → first_of admit_may (asked_add (after u (acts_of ahead)).drive (after u (acts_of ahead)).board x w) ≡ Ok tt
        → ((in_turn u ahead (add_order x w)).number ≡ cond (ltb (u.drive.capacity - total (held_from hs (log u (acts_of ahead)))) w) 10 0)
        × ((in_turn u ahead (add_order x w)).number ≡ 10 → (in_turn u ahead (add_order x w)).values ≡ (u.drive.capacity - total (held_from hs (log u (acts_of ahead)))) ∷ [])
    unfolding carried_answer
    turn_room x w e =
        let c = (moves u (acts_of ahead)).0 in (
          room turn then' turn_sound x w e ∙ ap (λ (n : ℕ). cond (ltb (n - total then') w) 10 0) c,
          λ full. room_told turn then' turn_sound x w full ∙ ap (λ (n : ℕ). (n - total then') ∷ []) c,
        )

    -- no order is answered DAMAGED
    pub turn_carried : (o : Order) → (in_turn u ahead o).number ≡ 5 → ⊥
    unfolding carried_answer
    turn_carried o h = by_bool (eqb o.kind 1)
        (λ t. never_damaged turn then' turn_sound (Add o.name o.weight) (rw t at h))
        (λ f. by_bool (eqb o.kind 2)
        (λ t. never_damaged turn then' turn_sound (Remove o.name) (rw (f, t) at h))
        (λ n. let z = rw (f, n) at h in omega arith))

  -- ---- names that are those of a full plain round from here

  pub round_serves_lem : (later : List Act) → FullRound u later → (served : List ℕ) → served ≡ names_from u later → Serves u.drive.capacity u.board hs served
  unfolding slot_names
  round_serves_lem later full served e = record {
    order = e ∙ full_names u later is.valid full;
    often = λ x named. ap (occurrences x) e ∙ served_round_lem u hs is later full x named;
    fair = λ x w i t h some within. rw e (served_fair u hs is later full x w i t h some within);
  }
