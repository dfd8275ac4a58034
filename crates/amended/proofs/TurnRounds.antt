-- Full rounds of one of two drives: C slots of it make one, and it serves what a plain round serves on the board that the list has left, if it has run.
-- Assumes nothing.
use mathlib.Core.Path.{◌≡◌, refl, sym, ap, subst, ◌∙◌}
use mathlib.Core.List.{List, [], ◌∷◌, ◌++◌}
use mathlib.Core.Bool.{true, false}
use Prim.Native.Nat.{ℕ, suc, ◌-◌}
use native.Mathlib.Omega.{arith}
use lib.ListN.{length, replicate}
use borrow.Author.Tests.{le-ltb}
use Rattle.calls.specs.Types.{Check}
use Rattle.std.specs.Prelude.{Ok}
use Rattle.calls.specs.Records.{round_after}
use Rattle.calls.specs.Results.{if_clear}
use Rattle.demands.specs.Histories.{Act, Slot, State, after, log}
use Rattle.pieces.specs.Streams.{Stream}
use Rattle.demands.specs.Holdings.{held_from}
use Rattle.demands.specs.Rounds.{names_from}
use Rattle.demands.specs.Rounds as rounds
use Rattle.demands.proofs.Laws.{Sound, reached, slot_clear, fresh_passes, full_over}
use Rattle.waiting.specs.declared.Order.{Order}
use Rattle.waiting.specs.Layout.{waiting}
use Rattle.waiting.proofs.Laws.{none_waits}
use Rattle.orders.specs.Results.{doing, saying, ran_list}
use Rattle.drives.specs.Checks.{both_start, start_check, pair_fresh_check}
use Rattle.drives.specs.Results.{list_then}
use Rattle.drives.proofs.Laws.{clear_pair, start_both, start_swap}
use Rattle.amended.specs.Histories.{Each}
use Rattle.amended.specs.Carried.{acts_of}
use Rattle.amended.specs.Deeds.{Slots}
use Rattle.amended.specs.Turns.{Pair, exchanged, shown, first_checks, look_checks, fresh_checks, answers_own, Turn, Own, leaves, leaves_all, Unbroken, due, stands_for, plain, names_served, FullRound, name_served, restarts}
use Rattle.amended.specs.Sharing.{held_next, held_then}
use Rattle.amended.proofs.Carrying.{acts_names}
use Rattle.amended.proofs.Projecting as projecting
use Rattle.amended.proofs.Turning.{ran_state, due_state, projected_one, names_one}
use Rattle.amended.proofs.Sharing.{Standing, standing_next, carries_held}

due_turned : (s : Pair) → due (exchanged s) ≡ due s
unfolding due
due_turned s = rw (start_swap s.other s.own) refl

module _ (hs : List Stream) (s : Pair) (is : Standing hs s) where
  -- the first checks find nothing
  pub look_clear : look_checks s ≡ Ok tt
  look_clear = clear_pair s.own s.other s.board (slot_clear (shown s) is.own.valid) (slot_clear (shown (exchanged s)) is.other.valid) is.same

  pub first_clear : first_checks s ≡ Ok tt
  first_clear = rw (le-ltb (length s.list) 259 is.long) look_clear

  -- nor do those of the fresh layout, where both drives are at the start of a round
  pub fresh_clear : both_start s.own s.other ≡ true → fresh_checks s ≡ Ok tt
  unfolding pair_fresh_check start_check
  fresh_clear t = rw (look_clear, t) (fresh_passes (shown s) hs is.own (start_both s.own s.other t).0)

  pub slot_served : (answers_own Slots s).number ≡ 0
  slot_served = rw first_clear refl

  -- what is held once the list has run stands on the board that it leaves,
  pub ran_sound : Sound (ran_state s) (held_then hs s)
  ran_sound = subst (λ (u : State). Sound u (held_then hs s)) (due_state s) (reached (shown s) hs is.own (acts_of (due s)))

  -- and is the same whichever drive's slot runs it
  pub then_turned : held_then hs (exchanged s) ≡ held_then hs s
  then_turned = ap (λ (os : List Order). held_from hs (log (shown (exchanged s)) (acts_of os))) (due_turned s)
      ∙ sym (rw first_clear at (carries_held hs Slots s))

  -- where both drives are at the start of a round a slot leaves no order waiting
  pub slot_runs : both_start s.own s.other ≡ true → waiting (leaves (Own Slots) s).list ≡ []
  unfolding list_then ran_list
  slot_runs e = rw (first_clear, e) (none_waits (doing s.own) (saying s.own) s.board s.list is.long)

-- ---- C slots

pub slots_whole : (n : ℕ) (s : Pair) → Unbroken s (replicate n (Own Slots))
slots_whole = projecting.row_whole leaves (λ t u. restarts t u ≡ false) (Own Slots) (λ u. refl)

pub slots_many : (n : ℕ) (hs : List Stream) (s : Pair) → Standing hs s → length (names_served s (replicate n (Own Slots))) ≡ n
slots_many = projecting.row_many leaves held_next Standing standing_next name_served (Own Slots) (λ gs u st. rw (slot_served gs u st) refl)

pub slots_full : (hs : List Stream) (s : Pair) → Standing hs s → s.own.position ≡ 1 → FullRound s (replicate (s.own.capacity - 1) (Own Slots))
slots_full hs s is first =
    let C = s.own.capacity in
    let n : suc (C - 1) ≡ C = let z = is.own.valid.at.some in omega arith in
    record { first = first; whole = slots_whole (C - 1) (leaves (Own Slots) s); slots = slots_many (suc (C - 1)) hs s is ∙ n }

-- ---- a full round is a plain full round from where the list has run

pub clear_stands : (s : Pair) (k : Check) → k ≡ Ok tt → acts_of (if_clear k (due s) []) ++ if_clear k (Slot ∷ []) [] ≡ acts_of (due s) ++ (Slot ∷ [])
clear_stands s k e = rw e refl

module _ (hs : List Stream) (s : Pair) (is : Standing hs s) (rest : List Turn) (full : FullRound s rest) where
  -- the plain calls after the first slot
  abbrev later : List Act
  later = plain (leaves (Own Slots) s) rest

  pub round_names_lem : names_served s (Own Slots ∷ rest) ≡ names_from (ran_state s) later
  unfolding Each
  round_names_lem = projecting.names_from_slot leaves shown stands_for (λ t u. restarts t u ≡ false) projected_one
      (Own Slots) s rest (acts_of (due s)) (clear_stands s (first_checks s) (first_clear hs s is)) (refl, full.whole)
      name_served names_one (acts_names (shown s) (due s))
      ∙ rw (due_state s) refl

  pub plain_round : rounds.FullRound (ran_state s) later
  plain_round = record { first = full.first; slots = ap length (sym round_names_lem) ∙ full.slots }

  leads : shown (leaves_all s (Own Slots ∷ rest)) ≡ after (ran_state s) (Slot ∷ later)
  unfolding Each
  leads = projecting.leads_from_slot leaves shown stands_for (λ t u. restarts t u ≡ false) projected_one
      (Own Slots) s rest (acts_of (due s)) (clear_stands s (first_checks s) (first_clear hs s is)) (refl, full.whole)
      ∙ rw (due_state s) refl

  -- it ends where the next round starts, with the number one more
  pub round_ends : (leaves_all s (Own Slots ∷ rest)).own ≡ record { capacity = s.own.capacity; position = 1; round = round_after s.own.round }
  round_ends = ap (λ (u : State). u.drive) leads ∙ full_over (ran_state s) later is.own.valid.at.some is.own.valid.at.few plain_round
