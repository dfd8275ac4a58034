-- Two drives on one board: what is held is the same in either drive's plain history, since the orders that are carried out are acts of both and are answered
-- alike; and it stands on the board, whatever calls are made. Shown for a call of the own drive; for the other's the records are exchanged.
-- Assumes nothing.
use mathlib.Core.Path.{◌≡◌, refl, sym, ap, subst, ◌∙◌}
use mathlib.Core.Bool.{true, false, cond}
use mathlib.Core.List.{List, [], ◌∷◌}
use Prim.Native.Nat.{ℕ, ◌≤◌}
use native.Mathlib.Omega.{arith}
use lib.Dec.{eqb}
use lib.ListN.{length}
use Rattle.general.proofs.Laws.{by_bool}
use Rattle.pieces.specs.Board.{good}
use Rattle.calls.specs.declared.Drive.{Drive}
use Rattle.calls.specs.Types.{Check}
use Rattle.std.specs.Prelude.{Ok, Err}
use Rattle.calls.specs.Results.{if_clear}
use Rattle.calls.specs.Answers.{Answer}
use Rattle.calls.proofs.Laws.{is_clear_lem, either_length}
use Rattle.demands.specs.Histories.{Act, Add, Remove, Slot, Round, Report, Fresh, State, says, after, log}
use Rattle.pieces.specs.Streams.{Stream}
use Rattle.demands.specs.Holdings.{held_after, held_from}
use Rattle.demands.proofs.Laws.{state_at, Sound, reached, moves, same_either, held_append}
use Rattle.waiting.specs.declared.Order.{Order}
use Rattle.waiting.specs.Layout.{too_short}
use Rattle.orders.specs.Results.{add_order, remove_order, carried_answer, carried_board}
use Rattle.drives.specs.Checks.{both_start}
use Rattle.drives.specs.Results.{list_then}
use Rattle.drives.proofs.Laws.{pair_clear, pair_vouch, answer_alike, board_alike}
use Rattle.amended.specs.Histories.{following}
use Rattle.amended.specs.Carried.{act_of, acts_of}
use Rattle.amended.specs.Deeds as one
use Rattle.amended.specs.Deeds.{Deed, Opens, Reads, Adds, Removes, Slots, Rounds, Reports, Saves, Fetches, Refreshes, open_checks, read_checks}
use Rattle.amended.specs.Holding as holding
use Rattle.amended.specs.Holding.{on_leaves, on_board}
use Rattle.amended.specs.Turns.{Pair, exchanged, seen, shown, first_checks, look_checks, way_at, list_after, leaves_own, Turn, Own, Other, leaves, leaves_all, turned_all, restarts, Unbroken, carries_out, lays_out, shared, alone, stands_for, plain}
use Rattle.amended.specs.Sharing.{held_own, held_next, held_through, Ready}
use Rattle.amended.proofs.Carrying.{carry_one}
use Rattle.amended.proofs.Projecting as projecting
use Rattle.amended.proofs.Sounding.{ready_sound, by_way, if_length, restart_ready}
use Rattle.amended.proofs.Sounding as sounding
use Rattle.amended.proofs.Turning.{carries_alike, projected_one}

-- ---- the acts of one drive alone change nothing that is held

look_held : (hs : List Stream) (u : State) (x : Act) (k : Check) → held_after x hs ≡ hs → held_from hs (log u (if_clear k (x ∷ []) [])) ≡ hs
unfolding held_from log
look_held hs u x (Ok tt) e = rw e (same_either (eqb (says x u).number 0) hs)
look_held hs u x (Err r) e = refl

alone_held : (hs : List Stream) (u : State) (a : Deed) (s : Pair) → held_from hs (log u (alone a s)) ≡ hs
unfolding held_from log
alone_held hs u (Opens C) s = refl
alone_held hs u (Reads form S) s = refl
alone_held hs u (Adds x w) s = refl
alone_held hs u (Removes x) s = refl
alone_held hs u Slots s = look_held hs u Slot (first_checks s) refl
alone_held hs u (Rounds O) s = look_held hs u (Round O) (look_checks s) refl
alone_held hs u (Reports x) s = look_held hs u (Report x) (look_checks s) refl
alone_held hs u (Saves form O) s = refl
alone_held hs u (Fetches t) s = refl
alone_held hs u Refreshes s = refl

-- ---- the acts of both are answered alike

none_held : (B : List ℕ) (hs : List Stream) (a b : Drive) → held_from hs (log (state_at a B) (acts_of [])) ≡ held_from hs (log (state_at b B) (acts_of []))
unfolding acts_of held_from log
none_held B hs a b = refl

-- what an order changes of what is held hangs on its answer
abbrev held_by : Answer → Order → List Stream → List Stream
held_by a o hs = cond (eqb a.number 0) (cond (eqb o.kind 1) (held_after (Add o.name o.weight) hs) (held_after (Remove o.name) hs)) hs

order_held : (d : Drive) (B : List ℕ) (hs : List Stream) (o : Order) → held_from hs (log (state_at d B) (act_of o)) ≡ held_by (carried_answer d B o) o hs
unfolding held_from log act_of carried_answer
order_held d B hs o = by_bool (eqb o.kind 1)
    (λ t. rw t refl)
    (λ f. by_bool (eqb o.kind 2) (λ t. rw (f, t) refl) (λ n. rw (f, n) refl))

module _ (a b : Drive) (ec : a.capacity ≡ b.capacity) (ep : a.position ≡ b.position) where
  one_held : (hs : List Stream) (B : List ℕ) (o : Order) → held_from hs (log (state_at a B) (act_of o)) ≡ held_from hs (log (state_at b B) (act_of o))
  one_held hs B o = rw (order_held a B hs o, order_held b B hs o, answer_alike a b ec ep B o) refl

  pub held_alike : (B : List ℕ) (hs : List Stream) (os : List Order) → held_from hs (log (state_at a B) (acts_of os)) ≡ held_from hs (log (state_at b B) (acts_of os))
  unfolding acts_of
  held_alike B hs [] = none_held B hs a b
  held_alike B hs (o ∷ os) = rw (
    held_append hs (state_at a B) (act_of o) (acts_of os),
    held_append hs (state_at b B) (act_of o) (acts_of os),
    carry_one a B o,
    carry_one b B o,
    one_held hs B o,
    board_alike a b ec ep B o,
  ) (held_alike (carried_board b B o) (held_from hs (log (state_at b B) (act_of o))) os)

pub carries_held : (hs : List Stream) (a : Deed) (s : Pair)
    → held_from hs (log (shown s) (acts_of (carries_out a s))) ≡ held_from hs (log (shown (exchanged s)) (acts_of (carries_out a s)))
carries_held hs a s =
    carries_alike (λ (d : Drive) (os : List Order). held_from hs (log (state_at d s.board) (acts_of os))) (none_held s.board hs)
    (λ c d ec ep os. held_alike c d ec ep s.board hs os) a s

-- so are all the acts of both: a fresh layout changes nothing that is held
shared_held : (hs : List Stream) (a : Deed) (s : Pair) → held_from hs (log (shown s) (shared a s)) ≡ held_from hs (log (shown (exchanged s)) (shared a s))
unfolding held_from log
shared_held hs a s = by_bool (lays_out a s)
    (λ t. rw t (same_either (eqb (says Fresh (shown s)).number 0) hs ∙ sym (same_either (eqb (says Fresh (shown (exchanged s))).number 0) hs)))
    (λ f. rw f (carries_held hs a s))

pub fresh_held : (hs : List Stream) (s : Pair) → held_own hs Refreshes s ≡ hs
unfolding held_from log acts_of
fresh_held hs s = by_bool (lays_out Refreshes s) (λ t. rw t (same_either (eqb (says Fresh (shown s)).number 0) hs)) (λ f. rw f refl)

-- ---- what is held is what either drive's plain history holds

own_held : (hs : List Stream) (a : Deed) (s : Pair) → held_from hs (log (shown s) (stands_for (Own a) s)) ≡ held_from hs (log (shown s) (shared a s))
own_held hs a s = held_append hs (shown s) (shared a s) (alone a s)
    ∙ alone_held (held_from hs (log (shown s) (shared a s))) (after (shown s) (shared a s)) a s

held_one : (hs : List Stream) (t : Turn) (s : Pair) → restarts t s ≡ false → held_next hs t s ≡ held_from hs (log (shown s) (stands_for t s))
held_one hs (Own a) s e = rw e (sym (own_held hs a s))
held_one hs (Other a) s e = rw e (shared_held hs a (exchanged s))

pub held_plain : (hs : List Stream) (s : Pair) (turns : List Turn) → Unbroken s turns → held_through hs s turns ≡ held_from hs (log (shown s) (plain s turns))
held_plain = projecting.held_projected leaves shown stands_for (λ t s. restarts t s ≡ false) projected_one held_next held_one

-- and the other drive sees the same held.
pub held_turned : (hs : List Stream) (s : Pair) (turns : List Turn) → held_through hs (exchanged s) (turned_all turns) ≡ held_through hs s turns
unfolding following
held_turned hs s [] = refl
held_turned hs s (Own a ∷ rest) = held_turned (held_own hs a s) (leaves (Own a) s) rest
held_turned hs s (Other a ∷ rest) = held_turned (held_own hs a (exchanged s)) (leaves (Other a) s) rest

-- ---- the list keeps its length

pub list_length : (a : Deed) (s : Pair) → length (list_after a s) ≡ length s.list
unfolding list_then
list_length (Opens C) s = sounding.list_length (Opens C) (seen s)
list_length (Reads form S) s = sounding.list_length (Reads form S) (seen s)
list_length (Adds x w) s = by_way s.list (add_order x w) (way_at (add_order x w) s)
list_length (Removes x) s = by_way s.list (remove_order x) (way_at (remove_order x) s)
list_length Slots s = either_length (first_checks s) (list_then s.own s.other s.board s.list) s.list (if_length (both_start s.own s.other) s.own s.board s.list)
list_length (Rounds O) s = refl
list_length (Reports x) s = refl
list_length (Saves form O) s = refl
list_length Refreshes s = refl
list_length (Fetches t) s = sounding.list_length (Fetches t) (seen s)

-- ---- what is held stands on the board, for each drive

-- The list is long enough, the capacities are equal, and what is held stands on the board.
pub record Standing (hs : List Stream) (s : Pair) : Type 0 where
  pub own : Sound (shown s) hs
  pub other : Sound (shown (exchanged s)) hs
  pub same : s.own.capacity ≡ s.other.capacity
  pub long : 259 ≤ length s.list

pub standing_turned : (hs : List Stream) (s : Pair) → Standing hs s → Standing hs (exchanged s)
standing_turned hs s is = record { own = is.other; other = is.own; same = sym is.same; long = is.long }

-- an open or a read that is done gives both drives one record, and leaves what a history of one drive may begin with
pub both_given : (a : Deed) (s : Pair) → one.restarts a (seen s) ≡ true → (leaves_own a s).other ≡ (leaves_own a s).own
both_given (Opens C) s e = rw (is_clear_lem (open_checks (seen s) C) e) refl
both_given (Reads form S) s e = rw (is_clear_lem (read_checks (seen s) form S) e) refl
both_given (Adds x w) s e = cc
both_given (Removes x) s e = cc
both_given Slots s e = cc
both_given (Rounds O) s e = cc
both_given (Reports x) s e = cc
both_given (Saves form O) s e = cc
both_given (Fetches t) s e = cc
both_given Refreshes s e = cc

restart_seen : (a : Deed) (s : Pair) → 259 ≤ length s.list → one.restarts a (seen s) ≡ true → holding.Ready (seen (leaves_own a s))
restart_seen (Opens C) s l e = restart_ready (Opens C) (seen s) l e
restart_seen (Reads form S) s l e = restart_ready (Reads form S) (seen s) l e
restart_seen (Adds x w) s l e = cc
restart_seen (Removes x) s l e = cc
restart_seen Slots s l e = cc
restart_seen (Rounds O) s l e = cc
restart_seen (Reports x) s l e = cc
restart_seen (Saves form O) s l e = cc
restart_seen (Fetches t) s l e = cc
restart_seen Refreshes s l e = cc

-- a call that begins anew
pub restart_standing : (a : Deed) (s : Pair) → 259 ≤ length s.list → one.restarts a (seen s) ≡ true → Standing (on_board (shown (leaves_own a s))) (leaves_own a s)
restart_standing a s long e =
    let r = ready_sound (seen (leaves_own a s)) (restart_seen a s long e) in
    let g = both_given a s e in
    record {
      own = r;
      other = subst (λ (d : Drive). Sound (state_at d (leaves_own a s).board) (on_board (shown (leaves_own a s)))) (sym g) r;
      same = ap (λ (d : Drive). d.capacity) (sym g);
      long = let n = list_length a s in omega arith;
    }

module _ (hs : List Stream) (s : Pair) (is : Standing hs s) where
  -- a call that goes on: it is plain calls of both
  on_standing : (a : Deed) → one.restarts a (seen s) ≡ false → Standing (held_from hs (log (shown s) (shared a s))) (leaves_own a s)
  on_standing a e =
      let x = projected_one (Own a) s e in
      let y = projected_one (Other a) (exchanged s) e in
      record {
        own = subst (λ (u : State). Sound u (held_from hs (log (shown s) (shared a s)))) (sym x)
            (subst (Sound (after (shown s) (stands_for (Own a) s))) (own_held hs a s) (reached (shown s) hs is.own (stands_for (Own a) s)));
        other = subst (λ (u : State). Sound u (held_from hs (log (shown s) (shared a s)))) (sym y)
            (subst (Sound (after (shown (exchanged s)) (shared a s))) (sym (shared_held hs a s)) (reached (shown (exchanged s)) hs is.other (shared a s)));
        same = ap (λ (u : State). u.drive.capacity) x ∙ (moves (shown s) (stands_for (Own a) s)).0 ∙ is.same
            ∙ sym (ap (λ (u : State). u.drive.capacity) y ∙ (moves (shown (exchanged s)) (shared a s)).0);
        long = let n = list_length a s in let l = is.long in omega arith;
      }

  own_standing : (a : Deed) → Standing (held_own hs a s) (leaves_own a s)
  own_standing a = by_bool (one.restarts a (seen s)) (λ t. rw t (restart_standing a s is.long t)) (λ f. rw f (on_standing a f))

pub standing_next : (hs : List Stream) (t : Turn) (s : Pair) → Standing hs s → Standing (held_next hs t s) (leaves t s)
standing_next hs (Own a) s is = own_standing hs s is a
standing_next hs (Other a) s is = standing_turned (held_own hs a (exchanged s)) (leaves_own a (exchanged s)) (own_standing hs (exchanged s) (standing_turned hs s is) a)

-- ---- where a history begins

ready_standing : (s : Pair) → Ready s → Standing (on_board (shown s)) s
ready_standing s is =
    let p = pair_clear s.own s.other s.board (too_short (length s.list)) is.clear in
    let long = (pair_vouch s.own s.other s.board (length s.list) is.clear).1 in
    let own = ready_sound (seen s) (record { clear = p.own; fine = is.fine; long = long }) in
    let fine : good s.other.capacity s.board ≡ true = rw (← p.same) is.fine in
    record {
      own = own;
      other = subst (λ (C : ℕ). Sound (shown (exchanged s)) (on_leaves s.board C)) (sym p.same) (ready_sound (seen (exchanged s)) (record { clear = p.other; fine = fine; long = long }));
      same = p.same;
      long = long;
    }

pub standing : (s : Pair) → Ready s → (turns : List Turn) → Standing (held_through (on_board (shown s)) s turns) (leaves_all s turns)
standing s is turns = projecting.ever leaves held_next Standing standing_next (on_board (shown s)) s (ready_standing s is) turns
