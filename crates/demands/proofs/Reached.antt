-- What holds of every record and board that calls from an opened board lead to: the board is good, and what is held is on it. Assumes nothing.
use mathlib.Core.Path.{◌≡◌, refl, sym, ◌∙◌, ap}
use mathlib.Core.Bool.{Bool, true, false, cond}
use mathlib.Core.List.{List, [], ◌∷◌, ◌++◌}
use Prim.Native.Nat.{ℕ, zero, suc, ◌+◌, ◌≤◌, ◌<◌}
use native.Mathlib.Omega.{arith}
use native.Mathlib.Decide.{ℕ_discrete}
use lib.Dec.{eqb}
use lib.ListN.{length, get_or, drop, replicate, length-append, length-replicate, get_or-replicate, get_or-append}
use borrow.Author.Tests.{eq-eqb, ne_eqb, eqb-true}
use Rattle.sequences.proofs.Laws.{first_position}
use Rattle.pieces.specs.Board.{good, weight}
use Rattle.pieces.specs.Placing.{Placeable, placed}
use Rattle.pieces.specs.Tidying.{Removable, removed}
use Rattle.pieces.specs.Fresh.{fresh}
use Rattle.pieces.proofs.Laws.{opened_good, placed_good, placed_weight, placed_idle, placed_others, placed_length, removed_good, removed_name, removed_idle_lem, removed_others, removed_length, fresh_length, fresh_good, fresh_weights}
use Rattle.calls.specs.Types.{Check}
use Rattle.std.specs.Prelude.{Ok, Err}
use Rattle.calls.specs.Records.{drive_at}
use Rattle.calls.specs.Refusals.{open_check, add_check, remove_check, change_check}
use Rattle.calls.specs.Results.{idle_board, moved_on}
use Rattle.calls.proofs.Laws.{number_some, open_sized, add_clear, remove_clear}
use Rattle.demands.specs.Histories.{Act, Add, Remove, Slot, Round, Report, Fresh, State, Openable, does, says, after, reach, log}
use Rattle.pieces.specs.Streams.{Stream, held_of, total}
use Rattle.demands.specs.Holdings.{without, held_after, held_from, held}
use Rattle.demands.proofs.Valid.{Valid, state_at, slot_clear, valid_next}

-- The board is good, and every name has as many leaves as it holds.
pub record Sound (s : State) (hs : List Stream) : Type 0 where
  pub valid : Valid s
  pub fine : good s.drive.capacity s.board ≡ true
  pub idle : weight s.drive.capacity s.board 0 + total hs ≡ s.drive.capacity
  pub names : (x : ℕ) → (x ≡ 0 → ⊥) → weight s.drive.capacity s.board x ≡ held_of x hs
  pub nameless : held_of 0 hs ≡ 0

-- what is held after one act
abbrev next : Act → State → List Stream → List Stream
next a s hs = cond (eqb (says a s).number 0) (held_after a hs) hs

-- ---- the streams of other names

without_total : (x : ℕ) (hs : List Stream) → total (without x hs) + held_of x hs ≡ total hs
unfolding without total held_of
without_total x [] = refl
without_total x (h ∷ hs) = go (eqb h.name x) refl (without_total x hs)
  where
    go : (b : Bool) → eqb h.name x ≡ b → total (without x hs) + held_of x hs ≡ total hs → total (cond b (without x hs) (h ∷ without x hs)) + (cond b h.weight 0 + held_of x hs) ≡ h.weight + total hs
    go true e ih = omega arith
    go false e ih = omega arith

without_name : (x : ℕ) (hs : List Stream) → held_of x (without x hs) ≡ 0
unfolding without held_of
without_name x [] = refl
without_name x (h ∷ hs) = go (eqb h.name x) refl (without_name x hs)
  where
    go : (b : Bool) → eqb h.name x ≡ b → held_of x (without x hs) ≡ 0 → held_of x (cond b (without x hs) (h ∷ without x hs)) ≡ 0
    go true e ih = ih
    go false e ih = rw e (omega arith)

without_other : (x y : ℕ) (hs : List Stream) → (y ≡ x → ⊥) → held_of y (without x hs) ≡ held_of y hs
unfolding without held_of
without_other x y [] n = refl
without_other x y (h ∷ hs) n = go (eqb h.name x) refl (without_other x y hs n)
  where
    go : (b : Bool) → eqb h.name x ≡ b → held_of y (without x hs) ≡ held_of y hs → held_of y (cond b (without x hs) (h ∷ without x hs)) ≡ cond (eqb h.name y) h.weight 0 + held_of y hs
    go true e ih = rw (ne_eqb h.name y (λ q. n (sym q ∙ eqb-true h.name x e))) (omega arith)
    go false e ih = omega arith

-- ---- one act

pub same_either : (b : Bool) (hs : List Stream) → cond b hs hs ≡ hs
same_either true hs = refl
same_either false hs = refl

module _ (s : State) (hs : List Stream) (is : Sound s hs) where
  abbrev C : ℕ
  C = s.drive.capacity

  abbrev B : List ℕ
  B = s.board

  added : (x w : ℕ) → Placeable C B x w → Sound (state_at s.drive (placed C B x w)) (held_after (Add x w) hs)
  unfolding total held_of
  added x w m =
      let i = placed_idle C B x w m in
      let j = is.idle in
      record {
        valid = record { at = is.valid.at; long = let l = placed_length C B x w m in let k = is.valid.long in omega arith };
        fine = placed_good C B x w m;
        idle = omega arith;
        names = λ y n. elim (ℕ_discrete y x) [
          | yes r ↦ let e : held_of y hs ≡ held_of x hs = ap (λ (z : ℕ). held_of z hs) r in rw (r, eq-eqb x x refl) (let a = is.names x m.named in let b = m.absent in let c = placed_weight C B x w m in omega arith)
          | no r ↦ rw (ne_eqb x y (λ q. r (sym q))) (let a = is.names y n in let c = placed_others C B x w m y n r in omega arith)
        ];
        nameless = rw (ne_eqb x 0 m.named) (let z = is.nameless in omega arith);
      }

  cleared : (x : ℕ) → Removable C B x → Sound (state_at s.drive (removed C B x)) (held_after (Remove x) hs)
  cleared x m =
      let i = removed_idle_lem C B x m in
      let j = is.idle in
      let k = without_total x hs in
      let l = is.names x m.named in
      record {
        valid = record { at = is.valid.at; long = let l = removed_length C B x m in let k = is.valid.long in omega arith };
        fine = removed_good C B x m;
        idle = omega arith;
        names = λ y n. elim (ℕ_discrete y x) [
          | yes r ↦ rw (r) (removed_name C B x m ∙ sym (without_name x hs))
          | no r ↦ removed_others C B x m y n r ∙ is.names y n ∙ sym (without_other x y hs r)
        ];
        nameless = without_other x 0 hs (λ e. m.named (sym e)) ∙ is.nameless;
      }

  laid_out : Sound (state_at s.drive (fresh C B)) hs
  laid_out =
      let few : C ≤ 4095 = let f = is.valid.at.few in omega arith in
      let long = is.valid.long in
      record {
        valid = record { at = is.valid.at; long = let l = fresh_length C B few long in omega arith };
        fine = fresh_good C B few long;
        idle = rw (fresh_weights C B few long 0) is.idle;
        names = λ y n. fresh_weights C B few long y ∙ is.names y n;
        nameless = is.nameless;
      }

  moved : Sound (state_at (moved_on s.drive) s.board) hs
  moved = record { valid = valid_next s is.valid; fine = is.fine; idle = is.idle; names = is.names; nameless = is.nameless }

  stays : (hs' : List Stream) → hs' ≡ hs → Sound s hs'
  stays hs' e = rw e is

  pub step : (a : Act) → Sound (does a s) (next a s hs)
  step (Add x w) = go (add_check s.drive s.board x w) refl
    where
      go : (c : Check) → add_check s.drive s.board x w ≡ c → Sound (does (Add x w) s) (next (Add x w) s hs)
      go (Ok tt) e = rw e (added x w (add_clear s.drive s.board x w e))
      go (Err r) e = rw (e, number_some r) is
  step (Remove x) = go (remove_check s.drive s.board x) refl
    where
      go : (c : Check) → remove_check s.drive s.board x ≡ c → Sound (does (Remove x) s) (next (Remove x) s hs)
      go (Ok tt) e = rw e (cleared x (remove_clear s.drive s.board x e))
      go (Err r) e = rw (e, number_some r) is
  step Slot = rw (slot_clear s is.valid) moved
  step (Round O) = stays (next (Round O) s hs) (same_either (eqb (says (Round O) s).number 0) hs)
  step (Report x) = stays (next (Report x) s hs) (same_either (eqb (says (Report x) s).number 0) hs)
  step Fresh = go (change_check s.drive s.board) refl
    where
      go : (c : Check) → change_check s.drive s.board ≡ c → Sound (does Fresh s) (next Fresh s hs)
      go (Ok tt) e = rw e laid_out
      go (Err r) e = rw (e, number_some r) is

-- ---- any acts

pub reached : (s : State) (hs : List Stream) → Sound s hs → (acts : List Act) → Sound (after s acts) (held_from hs (log s acts))
unfolding after held_from log
reached s hs is [] = is
reached s hs is (a ∷ acts) = reached (does a s) (next a s hs) (step s hs is a) acts

-- acts after acts
pub after_append : (s : State) (acts more : List Act) → after s (acts ++ more) ≡ after (after s acts) more
unfolding after
after_append s [] more = refl
after_append s (a ∷ acts) more = after_append (does a s) acts more

pub after_one : (s : State) (acts : List Act) (a : Act) → after s (acts ++ (a ∷ [])) ≡ does a (after s acts)
unfolding after
after_one s acts a = after_append s acts (a ∷ [])

pub held_append : (hs : List Stream) (s : State) (acts more : List Act) → held_from hs (log s (acts ++ more)) ≡ held_from (held_from hs (log s acts)) (log (after s acts) more)
unfolding held_from log after
held_append hs s [] more = refl
held_append hs s (a ∷ acts) more = held_append (next a s hs) (does a s) acts more

-- ---- the opened board

module _ (C : ℕ) (B : List ℕ) (may : Openable C B) where
  idle_leaf : (i : ℕ) → i < C → get_or (idle_board C B) i 0 ≡ 0
  unfolding idle_board
  idle_leaf i h =
      let l = length-replicate {A = ℕ} C 0 in
      get_or-append (replicate C 0) (drop C B) 0 i (omega arith) ∙ get_or-replicate C i 0 0 h

  idle_weight : (n : ℕ) → n ≤ C → weight n (idle_board C B) 0 ≡ n
  unfolding weight
  idle_weight zero h = refl
  idle_weight (suc n) h = rw (idle_leaf n h, idle_weight n (omega arith)) (omega arith)

  name_weight : (x n : ℕ) → (x ≡ 0 → ⊥) → n ≤ C → weight n (idle_board C B) x ≡ 0
  unfolding weight
  name_weight x zero named h = refl
  name_weight x (suc n) named h = rw (idle_leaf n h, ne_eqb 0 x (λ e. named (sym e)), name_weight x n named (omega arith)) refl

  idle_long : C ≤ length (idle_board C B)
  unfolding idle_board
  idle_long = omega (arith, length-append (replicate C 0) (drop C B), length-replicate {A = ℕ} C 0)

  pub opened : Sound (state_at (drive_at C 1) (idle_board C B)) []
  unfolding total held_of
  opened = record {
    valid = record { at = first_position C may.some (let f = may.few in omega arith); long = idle_long };
    fine = opened_good C (idle_board C B) may.few idle_leaf;
    idle = let w = idle_weight C (omega arith) in omega arith;
    names = λ x named. name_weight x C named (omega arith);
    nameless = refl;
  }

  pub opened_clear : open_check C B ≡ Ok tt
  opened_clear = open_sized C B (record { some = may.some; few = may.few; long = may.long })

  pub always : (acts : List Act) → Sound (reach C B acts) (held C B acts)
  always acts = rw opened_clear (reached (state_at (drive_at C 1) (idle_board C B)) [] opened acts)
