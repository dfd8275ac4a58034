-- Request No. 6: what the certificate of a slot names, and full rounds told by their number.
-- Assumes nothing.
use Rattle.std.specs.Prelude.{◌≡◌, cond, List, [], ◌∷◌, ℕ, ◌<◌, eqb, length, get_or}
use Rattle.calls.specs.Answers.{Answer}
use Rattle.demands.specs.Histories.{Act, Add, Remove, Slot, Round, Report, Fresh, State, Event, after, log}
use Rattle.demands.specs.Rounds.{names}

-- The round and the slot: the number that the slot says, and its leaf.
pub record Certificate : Type 0 where
  pub round : ℕ
  pub leaf : ℕ

-- The certificate of an act, before those of later acts: a slot that is not refused says its leaf second and the number of its round fourth.
abbrev pub certified_by : Act → Answer → List Certificate → List Certificate
certified_by (Add x w) a later = later
certified_by (Remove x) a later = later
certified_by Slot a later = cond (eqb a.number 0) (record { round = get_or a.values 3 0; leaf = get_or a.values 1 0 } ∷ later) later
certified_by (Round O) a later = later
certified_by (Report x) a later = later
certified_by Fresh a later = later

-- The certificates of the slots of events, in their order.
unfoldable pub certificates : List Event → List Certificate
certificates [] = []
certificates (e ∷ es) = certified_by e.act e.answer (certificates es)

-- The certificate of slot i, counted from 0.
abbrev pub of_slot : List Certificate → ℕ → Certificate
of_slot cs i = get_or cs i (record { round = 0; leaf = 0 })

-- How many slots of events were served.
abbrev pub slots_in : List Event → ℕ
slots_in es = length (names es)

-- P holds of the number of every slot.
abbrev pub Every : (ℕ → Type 0) → List Certificate → Type 0
Every P cs = (i : ℕ) → i < length cs → P (of_slot cs i).round

-- A full round told by its number n: no slot of the acts before says n; the next slot and those among the acts that follow all say n; and the slot after them
-- would say another number.
pub record ToldRound (s : State) (acts rest : List Act) : Type 0 where
  pub n : ℕ
  pub new : Every (λ k. k ≡ n → ⊥) (certificates (log s acts))
  pub alike : Every (λ k. k ≡ n) (certificates (log (after s acts) (Slot ∷ rest)))
  pub over : (after (after s acts) (Slot ∷ rest)).drive.round ≡ n → ⊥
