-- The names that slots serve, full rounds, slots in a row within them, and how near two numbers are.
-- Assumes nothing.
use Rattle.std.specs.Prelude.{◌≡◌, true, false, cond, List, [], ◌∷◌, map, ℕ, ◌+◌, ◌-◌, ◌*◌, ◌/◌, ◌^◌, ◌≤◌, ◌<◌, eqb, length, get_or, take, drop}
use Rattle.std.specs.Int.Count.{ones}
use Rattle.sequences.specs.Sequences.{wss, tss}
use Rattle.sequences.specs.SlotOrder.{digits, start, position_after}
use Rattle.sequences.specs.Serving.{serves}
use Rattle.calls.specs.Records.{moved_to}
use Rattle.calls.specs.Answers.{Answer}
use Rattle.demands.specs.Histories.{Act, Add, Remove, Slot, Round, Report, Fresh, State, Event, does, says, log}

-- The name that an act serves, before those that later acts serve: a slot that is not refused says it first.
abbrev pub names_by : Act → Answer → List ℕ → List ℕ
names_by (Add x w) a later = later
names_by (Remove x) a later = later
names_by Slot a later = cond (eqb a.number 0) (get_or a.values 0 0 ∷ later) later
names_by (Round O) a later = later
names_by (Report x) a later = later
names_by Fresh a later = later

-- The names that the slots of events served, in their order.
unfoldable pub names : List Event → List ℕ
names [] = []
names (e ∷ es) = names_by e.act e.answer (names es)

-- The names that a slot serves and then the slots among the acts that follow.
abbrev pub names_from : State → List Act → List ℕ
names_from s rest = names (log s (Slot ∷ rest))

-- A full round: its first slot is at position 1, and with those among the acts that follow C slots are served. Other calls may stand between them and after them.
pub record FullRound (s : State) (rest : List Act) : Type 0 where
  pub first : s.drive.position ≡ 1
  pub slots : length (names_from s rest) ≡ s.drive.capacity

-- The leaf that G-3's two sequences, as lists, have at position p: the term v there selects column j = k - v, and of the time-slot sequence of order j
-- entry p / 2 ^ v is taken, from the start of tree j.
abbrev pub leaf_listed : ℕ → ℕ → ℕ
leaf_listed C p =
    let v = get_or (wss (digits C)) (p - 1) 0 in
    start C (digits C - v) + get_or (tss (digits C - v)) (p / 2 ^ v) 0

-- A slot in its turn: from the stored position on, clear terms are passed over, at most one, and the next term serves. The slot says the name on the leaf
-- that the two sequences have there, the leaf, how many terms were passed over, and the record's round number; the record moves to the position after.
pub record InTurn (s : State) : Type 0 where
  pub over : ℕ
  pub few : over ≤ 1
  pub clear : (q : ℕ) → s.drive.position ≤ q → q < s.drive.position + over → serves s.drive.capacity q ≡ false
  pub set : serves s.drive.capacity (s.drive.position + over) ≡ true
  pub said :
      let leaf = leaf_listed s.drive.capacity (s.drive.position + over) in
      (says Slot s).values ≡ get_or s.board leaf 0 ∷ leaf ∷ over ∷ s.drive.round ∷ []
  pub moved : (does Slot s).drive ≡ moved_to s.drive (position_after (digits s.drive.capacity) (s.drive.position + over))

-- The t slots from slot i on, counted from 0.
abbrev pub in_a_row : ℕ → ℕ → List ℕ → List ℕ
in_a_row i t served = take t (drop i served)

-- The names on leaves of the board B.
abbrev pub names_on : List ℕ → List ℕ → List ℕ
names_on B leaves = map (λ leaf. get_or B leaf 0) leaves

-- a and b differ by less than d.
abbrev pub Near : ℕ → ℕ → ℕ → Type 0
Near a b d = (a < b + d) × (b < a + d)

-- m C + w h, with m ones in w and h in C.
abbrev pub bound : ℕ → ℕ → ℕ
bound C w = ones w * C + w * ones C

-- 2 m C + w h, which is what demand 3 asks.
abbrev pub demanded : ℕ → ℕ → ℕ
demanded C w = 2 * ones w * C + w * ones C

-- m C, for a stream of m pieces, which request No. 13 asks where C is a power of two.
abbrev pub power_bound : ℕ → ℕ → ℕ
power_bound C m = m * C
