-- What the demands say of refusals: those that a call may answer, and what a refusal leaves.
-- Assumes nothing.
use Rattle.std.specs.Prelude.{cond, List, [], ◌∷◌, map, ℕ, eqb}
use Rattle.pieces.specs.Board.{weight}
use Rattle.calls.specs.declared.Refusal.{Refusal}
use Rattle.calls.specs.Refusals.{add_may, remove_may, slot_may, round_may, report_may, change_may}
use Rattle.calls.specs.Answers.{Answer}
use Rattle.calls.specs.Results.{rounded_output}
use Rattle.demands.specs.Histories.{Act, Add, Remove, Slot, Round, Report, Fresh, State}

-- The refusals that a call may answer.
abbrev pub may_answer : Act → List Refusal
may_answer (Add x w) = add_may
may_answer (Remove x) = remove_may
may_answer Slot = slot_may
may_answer (Round O) = round_may
may_answer (Report x) = report_may
may_answer Fresh = change_may

-- The output that a call is lent, and what it leaves there. Only round is lent one.
abbrev pub lent_output : Act → List ℕ
lent_output (Add x w) = []
lent_output (Remove x) = []
lent_output Slot = []
lent_output (Round O) = O
lent_output (Report x) = []
lent_output Fresh = []

abbrev pub writes : Act → State → List ℕ
writes (Add x w) s = []
writes (Remove x) s = []
writes Slot s = []
writes (Round O) s = rounded_output s.drive s.board O
writes (Report x) s = []
writes Fresh s = []

-- As many zeros.
abbrev pub zeros : List ℕ → List ℕ
zeros vs = map (λ v. 0) vs

-- What a refusal in the state s says for values: as many zeros, but for ROOM the idle leaves.
abbrev pub refused_values : State → Answer → List ℕ
refused_values s a = cond (eqb a.number 10) (weight s.drive.capacity s.board 0 ∷ []) (zeros a.values)
