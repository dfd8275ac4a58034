-- `calls::Drive::stream` meets its contract. Assumes nothing.
use Rattle.std.proofs.Common.{◌≡◌, sym, ◌∙◌, arith, ◌≤◌, ◌<◌}
use Rattle.sequences.proofs.Laws.{first_position}
use Rattle.pieces.proofs.Laws.{pieces_ones}
use Rattle.calls.specs.Refusals.{report_check}
use Rattle.std.specs.Prelude.{Ok}
use Rattle.calls.proofs.Checking.{slot_sized, report_slot, report_good, report_held, count_small}
use Rattle.calls.proofs.Spaced as spaced
use Rattle.calls.proofs.Drive.stream.Goals as goal
use Rattle.calls.proofs.Drive.stream.Goals.{After-weigh-w, In_ok-check_report}

-- no refusal applies
clear : (c : In_ok-check_report) → report_check c.args.self c.args.board.now c.args.name ≡ (Ok tt)
clear c = sym c.check_report.ensures ∙ c.in_ok-check_report.was

-- the weight is some, and at most the capacity
counted : (c : After-weigh-w) → (0 < c.weigh-w.result) × (c.weigh-w.result ≤ c.args.self.capacity)
    × (c.args.self.capacity ≤ 4095)
counted c =
    let e = (sym c.check_report.ensures ∙ c.in_ok-check_report.was) in
    let z = slot_sized _ _ (report_slot _ _ _ e) in
    let h = report_held _ _ _ e in
    let l = count_small _ _ _ _ c.weigh-w.ensures in
    rw c.weigh-w.ensures (omega arith)

pub weigh-w-requires : goal.weigh-w-requires
weigh-w-requires c = let s = slot_sized _ _ (report_slot _ _ _ (clear (goal.at.weigh-w-requires c).In_ok-check_report)) in (s.long, s.few)

pub spacing-spacing-requires : goal.spacing-spacing-requires
spacing-spacing-requires c =
    let e = clear (goal.at.spacing-spacing-requires c).In_ok-check_report in
    let z = slot_sized _ _ (report_slot _ _ _ e) in
    let h = report_held _ _ _ e in
    (first_position _ z.some (omega (arith, z.few)), z.long, omega arith)

pub overflow_cast-result : goal.overflow_cast-result
overflow_cast-result c = let w = counted (goal.at.overflow_cast-result c).After-weigh-w in omega arith

pub overflow_cast-result-3 : goal.overflow_cast-result-3
overflow_cast-result-3 c =
    let a = c.args in
    let e = clear (goal.at.overflow_cast-result-3 c).In_ok-check_report in
    let z = slot_sized _ _ (report_slot _ _ _ e) in
    let h = report_held _ _ _ e in
    let w = counted (goal.at.overflow_cast-result-3 c).After-weigh-w in
    let l : c.spacing-spacing.result ≤ a.self.capacity = rw c.spacing-spacing.ensures (spaced.most a.self.capacity a.board.now (omega (arith, z.few)) a.name (omega arith)) in
    omega arith

pub returns : goal.returns
returns c =
    let e = clear (goal.at.returns c).In_ok-check_report in
    let z = slot_sized _ _ (report_slot _ _ _ e) in
    let n = pieces_ones _ _ c.args.name z.few (report_good _ _ _ e) in
    (simp (e, c.weigh-w.ensures, c.spacing-spacing.ensures, n), simp (e, c.weigh-w.ensures, c.spacing-spacing.ensures, n))
