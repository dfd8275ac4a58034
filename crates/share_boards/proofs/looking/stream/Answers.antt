-- `share_boards::looking::stream` meets its contract. Assumes nothing.
use Rattle.std.proofs.Common.{sym, ◌∙◌, ◌≤◌, arith}
use Rattle.calls.proofs.Laws.{count_small}
use Rattle.share_boards.proofs.Looks.{ready_sized, ready_position, ready_shared, reporting_clear, served_le, spaced_le, pieces_told}
use Rattle.share_boards.proofs.looking.stream.Goals as goal
use Rattle.share_boards.proofs.looking.stream.Goals.{After-spacing-spacing}

-- nothing that is told exceeds the capacity
bounded : (c : After-spacing-spacing) → (c.weigh-leaves.result ≤ 4095) × (c.weight_served-weight.result ≤ 4095) × (c.spacing-spacing.result ≤ 4095)
bounded c =
    let q = reporting_clear _ _ _ _ (sym c.check_report.ensures ∙ c.in_ok-check_report.was) in
    let z = ready_sized _ _ q.ready in
    let few = z.few in
    let leaves = count_small _ _ _ _ c.weigh-leaves.ensures in
    let served = served_le _ _ _ q in
    let spaced = spaced_le _ _ _ q in
    (omega arith, omega (arith, c.weight_served-weight.ensures), omega (arith, c.spacing-spacing.ensures))

pub weigh-leaves-requires : goal.weigh-leaves-requires
weigh-leaves-requires c =
    let q = reporting_clear _ _ _ _ (sym c.check_report.ensures ∙ c.in_ok-check_report.was) in
    let z = ready_sized _ _ q.ready in
    (z.long, z.few)

pub weight_served-weight-requires : goal.weight_served-weight-requires
weight_served-weight-requires c =
    let q = reporting_clear _ _ _ _ (sym c.check_report.ensures ∙ c.in_ok-check_report.was) in
    let z = ready_sized _ _ q.ready in
    (z.long, q.ready.rates, z.few, q.held)

pub spacing-spacing-requires : goal.spacing-spacing-requires
spacing-spacing-requires c =
    let q = reporting_clear _ _ _ _ (sym c.check_report.ensures ∙ c.in_ok-check_report.was) in
    let named = q.named in
    (ready_position _ _ q.ready, ready_shared _ _ q.ready, omega arith, q.held)

pub overflow_cast-result : goal.overflow_cast-result
overflow_cast-result c = omega (arith, bounded c)

pub overflow_cast-result-3 : goal.overflow_cast-result-3
overflow_cast-result-3 c = omega (arith, bounded c)

pub returns : goal.returns
returns c =
    let e = sym c.check_report.ensures ∙ c.in_ok-check_report.was in
    let n = pieces_told _ _ _ (reporting_clear _ _ _ _ e) in
    let w = c.weigh-leaves.ensures in
    let r = c.weight_served-weight.ensures in
    (simp (e, w, r, c.spacing-spacing.ensures, n), simp (e, w, r, c.spacing-spacing.ensures, n))
