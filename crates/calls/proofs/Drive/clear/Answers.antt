-- `calls::Drive::clear` meets its contract. Assumes nothing.
use Rattle.std.proofs.Common.{sym, ◌∙◌, arith}
use Rattle.calls.proofs.Checking.{remove_clear, count_small}
use Rattle.calls.proofs.Drive.clear.Goals as goal

pub remove-requires : goal.remove-requires
remove-requires c =
    let s = remove_clear _ _ _ (sym c.check_remove.ensures ∙ c.in_ok-check_remove.was) in
    (s.long, s.small)

pub weigh-requires : goal.weigh-requires
weigh-requires c =
    let s = remove_clear _ _ _ (sym c.check_remove.ensures ∙ c.in_ok-check_remove.was) in
    (omega (arith, s.long, c.remove.auto.board), s.small)

pub overflow_cast-result : goal.overflow_cast-result
overflow_cast-result c =
    let s = remove_clear _ _ _ (sym c.check_remove.ensures ∙ c.in_ok-check_remove.was) in
    let l = count_small _ _ _ _ c.weigh.ensures in
    omega (arith, s.small)
