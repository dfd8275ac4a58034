-- `waiting::counts` meets its contract. Assumes nothing.
use Rattle.std.proofs.Common.{◌≡◌, ◌∙◌, arith, ◌+◌, ◌≤◌}
use Rattle.waiting.specs.Layout.{answers_in, orders_in}
use Rattle.waiting.proofs.Listing.{least-min}
use Rattle.waiting.proofs.counts.Goals as goal

pub returns : goal.returns
unfolding answers_in orders_in
returns c =
    let a : c.min-answers.result ≡ answers_in c.args.list.now = c.min-answers.ensures ∙ least-min _ _ in
    let most : c.min-answers.result + c.min-orders.result ≤ 64 = omega arith in
    (a, c.min-orders.ensures ∙ least-min _ _ ∙ rw a, most)
