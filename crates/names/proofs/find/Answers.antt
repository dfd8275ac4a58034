-- `names::find` meets its contract. Assumes nothing.
use Rattle.std.proofs.Common.{arith}
use Rattle.names.proofs.Walks.{walking_start, walking_here, walking_next, walking_none}
use Rattle.names.proofs.find.Goals as goal

pub loop-n-init : goal.loop-n-init
loop-n-init c = walking_start c.args.cells.now c.requires.1 c.args.x

pub returns-then-m-x : goal.returns-then-m-x
returns-then-m-x c =
    walking_here c.args.cells.now c.requires.1 c.args.x c.loop-n.n c.loop-n.invariant c.loop-n-test.true c.if-m-x.true

pub loop-n-preserved : goal.loop-n-preserved
loop-n-preserved c =
    let L = c.loop-n in
    walking_next c.args.cells.now c.requires.1 c.args.x L.n L.invariant c.loop-n-test.true c.if-m-x.false

pub returns : goal.returns
returns c =
    walking_none c.args.cells.now c.requires.1 c.args.x c.loop-n.n c.loop-n.invariant (omega arith)
