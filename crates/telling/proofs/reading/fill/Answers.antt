-- `telling::reading::fill` meets its contract. Assumes nothing.
use Rattle.std.proofs.Common.{rules, subst, sym}
use Rattle.std.specs.Io.KnownBytes.{Consumes}
use Rattle.telling.proofs.Filling.{filled, consumes_more}
use Rattle.telling.proofs.reading.fill.Goals as goal

pub loop-done-preserved : goal.loop-done-preserved
loop-done-preserved g c =
    let inv = c.loop-done.invariant in
    let o = g.R.Read.remaining c.args.input.now in
    let q = g.R.Read.remaining c.read.new.self in (
      search rules,
      search rules,
      subst (λ l. Consumes o q l) (sym (filled c.loop-done.done _ c.in_ok-n.n c.loop-done.text c.read.new.buf (search rules) (search rules)))
          (consumes_more o _ q _ _ inv.2 c.in_ok-n.ensures.bytes.0),
    )
