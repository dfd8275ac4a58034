-- `lines::hearing::finish` meets its contract. Assumes nothing.
use Rattle.std.proofs.Common.{refl, arith, eq-eqb}
use Rattle.lines.specs.Sessions.{talked}
use Rattle.lines.proofs.hearing.finish.Goals as goal

pub returns-then-session-eq0 : goal.returns-then-session-eq0
unfolding talked
returns-then-session-eq0 c = rw (eq-eqb c.args.session.line.count 0 (omega arith)) (record { handed = refl; board = refl; list = refl; bytes = refl; used = omega arith; counts = (omega arith, refl) })
