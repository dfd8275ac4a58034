-- `pieces::damage::scan` meets its contract. Assumes nothing.
use Rattle.std.proofs.Common.{sym, ◌∙◌, arith, pow_pos}
use Rattle.pieces.proofs.DamageTest.{run_small, scanned_past, scanned_run, scanned_low, scanned_both}
use Rattle.pieces.proofs.damage.+scan.Goals as goal

pub returns-then-c-a : goal.returns-then-c-a
returns-then-c-a t c = scanned_past _ _ _ _ _ c.requires.0.table c.if-c-a.true

pub note-requires : goal.note-requires
note-requires t c =
    let p = c.requires.0 in
    (omega (arith, run_small _ _ _ _ _ p.small (sym c.is_run.ensures ∙ c.if-is_run.true)), p.table, omega (arith, p.many, p.block.ends, pow_pos c.args.l))

pub returns-then-is_run : goal.returns-then-is_run
returns-then-is_run t c =
    let run = sym c.is_run.ensures ∙ c.if-is_run.true in
    scanned_run _ _ _ _ _ _ _ _ run (run_small _ _ _ _ _ c.requires.0.small run) c.note.ensures

pub returns-then-scan : goal.returns-then-scan
returns-then-scan t c = rw c.if-scan.true (scanned_low _ _ _ _ _ (omega arith) (sym c.is_run.ensures ∙ c.if-is_run.false) _ _ (rw c.if-scan.true at c.scan.ensures))

pub returns-else-scan : goal.returns-else-scan
returns-else-scan t c = scanned_both _ _ _ _ _ (omega arith) (sym c.is_run.ensures ∙ c.if-is_run.false) _ _ _ _ (rw c.if-scan.false at c.scan.ensures) (rw c.size_of.ensures at c.scan-else-scan.ensures)
