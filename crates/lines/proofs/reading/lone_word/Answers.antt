-- `lines::reading::lone_word` meets its contract. Assumes nothing.
use Rattle.lines.specs.Grammar.{slot_word, round_word, lone_word}
use Rattle.lines.proofs.Words.{found_same}
use Rattle.lines.proofs.reading.lone_word.Goals as goal

pub returns-then-eq : goal.returns-then-eq
unfolding lone_word
returns-then-eq c = simp (found_same c.args.word.now slot_word c.eq.ensures c.if-eq.true)

pub returns-then-eq-2 : goal.returns-then-eq-2
unfolding lone_word
returns-then-eq-2 c = simp (found_same c.args.word.now slot_word c.eq.ensures c.if-eq.false, found_same c.args.word.now round_word c.eq-else-eq.ensures c.if-eq-2.true)

pub returns-else-eq-2 : goal.returns-else-eq-2
unfolding lone_word
returns-else-eq-2 c = simp (found_same c.args.word.now slot_word c.eq.ensures c.if-eq.false, found_same c.args.word.now round_word c.eq-else-eq.ensures c.if-eq-2.false)
