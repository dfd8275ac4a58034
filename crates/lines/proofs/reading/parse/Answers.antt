-- `lines::reading::parse` meets its contract. Assumes nothing.
use Rattle.std.proofs.Common.{refl, rules, eqb}
use Rattle.std.proofs.lemmas.Iterator.Splits.{YieldsList-from_slice_split}
use borrow.Author.Tests.{tests}
use Rattle.lines.specs.Grammar.{command, parsed}
use Rattle.lines.proofs.Words.{split_words, only_one, only_two, only_three, four_or_more}
use Rattle.lines.proofs.reading.parse.Goals as goal

pub returns-in_default : goal.returns-in_default
unfolding command parsed
returns-in_default c =
    let e = c.split-words.ensures in
    rw (
      ← split_words c.args.line.now,
      only_one _ _ _ c.in_ok-word.was c.next.ensures.steps _ c.in_default.is c.next-2.ensures.steps
          (YieldsList-from_slice_split _ (λ b. eqb b 32) c.args.line.now e.rest e.done e.closure (λ x r q k. search (rules, tests))),
    ) c.lone_word.ensures

pub returns-in_default-next : goal.returns-in_default-next
unfolding parsed
returns-in_default-next c =
    let e = c.split-words.ensures in
    rw (
      ← split_words c.args.line.now,
      only_two _ _ _ c.in_ok-word.was c.next.ensures.steps _ c.in-Some.is c.next-2.ensures.steps _ c.in_default-next.is c.next-3.ensures.steps
          (YieldsList-from_slice_split _ (λ b. eqb b 32) c.args.line.now e.rest e.done e.closure (λ x r q k. search (rules, tests))),
    ) c.with_one.ensures

pub returns-in-None : goal.returns-in-None
unfolding command parsed
returns-in-None c =
    let e = c.split-words.ensures in
    rw (
      ← split_words c.args.line.now,
      only_three _ _ _ c.in_ok-word.was c.next.ensures.steps _ c.in-Some.is c.next-2.ensures.steps _ c.in-Some-next.is c.next-3.ensures.steps _ c.in-None.is c.next-4.ensures.steps
          (YieldsList-from_slice_split _ (λ b. eqb b 32) c.args.line.now e.rest e.done e.closure (λ x r q k. search (rules, tests))),
    ) c.with_two.ensures

pub returns-in-Some-next-2 : goal.returns-in-Some-next-2
unfolding command parsed
returns-in-Some-next-2 c =
    let e = c.split-words.ensures in
    let more = four_or_more _ _ _ c.in_ok-word.was c.next.ensures.steps _ c.in-Some.is c.next-2.ensures.steps _ c.in-Some-next.is c.next-3.ensures.steps _ c.in-Some-next-2.is c.next-4.ensures.steps
    (YieldsList-from_slice_split _ (λ b. eqb b 32) c.args.line.now e.rest e.done e.closure (λ x r q k. search (rules, tests))) in
    rw (← split_words c.args.line.now, more.1) refl
