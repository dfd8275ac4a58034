-- `forms::hold_read` meets its contract. Assumes nothing.
use Rattle.std.proofs.Common.{ap, sym, ◌∙◌, List, ℕ, ◌++◌, drop}
use Rattle.sheets.proofs.Spelling.{prefix_length, prefix_idle}
use Rattle.sheets.proofs.Putting.{holds_broken, holds_bad, holds_good}
use Rattle.general.specs.Lists.{blank}
use Rattle.sheets.proofs.forms.hold_read.Goals as goal

pub read-requires : goal.read-requires
unfolding blank
read-requires g c =
    let n = prefix_length _ _ c.zeros-scratch.ensures c.requires.1 in
    rw n (c.requires.0, c.requires.1, c.requires.2, prefix_idle _ _ c.zeros-scratch.ensures c.requires.1, c.requires.4)

pub returns-then-not-read : goal.returns-then-not-read
unfolding blank
returns-then-not-read g c =
    let a = c.args in
    let read = rw (prefix_length _ _ c.zeros-scratch.ensures c.requires.1) at c.read.ensures in
    holds_broken g.F.SheetForm.form a.c a.sheet.now a.board.now _ read.0 c.if-not-read.true

pub returns-then-not-good : goal.returns-then-not-good
unfolding blank
returns-then-not-good g c =
    let a = c.args in
    let read = rw (prefix_length _ _ c.zeros-scratch.ensures c.requires.1) at c.read.ensures in
    holds_bad g.F.SheetForm.form a.c a.sheet.now a.board.now _ read.0 _ c.if-not-read.false read.1 (sym c.good.ensures ∙ c.if-not-good.true)

pub returns : goal.returns
unfolding blank
returns g c =
    let a = c.args in
    let read = rw (prefix_length _ _ c.zeros-scratch.ensures c.requires.1) at c.read.ensures in
    holds_good g.F.SheetForm.form a.c a.sheet.now a.board.now _ read.0 _ c.if-not-read.false read.1 (sym c.good.ensures ∙ c.if-not-good.false) _
    (ap (λ (l : List ℕ). l ++ drop a.c a.board.now) c.copy_from_slice.ensures.after)
