-- `entries::spell` meets its contract. Assumes nothing.
use Rattle.std.proofs.Common.{◌≡◌, ◌<◌, sym, ◌∙◌, ◌+◌, ◌*◌, ◌/◌, ◌%◌, ℕ, arith}
use Rattle.sheets.proofs.Spelling.{name_at, start_at, size_at, readable_elim, spell_more, spell_stop, spell_end}
use Rattle.sheets.proofs.entries.spell.Goals as goal

pub size_of-size-requires : goal.size_of-size-requires
size_of-size-requires c = let fit = readable_elim _ _ _ _ _ (sym c.is_readable.ensures ∙ c.if-not-is_readable.false) in omega arith

pub fill-requires : goal.fill-requires
fill-requires c = let fit = readable_elim _ _ _ _ _ (sym c.is_readable.ensures ∙ c.if-not-is_readable.false) in omega arith

pub overflow_add-at : goal.overflow_add-at
overflow_add-at c = let fit = readable_elim _ _ _ _ _ (sym c.is_readable.ensures ∙ c.if-not-is_readable.false) in omega arith

-- where entry j of block b stands
place : (b j : ℕ) → j < 84 → 256 * b + (3 + 3 * j) ≡ 256 * ((84 * b + j) / 84) + (3 + 3 * ((84 * b + j) % 84))
place b j h = omega arith

pub loop-j-preserved : goal.loop-j-preserved
loop-j-preserved c =
    let e : 84 * c.loop-b.b + (c.loop-j.j + 1) ≡ 84 * c.loop-b.b + c.loop-j.j + 1 = omega arith in
    let at = place c.loop-b.b c.loop-j.j c.loop-j-test.true in
    rw e (spell_more _ _ _ _ _ _ _ _ _ (omega arith) (c.number_at-x.ensures.0 ∙ name_at _ _ _ at) (c.number_at-a.ensures.0 ∙ start_at _ _ _ at) (c.number_at-l.ensures.0 ∙ size_at _ _ _ at) _ _ c.size_of-size.ensures (sym c.is_readable.ensures ∙ c.if-not-is_readable.false) c.fill.ensures ∙ c.loop-j.invariant)

pub returns-then-not-is_readable : goal.returns-then-not-is_readable
returns-then-not-is_readable c =
    let at = place c.loop-b.b c.loop-j.j c.loop-j-test.true in
    spell_stop _ _ _ _ _ _ _ _ _ (omega arith) (c.number_at-x.ensures.0 ∙ name_at _ _ _ at) (c.number_at-a.ensures.0 ∙ start_at _ _ _ at) (c.number_at-l.ensures.0 ∙ size_at _ _ _ at) (sym c.is_readable.ensures ∙ c.if-not-is_readable.true) ∙ c.loop-j.invariant

pub returns : goal.returns
returns c = spell_end _ _ _ _ _ _ (omega arith) ∙ c.loop-b.invariant
