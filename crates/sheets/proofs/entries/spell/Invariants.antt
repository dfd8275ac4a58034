-- The loops of `entries::spell` keep: what is left to read from entry 84 b + j on gives the board asked for. Assumes nothing.
use Rattle.std.proofs.Common.{◌≡◌, ◌+◌, ◌-◌, ◌*◌, ◌/◌, length}
use Rattle.sheets.specs.Entries.{entry_in, spell}
use Rattle.sheets.proofs.entries.spell.Given as goal

abbrev pub invariant-loop-b : goal.invariant-loop-b
invariant-loop-b l =
    let m = 84 * (length l.sheet / 512) in
    spell (entry_in l.sheet) (length l.fn.leaves) l.leaves l.at (84 * l.b) (m - 84 * l.b) ≡ spell (entry_in l.sheet) (length l.fn.leaves) l.fn.leaves 0 0 m

abbrev pub invariant-loop-j : goal.invariant-loop-j
invariant-loop-j l =
    let m = 84 * (length l.sheet / 512) in
    spell (entry_in l.sheet) (length l.fn.leaves) l.leaves l.at (84 * l.b + l.j) (m - (84 * l.b + l.j)) ≡ spell (entry_in l.sheet) (length l.fn.leaves) l.fn.leaves 0 0 m
