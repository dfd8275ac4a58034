-- `is_sheet_of` meets its contract. Assumes nothing.
use Rattle.std.proofs.Common.{◌≡◌, length, take, refl, sym, arith, length-take-le}
use Rattle.sheets.specs.Entries.{entry_blocks, entry_page, entry_bytes}
use Rattle.sheets.proofs.Spelling.{sheet_other, sheet_same}
use Rattle.general.specs.Lists.{blank}
use Rattle.sheets.proofs.entries.is_sheet_of.Goals as goal

pub returns-then-sheet-size : goal.returns-then-sheet-size
returns-then-sheet-size c = sheet_other _ _ _ _ _ _ _ c.list_pieces-n.ensures.0 refl c.sheet_bytes-size.ensures c.if-sheet-size.true

pub write_sheet-requires : goal.write_sheet-requires
unfolding entry_blocks
write_sheet-requires c =
    let e : length (take c.list_pieces-n.result c.list_pieces-n.new.list) ≡ c.list_pieces-n.result = length-take-le _ _ (omega arith) in
    omega arith

pub slice_bounds-bytes-end : goal.slice_bounds-bytes-end
unfolding entry_blocks
slice_bounds-bytes-end c = omega (arith, c.write_sheet.auto.output)

pub slice_bounds-eq-end : goal.slice_bounds-eq-end
unfolding entry_blocks
slice_bounds-eq-end c = sym (length-take-le _ _ (omega (arith, c.write_sheet.auto.output)))

pub returns : goal.returns
unfolding entry_bytes entry_page blank
returns c = sheet_same _ _ _ _ _ _ _ c.list_pieces-n.ensures.0 refl c.sheet_bytes-size.ensures _ _ _ _ _ c.zeros-list.ensures c.list_pieces-n.ensures.1 c.list_pieces-n.ensures.2 c.write_sheet.ensures c.eq.ensures
