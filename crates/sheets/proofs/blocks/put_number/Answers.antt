-- `put_number` meets its contract. Assumes nothing.
use Rattle.std.proofs.Common.{◌≡◌, ◌*◌, ◌+◌, ◌-◌, ◌∙◌, [], ◌∷◌, arith}
use Rattle.sheets.specs.Blocks.{bytes_of}
use Rattle.sheets.proofs.Numbers.{bytes_length}
use Rattle.sheets.proofs.Stores.{sets_mid, two_bytes}
use Rattle.sheets.proofs.blocks.put_number.Goals as goal

pub returns : goal.returns
returns c =
    let a = c.args in
    let k : 2 * a.i + 2 - 2 * a.i ≡ 2 = omega arith in
    let bytes : c.copy_from_slice.new.self ≡ bytes_of (a.n ∷ []) = c.copy_from_slice.ensures.after ∙ c.to_le_bytes.ensures ∙ two_bytes a.n in
    rw (k, bytes) (sets_mid a.sheet.now (bytes_of (a.n ∷ [])) (2 * a.i) 2 (bytes_length (a.n ∷ [])) (omega arith))
