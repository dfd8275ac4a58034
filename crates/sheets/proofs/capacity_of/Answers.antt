-- `capacity_of` meets its contract. Assumes nothing.
use Rattle.std.proofs.Common.{rules}
use Rattle.sheets.specs.Sheet.{capacity_in}
use Rattle.sheets.proofs.capacity_of.Goals as goal

pub returns : goal.returns
unfolding capacity_in
returns c = search rules
