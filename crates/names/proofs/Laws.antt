-- What the crates above may rely on. Assumes nothing.
-- A number is below 4,096; a name without a row has none, nor has one of more than 16 digits; what `empty` gives has no numbers; a name of which no row is found
-- has none.
pub use Rattle.names.proofs.Walks.{number_small, number_none, number_large, blank_empty, found_none}
-- A table that stays as it is has the number that each name has.
pub use Rattle.names.proofs.Changes.{entered_same}
