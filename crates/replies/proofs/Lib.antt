-- The laws by which the exported functions keep their promises stand in Laws.
pub mod Laws
