-- What upper crates cite is Laws.
pub mod Laws
