-- What upper crates cite is Laws.
mod Examples
pub mod Laws
