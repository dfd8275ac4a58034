-- What upper crates cite is Laws. The rest is inner; Examples has walks worked by hand.
mod Nodes
mod Powers
mod Descents
mod Standing
mod Lettered
mod Examples
pub mod Laws
