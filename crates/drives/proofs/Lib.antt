-- What upper crates cite is Laws. The rest is inner; Examples has checks worked by hand.
mod PairChecks
mod Single
mod Alike
mod Answering
mod Examples
pub mod Laws
