-- What upper crates cite is Laws. The rest is inner; Examples has calls worked by hand.
mod Readying
mod Doings
mod Running
mod Turning
mod Answering
mod Agreeing
mod Examples
pub mod Laws
