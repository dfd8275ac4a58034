-- What upper crates cite is Laws. The rest is inner; Examples has calls worked by hand.
mod Openings
mod Looks
mod Starts
mod Agreeing
mod Relaid
mod Examples
pub mod Laws
