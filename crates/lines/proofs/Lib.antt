-- What upper crates cite is Laws. The rest is inner.
mod Words
mod Spelling
mod Lengths
mod Decimals
mod Written
mod RoundNames
mod Talks
mod Inputs
mod Parts
mod Unique
mod Fetched
mod Examples
pub mod Laws
