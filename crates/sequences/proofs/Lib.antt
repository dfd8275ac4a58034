-- What upper crates cite is Laws. The rest is inner.
mod Reverse
mod Zeros
mod Lists
mod Places
mod Stepping
mod Successive
mod Counting
mod Trees
mod Runs
mod Rounds
mod Walk
mod Scan
mod Halves
mod Powers
mod Fair
mod Examples
pub mod Laws
