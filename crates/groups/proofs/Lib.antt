-- What upper crates cite is Laws. The rest is inner; Examples has tables worked by hand.
mod Windows
mod Lists
mod Pointers
mod AnyPart
mod Faults
mod Adding
mod Checked
mod Rounding
mod RoundSteps
mod Examples
pub mod Laws
