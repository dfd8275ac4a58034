-- What upper crates cite is Laws; Layouts ties the test of a sheet to document 01's own words. The rest is inner.
mod Lists
mod Numbers
mod Pages
pub mod Layouts
mod Stores
mod Spelling
mod Checked
mod Answers
mod Putting
pub mod Trips
mod Restored
pub mod Faults
mod Converting
pub mod Laws
