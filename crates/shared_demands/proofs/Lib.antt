-- The demands with over-allocated streams stand in Laws, for a single drive in OneDrive. The rest is inner.
mod Checking
mod Turning
mod Fitting
mod Standing
mod Rounds
mod Asking
mod Serving
mod Damaging
mod Refusing
mod Promised
mod Beginning
mod Single
pub mod Laws
pub mod OneDrive
mod Examples
