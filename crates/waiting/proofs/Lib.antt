-- What upper crates cite is Laws. The rest is inner.
mod Listing
mod Meant
mod Running
mod Beyond
mod RisingTickets
pub mod Laws
