-- Nothing above this crate cites a law of it.
mod Hearing
