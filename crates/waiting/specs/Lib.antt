pub mod Types
pub mod Layout
pub mod Carrying
pub mod Meaning
pub mod Fates
pub mod Promises
