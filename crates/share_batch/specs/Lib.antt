pub mod Entries
pub mod Promises
pub mod Singles
