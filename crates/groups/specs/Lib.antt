pub mod Types
pub mod Table
pub mod Rounds
pub mod Results
pub mod Promises
