pub mod Types
pub mod Answers
pub mod Checks
pub mod Results
pub mod Promises
