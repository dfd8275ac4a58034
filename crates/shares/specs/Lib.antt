pub mod States
pub mod Checks
pub mod Results
pub mod Promises
