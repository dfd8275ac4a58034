pub mod Records
pub mod Types
pub mod Refusals
pub mod Answers
pub mod Spacing
pub mod Gaps
pub mod Results
pub mod Promises
