pub mod Promises
pub mod Serving
pub mod Tables
