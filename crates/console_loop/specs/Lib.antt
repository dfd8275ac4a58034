pub mod Failing
pub mod Serving
