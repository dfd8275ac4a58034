pub mod Histories
pub mod Refusing
pub mod Holdings
pub mod Rounds
pub mod Certificates
pub mod Stretches
pub mod Layouts
