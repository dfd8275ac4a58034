pub mod Turns
pub mod Holding
pub mod Refusing
pub mod Singles
