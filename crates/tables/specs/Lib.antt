pub mod Sharing
pub mod Settling
pub mod Turns
pub mod Looking
