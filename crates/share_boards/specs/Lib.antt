pub mod Types
pub mod Opening
pub mod Looking
pub mod Starting
