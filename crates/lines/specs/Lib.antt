pub mod Grammar
pub mod Printing
pub mod Replies
pub mod Sessions
pub mod Console
