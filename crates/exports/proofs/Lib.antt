-- Laws of slot on a lent record stand in Laws, those of slot with the tables of over-allocated streams in ShareLaws. The rest is inner.
pub mod Laws
pub mod ShareLaws
mod ShareTurns
mod Steps
mod Turns
