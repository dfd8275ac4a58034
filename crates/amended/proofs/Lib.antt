-- The demands as amended stand in Demands, for two drives in TwoDemands, and for tables of changes in Batches; Laws has what crates above cite. The rest is inner.
mod Projecting
mod Carrying
mod Projection
mod Sounding
mod Rounding
mod Stretching
mod Stretches
mod Answering
mod Damaging
mod Listing
mod Promised
mod Held
mod Turning
mod Sharing
mod TurnRounds
mod TurnStretches
mod TurnAnswers
mod TurnLists
mod TurnPromised
pub mod Demands
pub mod TwoDemands
pub mod Batches
pub mod Laws
mod Examples
mod TurnExamples
