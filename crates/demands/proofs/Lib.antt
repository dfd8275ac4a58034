-- The demands stand in Demands; what crates above cite is Laws. The rest is inner.
mod Windows
mod Streams
mod Checks
mod Answering
mod Valid
mod Reached
mod ServedNames
mod Numbering
mod Told
mod Standing
mod Laying
mod Powers
mod Stretching
mod Promised
pub mod Demands
pub mod Laws
mod Examples
