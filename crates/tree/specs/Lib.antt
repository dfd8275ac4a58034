pub mod Types
-- Marks is the walk, Literal the same in source document 001's own words; Results and Promises are the call that makes it; Engines sets it beside slot.
pub mod Marks
pub mod Literal
pub mod Results
pub mod Promises
pub mod Engines
