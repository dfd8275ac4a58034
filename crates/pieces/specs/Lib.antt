pub mod Types
-- Board, Placing and Tidying are document 01's definitions, Literal its own words for runs and pieces; Streams has names with their weights;
-- Fresh is request No. 12's, Listing No. 9's. Halving and Laying are inner: what the searches promise of a block, and the functions of the fresh layout
-- one another.
pub mod Board
pub mod Placing
pub mod Tidying
pub mod Streams
pub mod Fresh
pub mod Literal
pub mod Listing
pub mod Worked
pub mod Halving
pub mod Laying
