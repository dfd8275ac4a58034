-- Sequences and Scanning are source document 001's own sequences and round; SlotOrder and Slots are document 01's slot order, and Serving counts what it serves.
pub mod Sequences
pub mod SlotOrder
pub mod Slots
pub mod Serving
pub mod Scanning
