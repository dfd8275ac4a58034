-- What the proofs share.
mod Filling
