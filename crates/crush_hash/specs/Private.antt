-- What private clauses alone cite: how the code works. No public clause depends on it.
pub mod Eight
pub mod Pairs
pub mod Parts
pub mod Reached
