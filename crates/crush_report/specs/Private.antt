-- What private clauses alone cite: how the code works. No public clause depends on it.
pub mod Places
pub mod Tallies
pub mod Parts
pub mod Touching
