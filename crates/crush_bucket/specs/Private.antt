-- What private clauses alone cite: how the code works. No public clause depends on it.
pub mod Ahead
pub mod Laid
pub mod Asked
pub mod Descent
pub mod Draw
pub mod Kept
pub mod Soonest
pub mod Walks
