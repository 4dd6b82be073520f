-- What private clauses alone cite: how the code works. No public clause rests on it.
pub mod Ending
pub mod Latching
pub mod Reading
pub mod Verdict
