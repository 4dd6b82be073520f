-- What private clauses alone cite: what the code stores, and the bounds that it stays within. No
-- public clause rests on it.
pub mod Runs
pub mod Calls
pub mod Walks
pub mod Reachable
pub mod Decisions
