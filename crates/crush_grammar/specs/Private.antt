-- What private clauses alone cite: how the code works. No public clause rests on it.
pub mod Leads
pub mod Scan
pub mod Ends
