-- What only private clauses and proofs cite: how the code works. No public clause depends on it.
pub mod Inserting
pub mod Performing
