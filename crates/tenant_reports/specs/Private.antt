-- What only private clauses cite: how the code works. No public clause depends on it.
pub mod Pieces
pub mod Seen
