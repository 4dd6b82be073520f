pub mod Places
pub mod Judging
pub mod MapText
pub mod Reading
pub mod Private
-- for the clauses of the crates above, which name these through this crate
pub use Rattle.crush_grammar
pub use Rattle.crush_writing
