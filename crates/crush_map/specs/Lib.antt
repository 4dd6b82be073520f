pub mod Faults
pub mod Map
pub mod Mark
pub mod Laws
pub mod Sound
pub mod WeightText
pub mod Private
-- for the clauses of the crates above, which name these through this crate
pub use Rattle.crush_types
