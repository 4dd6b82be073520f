pub mod Groups
pub mod Pools
pub mod States
pub mod Changes
pub mod Exceptions
pub mod Placements
pub mod Placers
pub mod Private
pub mod Contents
pub mod Hashes
pub mod Laws
-- for the clauses of the crates above, which name these through this crate
pub use Rattle.crush_map
pub use Rattle.crush_choose
