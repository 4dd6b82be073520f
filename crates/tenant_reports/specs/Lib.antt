pub mod Usage
pub mod Moves
pub mod Impact
pub mod DeviceCsv
pub mod Private
pub mod Picks
