pub mod Input
pub mod Writing
pub mod History
pub mod Repeats
pub mod Served
pub mod Private
