mod Masks
pub mod Excepting
pub mod Flags
pub mod Pairs
mod Placed
mod Ranges
mod Seen
mod Uplists
pub mod ValidChanges
