pub mod Counting
pub mod Keeping
pub mod Leaving
pub mod Naming
pub mod Ordering
pub mod Pairing
pub mod Receiving
pub mod Staying
