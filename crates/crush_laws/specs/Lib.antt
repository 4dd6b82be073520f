pub mod MapTree
pub mod Walk
pub mod Sessions
pub mod Sizes
pub mod Served
