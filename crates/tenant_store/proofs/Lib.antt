pub mod Changing
pub mod Counts
pub mod Judging
pub mod Opening
pub mod Receipts
pub mod Refusing
pub mod Stopping
pub mod Watching
