pub mod Bytes
pub mod Kept
pub mod Last
pub mod Ready
