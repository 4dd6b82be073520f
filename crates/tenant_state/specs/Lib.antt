pub mod Ordered
pub mod Receipts
pub mod State
pub mod Valid
pub mod Made
pub mod Size
