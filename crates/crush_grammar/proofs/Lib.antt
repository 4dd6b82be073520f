pub mod IsRead
pub mod Written
pub mod States
pub mod Endings
pub mod Cuts
pub mod Lines
pub mod Codes
pub mod Breaking
pub mod Whole
pub mod Unique
pub mod Forms
pub mod Names
mod Scans
mod Digits
mod Marks
