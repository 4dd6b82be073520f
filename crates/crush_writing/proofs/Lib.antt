pub mod Joins
pub mod Listed
