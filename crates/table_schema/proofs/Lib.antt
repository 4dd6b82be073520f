pub mod Queries
pub mod Elements
pub mod Tested
pub mod Places
mod Looking
pub mod QueryFacts
pub mod Answering
pub mod Asking
pub mod RowLengths
pub mod Rising
pub mod Listing
pub mod Paging
pub mod Placing
pub mod Failing
