pub mod Closed
pub mod Closing
pub mod Opened
pub mod Refused
pub mod Stored
pub mod Used
-- for the clauses of the crates above, which name these through this crate
pub use Rattle.tenant_core
pub use Rattle.sqlite_store
pub use Rattle.sqlite_wal
