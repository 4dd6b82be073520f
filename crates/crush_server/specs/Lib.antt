pub mod Clients
pub mod Ended
-- for the clauses of the crates above, which name these through this crate
pub use Rattle.tenant_service
pub use Rattle.tenant_store
pub use Rattle.tenant_files
pub use Rattle.crush_http
pub use Rattle.sqlite
