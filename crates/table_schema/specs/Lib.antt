pub mod Layout
pub mod Holds
pub mod Values
pub mod Ready
pub mod Refused
pub mod Found
pub mod Asked
pub mod Reads
pub mod Orders
-- for the clauses of the crates above, which name these through this crate
pub use Rattle.sqlite_catalog
pub use Rattle.sqlite_keyed
pub use Rattle.sqlite_rules
pub use Rattle.sqlite_schema
pub use Rattle.sqlite_sql
pub use Rattle.sqlite_tied
pub use Rattle.sqlite_trees
pub use Rattle.sqlite_value
