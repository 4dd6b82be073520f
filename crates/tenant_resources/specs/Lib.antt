pub mod Private
pub mod Orders
pub mod Maps
pub mod RuleTests
pub mod Devices
pub mod Pools
pub mod Exceptions
pub mod Groups
