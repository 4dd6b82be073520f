pub mod Caches
pub mod Private
