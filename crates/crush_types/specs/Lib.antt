pub mod DeviceValues
pub mod Kinds
pub mod Private
pub mod Weights
