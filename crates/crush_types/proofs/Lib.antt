pub mod DeviceValues
pub mod Names
