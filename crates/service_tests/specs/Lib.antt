pub mod Fixed
pub mod Fresh
