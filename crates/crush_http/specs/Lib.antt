pub mod Head
pub mod Headers
pub mod Messages
pub mod Wire
pub mod Serving
pub mod Laws
pub mod Private
