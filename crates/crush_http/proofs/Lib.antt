pub mod Numbers
pub mod Streams
pub mod Pieces
pub mod Holding
pub mod Finding
pub mod Connecting
pub mod Readings
pub mod Joining
