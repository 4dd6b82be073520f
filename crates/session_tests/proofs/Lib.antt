pub mod Stopped
