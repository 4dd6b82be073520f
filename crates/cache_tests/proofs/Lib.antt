pub mod Placers
