pub mod Gains
mod GainCounts
mod Counting
pub mod Groups
pub mod Kept
mod Moving
mod OfMap
pub mod OnMaps
pub mod Short
mod Sums
mod Tallies
mod Ups
pub mod DeviceTexts
pub mod CsvTexts
pub mod Reached
pub mod ReadBack
pub mod DeviceForms
mod Lists
mod Parts
mod Touching
