mod Spelt
mod Numerals
mod Found
mod Names
mod Trees
mod Going
mod Back
mod States
mod SoundMap
mod Judged
mod Round
mod Only
mod Ascii
mod Sorted
mod Reading
pub mod Checks
pub mod Kept
pub mod Arranged
pub mod FirstOfName
pub mod Named
pub mod Faultless
pub mod Texts
mod ReadBack
