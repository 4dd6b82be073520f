pub mod CallParts
pub mod Json
pub mod Forms
pub mod Reply
pub mod Refusals
pub mod Numbers
pub mod Reading
pub mod Slots
