pub mod TestForms
pub mod Importing
pub mod Testing
pub mod DeviceForms
pub mod DeviceRanges
pub mod NameForms
pub mod PlainReplies
pub mod GroupAnswers
mod GroupTexts
pub mod Mapped
pub mod PoolForms
pub mod ExceptionForms
