pub mod CsvForms
mod PlainReplies
mod Texts
mod UsageTexts
pub mod Deciding
pub mod PickForms
mod Seen
