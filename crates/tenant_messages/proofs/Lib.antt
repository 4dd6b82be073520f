pub mod Bodies
pub mod Finding
pub mod Objects
pub mod OptionalKeys
pub mod PlainSlots
pub mod Texts
