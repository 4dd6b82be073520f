pub mod ContentFacts
pub mod Following
pub mod FoundFacts
pub mod LengthFacts
pub mod Loading
pub mod NameFacts
pub mod NumberFacts
pub mod SizeFacts
