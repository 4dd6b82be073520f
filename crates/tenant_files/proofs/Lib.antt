pub mod ClosedFacts
pub mod RefusedFacts
pub mod StoredFacts
pub mod UsedFacts
