pub mod EndFacts
pub mod PlayFacts
