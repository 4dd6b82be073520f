pub mod Script
pub mod Play
pub mod End
pub mod Check
pub mod Private
pub mod FromNothing
