pub mod Sayings
pub mod Syntax
pub mod Fronts
pub mod Automaton
pub mod Codes
pub mod Private
pub mod Words
pub mod Numbers
