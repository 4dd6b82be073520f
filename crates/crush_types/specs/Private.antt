-- What private clauses alone cite: how the code stores values. No public clause rests on it.
pub mod Padded
