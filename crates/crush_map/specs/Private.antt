-- What private clauses alone cite: how the code stores what was declared. No public clause rests on
-- it.
pub mod Tables
