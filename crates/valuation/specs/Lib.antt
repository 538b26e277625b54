-- Telling: what the functions that look up a run ask.
pub mod Telling
