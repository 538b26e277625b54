-- Telling: what a first layer tells.
pub mod Telling
