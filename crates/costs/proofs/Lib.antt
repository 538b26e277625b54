-- Ranges: what the checks say. Segments and Formulas: the three numerators. Rounding: each figure once. Cases: worked cases of the call.
pub mod Ranges
pub mod Segments
pub mod Formulas
pub mod Rounding
pub mod Cases
