-- Fractions: exact fractions, natural and signed. Rounding: to a whole number, and what a half does. Sizes: what the code's division asks.
pub mod Fractions
pub mod Rounding
pub mod Sizes
