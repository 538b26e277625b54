-- Fractions: by their worth. Division: signed, down and toward zero. Parity: even and odd. Rounding: within a half, at a half even, and alike for
-- equal fractions. Neighbours: no other number is so. Cases: worked examples. Sizes: numbers that fit.
pub mod Fractions
pub mod Division
pub mod Parity
pub mod Rounding
pub mod Neighbours
pub mod Cases
pub mod Sizes
