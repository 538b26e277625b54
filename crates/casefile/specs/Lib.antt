-- The case that a text holds: Reading, its record, its prices and the first cause; Answers, what is answered and left in the slice.
pub mod Types
pub mod Reading
pub mod Answers
