-- What a reader must believe of the cost figures. Figures: the formulas. Bounds, Ranges: the inputs and their check. Answers: of the call. Cases: C10 to
-- C12. Numerators, Sizes: what the code works out, and how large it gets. Rounding: each figure rounded once.
pub mod Types
pub mod Bounds
pub mod Figures
pub mod Ranges
pub mod Answers
pub mod Numerators
pub mod Sizes
pub mod Rounding
pub mod Cases
