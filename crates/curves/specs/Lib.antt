-- What a reader must believe of the bid curve: Bounds and Ranges, the inputs and their causes; Curve, its prices and segments; Answers, what
-- the call gives and leaves in the lent lists; Laws, what is proved of every curve; Sizes and Passes, how the code goes.
pub mod Types
pub mod Bounds
pub mod Ranges
pub mod Curve
pub mod Answers
pub mod Laws
pub mod Sizes
pub mod Passes
